-- A plan by its lists: it is in shape only if they have the places that a plan's have, and then it is the plan of just these lists.
use mathlib.Core.Path.{◌≡◌, refl}
use mathlib.Core.Bool.{Bool, true, false}
use mathlib.Core.List.{List}
use Prim.Native.Nat.{ℕ}
use native.Mathlib.Omega.{arith}
use lib.Dec.{eqb}
use lib.ListN.{length}
use borrow.Author.Tests.{eqb-true, eq-eqb}
use Rattle.multipartition.specs.Plans.{in_shape}
use Rattle.layout.specs.Plans.{layout_of, no_plan}
use Rattle.layout.specs.Lent.{Lent, is_lent, lent_plan, plan_over}
use Rattle.layout.proofs.Lists.{both}

module _ (extents cuts moduli matrix least : List ℕ) where
  pub lent_of_test : is_lent extents cuts moduli matrix least ≡ true → Lent extents cuts moduli matrix least
  lent_of_test e =
      let four = both _ (eqb (length least) 5) e in
      let three = both _ (eqb (length matrix) 25) four.0 in
      let two = both _ (eqb (length moduli) 5) three.0 in
      let one = both (eqb (length extents) 5) (eqb (length cuts) 5) two.0 in
      record {
        extents_places = eqb-true _ _ one.0;
        cuts_places = eqb-true _ _ one.1;
        moduli_places = eqb-true _ _ two.1;
        matrix_places = eqb-true _ _ three.1;
        least_places = eqb-true _ _ four.1;
      }

  module _ (d p kind : ℕ) where
    pub plan_over_lem : Lent extents cuts moduli matrix least → plan_over d p kind extents cuts moduli matrix least ≡ lent_plan d p kind extents cuts moduli matrix least
    unfolding plan_over
    plan_over_lem l =
        rw (
          eq-eqb _ _ l.extents_places,
          eq-eqb _ _ l.cuts_places,
          eq-eqb _ _ l.moduli_places,
          eq-eqb _ _ l.matrix_places,
          eq-eqb _ _ l.least_places,
        )

    pub not_lent : is_lent extents cuts moduli matrix least ≡ false → in_shape (layout_of (plan_over d p kind extents cuts moduli matrix least)) ≡ false
    unfolding plan_over in_shape layout_of no_plan
    not_lent e = rw e

    pub lent_of_shape : in_shape (layout_of (plan_over d p kind extents cuts moduli matrix least)) ≡ true → Lent extents cuts moduli matrix least
    lent_of_shape shape = go (is_lent extents cuts moduli matrix least) refl
      where
        go : (b : Bool) → is_lent extents cuts moduli matrix least ≡ b → Lent extents cuts moduli matrix least
        go true e = lent_of_test e
        go false e = let no = not_lent e in let clash : ◌≡◌ {A = ℕ} 0 1 = cc in absurd (omega arith)
