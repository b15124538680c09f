-- A position is inside a grid exactly if it has as many coordinates as there are cuts, each below its cut.
use mathlib.Core.Path.{◌≡◌, refl, sym, ap, ◌∙◌}
use mathlib.Core.Bool.{Bool, true, false, ◌&&◌}
use mathlib.Core.List.{List, [], ◌∷◌}
use Prim.Native.Nat.{ℕ}
use lib.Dec.{ltb, eqb, eqb-zero-suc, eqb-suc-zero, eqb-suc-suc}
use lib.ListN.{length, get_or, take}
use lib.Seq.{get_or-take, length-take-le}
use borrow.Author.Tests.{ltb-true, eqb-true, eq-eqb, ne_eqb}
use Rattle.multipartition.specs.Lists.{all_below}
use Rattle.multipartition.specs.Tiles.{is_inside}
use Rattle.layout.specs.declared.Plan.{Plan}
use Rattle.layout.specs.Plans.{layout_of}
use Rattle.layout.specs.Shaped.{Shaped}
use Rattle.layout.specs.Positions.{InGrid}
use Rattle.layout.proofs.Lists.{both, all_none, all_first, all-at, all-ext}

swap : (a b c : Bool) → (a && (b && c)) ≡ (b && (a && c))
swap true true c = refl
swap true false c = refl
swap false true c = refl
swap false false c = refl

pub inside_by_places : (cuts position : List ℕ)
    → is_inside cuts position ≡ (eqb (length position) (length cuts) && all_below (length cuts) (λ k. ltb (get_or position k 0) (get_or cuts k 0)))
unfolding is_inside
inside_by_places [] [] = sym (all_none _)
inside_by_places [] (i ∷ position) = rw eqb-suc-zero
inside_by_places (b ∷ cuts) [] = rw eqb-zero-suc
inside_by_places (b ∷ cuts) (i ∷ position) =
    rw (all_first (length cuts) (λ k. ltb (get_or (i ∷ position) k 0) (get_or (b ∷ cuts) k 0)), eqb-suc-suc (length position) (length cuts), inside_by_places cuts position)
    (swap (ltb i b) (eqb (length position) (length cuts)) (all_below (length cuts) (λ k. ltb (get_or position k 0) (get_or cuts k 0))))

-- the same in the plan's own array
module _ (plan : Plan) (s : Shaped plan) (position : List ℕ) where
  pub inside_of-plan : is_inside (layout_of plan).cuts position
      ≡ (eqb (length position) plan.d && all_below plan.d (λ k. ltb (get_or position k 0) (get_or plan.cuts k 0)))
  unfolding layout_of
  inside_of-plan =
      let d = plan.d in
      inside_by_places (take d plan.cuts) position
      ∙ rw (length-take-le d plan.cuts s.cuts_long)
      (ap (λ (b : Bool). eqb (length position) d && b) (all-ext d _ _ (λ k l. ap (ltb (get_or position k 0)) (get_or-take d plan.cuts k 0 l))))

  pub outside_by-length : (length position ≡ plan.d → ⊥) → is_inside (layout_of plan).cuts position ≡ false
  outside_by-length h = inside_of-plan ∙ rw (ne_eqb (length position) plan.d h)

  -- of d coordinates the cuts decide
  pub inside_if_below : (below : Bool) → length position ≡ plan.d
      → below ≡ all_below plan.d (λ k. ltb (get_or position k 0) (get_or plan.cuts k 0)) → is_inside (layout_of plan).cuts position ≡ below
  inside_if_below below long e = inside_of-plan ∙ rw (eq-eqb (length position) plan.d long) (sym e)

  pub in_grid_lem : is_inside (layout_of plan).cuts position ≡ true → InGrid plan position
  in_grid_lem e =
      let below : Bool = all_below plan.d (λ k. ltb (get_or position k 0) (get_or plan.cuts k 0)) in
      let t = both (eqb (length position) plan.d) below (sym inside_of-plan ∙ e) in
      record { coordinates = eqb-true _ _ t.0; below = λ k l. ltb-true _ _ (all-at plan.d _ t.1 k l) }
