-- `cuts::search::is_below` meets its contract.
use mathlib.Core.Path.{◌≡◌, refl, sym}
use mathlib.Core.Logic.{inl, inr, ⊎_elim}
use mathlib.Core.Bool.{Bool, true, false, ◌&&◌, ◌||◌}
use Prim.Native.Nat.{◌/◌}
use native.Mathlib.Nat.{eq-or-lt_of_le}
use borrow.Author.Tests.{ltb-true, ltb-false, eqb-true, eqb-false}
use lib.Dec.{ltb, eqb}
use Rattle.cuts.specs.declared.search.Best.{Best}
use Rattle.cuts.specs.Answers.{IsBelow}
use Rattle.cuts.proofs.search.is_below.Goals as goal

by_tests : (x y : Best) (s t u : Bool) → ltb (x.packed / 8192) (y.packed / 8192) ≡ s → eqb (x.packed / 8192) (y.packed / 8192) ≡ t → ltb x.tiles y.tiles ≡ u →
    IsBelow x y (s || (t && u))
by_tests x y true t u e f g = inl (ltb-true (x.packed / 8192) (y.packed / 8192) e)
by_tests x y false true true e f g = inr (eqb-true (x.packed / 8192) (y.packed / 8192) f, ltb-true x.tiles y.tiles g)
by_tests x y false true false e f g = inr (sym (eqb-true (x.packed / 8192) (y.packed / 8192) f), ltb-false x.tiles y.tiles g)
by_tests x y false false u e f g =
    inl (⊎_elim (λ q. absurd (eqb-false (x.packed / 8192) (y.packed / 8192) f (sym q))) (λ l. l) (eq-or-lt_of_le (ltb-false (x.packed / 8192) (y.packed / 8192) e)))

pub returns : goal.returns
returns c =
    let args = c.args in
    by_tests args.x args.y (ltb (args.x.packed / 8192) (args.y.packed / 8192)) (eqb (args.x.packed / 8192) (args.y.packed / 8192))
    (ltb args.x.tiles args.y.tiles) refl refl refl
