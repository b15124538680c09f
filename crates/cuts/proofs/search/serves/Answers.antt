-- `cuts::search::serves` meets its contract.
use mathlib.Core.Path.{◌≡◌}
use mathlib.Core.Logic.{inl, inr}
use mathlib.Core.Bool.{Bool, true, false}
use Prim.Native.Nat.{ℕ}
use Rattle.cuts.specs.Search.{IsWithin, Serves}
use Rattle.cuts.proofs.search.serves.Goals as goal

by_test : (spare each n : ℕ) (t : Bool) → each ≡ 1 → IsWithin spare n t → Serves spare each n t
by_test spare each n true e h = (e, h)
by_test spare each n false e h = inr h

pub returns-then-each-ne1 : goal.returns-then-each-ne1
returns-then-each-ne1 c = inl c.if-each-ne1.true

pub returns : goal.returns
returns c =
    let args = c.args in
    by_test args.spare args.each args.n c.is_within.result c.if-each-ne1.false c.is_within.ensures
