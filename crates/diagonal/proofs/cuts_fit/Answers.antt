-- `cuts_fit` meets its contract.
use borrow.Author.Tests.{eqb-true, eqb-false}
use lib.Dec.{eqb}
use lib.ListN.{length}
use mathlib.Core.Bool.{Bool, false}
use mathlib.Core.List.{List, [], ◌∷◌}
use mathlib.Core.Path.{◌≡◌, refl, sym, ap, ◌∙◌}
use native.Mathlib.Omega.{arith}
use Prim.Native.Nat.{ℕ, ◌≤◌}
use Rattle.multipartition.specs.Plans.{least_of}
use Rattle.planner.proofs.Given.{none_given}
use Rattle.diagonal.specs.Diagonal.{side_fits}
use Rattle.diagonal.proofs.cuts_fit.Goals as goal

pub returns-then-is_empty : goal.returns-then-is_empty
returns-then-is_empty c =
    let a = c.args in
    let none : length a.given.now ≡ 0 = eqb-true (length a.given.now) 0 (sym c.is_empty.ensures ∙ c.if-is_empty.true) in
    c.side_within.ensures ∙ ap (side_fits a.s a.extents.now) (none_given (length a.extents.now) a.given.now none)

-- some are given
some_given : (d : ℕ) (given : List ℕ) → 1 ≤ length given → given ≡ least_of d given
some_given d [] e = absurd (omega arith)
some_given d (t ∷ given) e = refl

some : (given : List ℕ) {r : Bool} → r ≡ eqb (length given) 0 → r ≡ false → 1 ≤ length given
some given {r} e f = let many = eqb-false (length given) 0 (sym e ∙ f) in omega (arith, many)

pub side_fits-requires : goal.side_fits-requires
side_fits-requires c =
    let a = c.args in
    omega (arith, c.requires, ap length (some_given (length a.extents.now) a.given.now (some a.given.now c.is_empty.ensures c.if-is_empty.false)))

pub returns : goal.returns
returns c =
    let a = c.args in
    c.side_fits.ensures
    ∙ ap (side_fits a.s a.extents.now) (some_given (length a.extents.now) a.given.now (some a.given.now c.is_empty.ensures c.if-is_empty.false))
