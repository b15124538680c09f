-- `cuts::search::better` meets its contract.
use mathlib.Core.Path.{refl, subst}
use mathlib.Core.Logic.{inl, inr}
use mathlib.Core.Bool.{Bool}
use Rattle.cuts.specs.Answers.{IsBelow}
use Rattle.cuts.proofs.search.better.Goals as goal

pub returns-then-is_below : goal.returns-then-is_below
returns-then-is_below c =
    let args = c.args in
    inr (refl, subst (λ (t : Bool). IsBelow args.y args.x t) c.if-is_below.true c.is_below.ensures)

pub returns : goal.returns
returns c =
    let args = c.args in
    inl (refl, subst (λ (t : Bool). IsBelow args.y args.x t) c.if-is_below.false c.is_below.ensures)
