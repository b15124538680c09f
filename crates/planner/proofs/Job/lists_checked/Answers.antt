-- `lists_checked` meets its contract: the lines 3, 4 and 13, one after the other.
use mathlib.Core.List.{[], ◌∷◌}
use native.Mathlib.Omega.{arith}
use Rattle.std.proofs.lemmas.Result.{err_from_is_err_and}
use Rattle.multipartition.specs.Answers.{answered}
use Rattle.multipartition.specs.Jobs.{lengths_check, extents_check, least_check}
use Rattle.refusals.proofs.Laws.{turned_back-on}
use Rattle.planner.specs.Asked.{asked}
use Rattle.planner.proofs.Given.{few_given}
use Rattle.planner.proofs.Checks.{many, refuses_4, refuses_13, lists-pass, measured_of}
use Rattle.planner.proofs.Job.lists_checked.Goals as goal

pub returns-in_err-lengths_checked : goal.returns-in_err-lengths_checked
returns-in_err-lengths_checked c =
    let job = asked c.args.self in
    let p = err_from_is_err_and c.from_residual.result c.from_residual.ensures.1 in
    rw (p.1, p.2) (turned_back-on (lengths_check job ∷ []) (extents_check job ∷ least_check job ∷ []) tt (answered job) c.in_err-lengths_checked.ensures)

pub extents_checked-requires : goal.extents_checked-requires
extents_checked-requires c = omega (arith, (many (asked c.args.self) c.in_ok-lengths_checked.ensures).0, c.requires.1)

pub returns-in_err-extents_checked : goal.returns-in_err-extents_checked
returns-in_err-extents_checked c =
    let p = err_from_is_err_and c.from_residual-in_err-extents_checked.result c.from_residual-in_err-extents_checked.ensures.1 in
    rw (p.1, p.2) (refuses_4 (asked c.args.self) c.in_ok-lengths_checked.ensures c.in_err-extents_checked.ensures)

pub least_checked-requires : goal.least_checked-requires
least_checked-requires c = few_given c.args.self.d c.args.self.least.now c.requires.1 (many (asked c.args.self) c.in_ok-lengths_checked.ensures).2

pub returns-in_err-least_checked : goal.returns-in_err-least_checked
returns-in_err-least_checked c =
    let p = err_from_is_err_and c.from_residual-in_err-least_checked.result c.from_residual-in_err-least_checked.ensures.1 in
    rw (p.1, p.2)
    (refuses_13 (asked c.args.self) c.in_ok-lengths_checked.ensures c.in_ok-extents_checked.ensures c.in_err-least_checked.ensures)

pub invariant_of-result : goal.invariant_of-result
invariant_of-result c = record {
  measured = measured_of (asked c.args.self) c.requires c.in_ok-lengths_checked.ensures c.in_ok-least_checked.ensures;
}

pub returns : goal.returns
returns c = lists-pass (asked c.args.self) c.in_ok-lengths_checked.ensures c.in_ok-extents_checked.ensures c.in_ok-least_checked.ensures
