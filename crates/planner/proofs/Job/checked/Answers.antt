-- `checked` meets its contract: the lines 1 and 2, then the others.
use mathlib.Core.Path.{sym, ◌∙◌}
use Rattle.std.proofs.lemmas.Result.{err_from_is_err_and}
use Rattle.multipartition.specs.Answers.{answered}
use Rattle.refusals.proofs.Laws.{turned_back-on, passed-on}
use Rattle.planner.specs.Asked.{asked}
use Rattle.planner.specs.Planned.{size_checks, list_checks}
use Rattle.planner.proofs.Checks.{sizes_passed}
use Rattle.planner.proofs.Job.checked.Goals as goal

pub returns-in_err-sizes_checked : goal.returns-in_err-sizes_checked
returns-in_err-sizes_checked c =
    let job = asked c.args.self in
    let p = err_from_is_err_and c.from_residual.result c.from_residual.ensures.1 in
    rw (p.1, p.2) (turned_back-on (size_checks job) (list_checks job) tt (answered job) c.in_err-sizes_checked.ensures)

pub lists_checked-requires : goal.lists_checked-requires
lists_checked-requires c = sizes_passed (asked c.args.self) c.in_ok-sizes_checked.ensures

pub returns : goal.returns
returns c =
    let job = asked c.args.self in
    c.lists_checked.ensures ∙ sym (passed-on (size_checks job) (list_checks job) tt tt (answered job) c.in_ok-sizes_checked.ensures).1
