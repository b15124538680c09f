-- `extents_checked` meets its contract.
use mathlib.Core.Path.{sym, ◌∙◌}
use borrow.Author.Tests.{tests}
use Rattle.std.proofs.Common.{rules}
use Rattle.std.proofs.lemmas.Iterator.{YieldsList-from_slice}
use Rattle.std.proofs.lemmas.Iterator.Search.{position_from_yields_List}
use Rattle.multipartition.specs.Plans.{between}
use Rattle.multipartition.proofs.Tests.{outside_range, outside-range}
use Rattle.planner.proofs.Places.{some_fails, none_fails}
use Rattle.planner.proofs.Job.extents_checked.Goals as goal

pub returns-in-Some : goal.returns-in-Some
returns-in-Some c =
    let extents = c.args.self.extents.now in
    some_fails (between 1 1000000) (outside_range 1 1000000) (λ n. sym (outside-range 1 1000000 n)) extents 4 c.in-Some.k
    (sym c.in-Some.is
    ∙ position_from_yields_List (outside_range 1 1000000) _ _ _ c.position.ensures.ran (YieldsList-from_slice extents cc) (λ x b q k. search (rules, tests)))

pub returns-in-None : goal.returns-in-None
returns-in-None c =
    let extents = c.args.self.extents.now in
    none_fails (between 1 1000000) (outside_range 1 1000000) (λ n. sym (outside-range 1 1000000 n)) extents 4
    (sym c.in-None.is
    ∙ position_from_yields_List (outside_range 1 1000000) _ _ _ c.position.ensures.ran (YieldsList-from_slice extents cc) (λ x b q k. search (rules, tests)))
