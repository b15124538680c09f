-- `least_checked` meets its contract.
use mathlib.Core.Path.{sym, ◌∙◌}
use borrow.Author.Tests.{tests}
use lib.Dec.{leb, eqb}
use Rattle.std.proofs.Common.{rules}
use Rattle.std.proofs.lemmas.Iterator.{YieldsList-from_slice}
use Rattle.std.proofs.lemmas.Iterator.Search.{position_from_yields_List}
use Rattle.planner.proofs.Given.{zero_given}
use Rattle.planner.proofs.Places.{some_fails, none_fails, is_zero}
use Rattle.planner.proofs.Job.least_checked.Goals as goal

pub returns-in-Some : goal.returns-in-Some
returns-in-Some c =
    let job = c.args.self in
    rw (sym (zero_given job.d job.least.now))
    (some_fails (leb 1) (λ t. eqb t 0) is_zero job.least.now 13 c.in-Some.k
    (sym c.in-Some.is
    ∙ position_from_yields_List (λ t. eqb t 0) _ _ _ c.position.ensures.ran (YieldsList-from_slice job.least.now cc) (λ x b q k. search (rules, tests))))

pub returns-in-None : goal.returns-in-None
returns-in-None c =
    let job = c.args.self in
    rw (sym (zero_given job.d job.least.now))
    (none_fails (leb 1) (λ t. eqb t 0) is_zero job.least.now 13
    (sym c.in-None.is
    ∙ position_from_yields_List (λ t. eqb t 0) _ _ _ c.position.ensures.ran (YieldsList-from_slice job.least.now cc) (λ x b q k. search (rules, tests))))
