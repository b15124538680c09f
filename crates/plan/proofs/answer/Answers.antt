-- `plan::answer` meets its contract, by what the reader's answer says.
use Rattle.std.specs.Prelude.{◌≡◌, Err, get_or, drop}
use mathlib.Core.Path.{ap, ◌∙◌, subst}
use borrow.Author.Rules.{rules}
use Rattle.multipartition.specs.Plans.{Job}
use Rattle.multipartition.specs.Jobs.{plan_answer}
use Rattle.job_text.specs.Told.{Reads}
use Rattle.planner.specs.Planned as planner
use Rattle.planner.specs.Asked as planner-asked
use Rattle.plan.specs.Prints.{job_of_line}
use Rattle.refused_share.specs.Shares.{share_answer}
use Rattle.plan.proofs.Jobs.{job_of_read}
use Rattle.plan.proofs.Answers.{answers_unreadable, answers_numbers}
use Rattle.plan.proofs.answer.Goals as goal

pub returns-in_default : goal.returns-in_default
returns-in_default c =
    let r = c.unwrap_err-refusal.result in
    let is : c.read_job-read.result ≡ Err r = search rules in
    answers_unreadable r (subst (Reads c.args.input.now) is c.read_job-read.ensures) c.print_refusal-printed.ensures

pub returns : goal.returns
returns c =
    let items = c.in-Ok.numbers.items in
    let job : planner-asked.asked c.job_of-job.result ≡ job_of_line (get_or items 0 0) (get_or items 1 0) (drop 2 items) =
    c.job_of-job.ensures ∙ job_of_read items _ _ _ c.deref.ensures.0 c.deref-2.ensures.0 c.deref-3.ensures.0 in
    answers_numbers c.in-Ok.numbers c.plan_job-planned.result c.smallest_refused-share.result
    (subst (Reads c.args.input.now) c.in-Ok.is c.read_job-read.ensures)
    (c.plan_job-planned.ensures ∙ ap (λ (j : Job). planner.planned_answer (plan_answer j)) job)
    (c.smallest_refused-share.ensures ∙ ap share_answer job)
    c.print_planned-printed.ensures
    c.put_share-told.ensures
