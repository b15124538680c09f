-- `plan_job` meets its contract: the checks, then the plan.
use mathlib.Core.Path.{sym, ap, ◌∙◌}
use mathlib.Core.List.{[]}
use Rattle.std.proofs.lemmas.Result.{err_from_is_err_and}
use Rattle.multipartition.specs.Jobs.{job_checks, cheapest_for, plan_with, plan_answer}
use Rattle.multipartition.specs.Plans.{Job}
use Rattle.refusals.proofs.Laws.{turned_back-on, passed-on}
use Rattle.planner.specs.Asked.{asked}
use Rattle.planner.specs.Planned.{planned_answer}
use Rattle.planner.proofs.Checks.{planned-checked}
use Rattle.planner.proofs.plan_job.Goals as goal

pub returns-in_err-passed : goal.returns-in_err-passed
unfolding plan_answer
returns-in_err-passed c =
    let job = asked c.args.job in
    let p = err_from_is_err_and c.from_residual.result c.from_residual.ensures.1 in
    rw (p.1, p.2)
    (turned_back-on (job_checks job) [] job (planned_answer (plan_with job (cheapest_for job))) c.in_err-passed.ensures
    ∙ sym (planned-checked (job_checks job) (plan_with job (cheapest_for job))))

pub returns : goal.returns
unfolding plan_answer
returns c =
    let job = asked c.args.job in
    let on = passed-on (job_checks job) [] job _ (planned_answer (plan_with job (cheapest_for job))) c.in_ok-passed.ensures in
    c.plan.ensures
    ∙ ap (λ (j : Job). planned_answer (plan_with j (cheapest_for j))) on.0
    ∙ sym on.1
    ∙ sym (planned-checked (job_checks job) (plan_with job (cheapest_for job)))
