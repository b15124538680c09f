-- `solver_link::multipartition_plan` meets its contract. Assumes nothing.
use mathlib.Core.Path.{subst}
use lib.ListN.{length}
use Rattle.multipartition.specs.Plans.{Job}
use Rattle.multipartition.specs.Jobs.{plan_answer}
use Rattle.refusals.specs.Told.{Answers}
use Rattle.link_lists.proofs.Answers.{linked}
use Rattle.solver_link.specs.Link.{plan_listed, plan_link}
use Rattle.solver_link.proofs.Fits.{fits-plan}
use Rattle.solver_link.proofs.multipartition_plan.Goals as goal

pub returns : goal.returns
unfolding plan_link
returns c =
    let answers = subst (λ (job : Job). Answers (plan_listed (length c.args.plan.now) (plan_answer job)) c.plan.result c.args.plan.now c.plan.new.answer) c.job.ensures c.plan.ensures in
    linked _ _ _ _ _ answers c.code.ensures (fits-plan _ _ _ _ _ _)
