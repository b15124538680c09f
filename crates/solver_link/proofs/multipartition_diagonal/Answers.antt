-- `solver_link::multipartition_diagonal` meets its contract. Assumes nothing.
use mathlib.Core.Path.{subst}
use lib.ListN.{length}
use Rattle.multipartition.specs.Plans.{Job}
use Rattle.diagonal.specs.Diagonal.{diagonal_answer}
use Rattle.refusals.specs.Told.{Answers}
use Rattle.link_lists.proofs.Answers.{linked}
use Rattle.solver_link.specs.Link.{plan_listed, diagonal_link}
use Rattle.solver_link.proofs.Fits.{fits-diagonal}
use Rattle.solver_link.proofs.multipartition_diagonal.Goals as goal

pub returns : goal.returns
unfolding diagonal_link
returns c =
    let answers = subst (λ (job : Job). Answers (plan_listed (length c.args.plan.now) (diagonal_answer job)) c.diagonal.result c.args.plan.now c.diagonal.new.answer) c.job.ensures c.diagonal.ensures in
    linked _ _ _ _ _ answers c.code.ensures (fits-diagonal _ _ _ _ _ _)
