-- `solver_link::multipartition_smallest_refused` meets its contract. Assumes nothing.
use mathlib.Core.Path.{subst}
use lib.ListN.{length}
use Rattle.multipartition.specs.Plans.{Job}
use Rattle.refused_share.specs.Shares.{share_answer}
use Rattle.refusals.specs.Told.{Answers}
use Rattle.link_lists.proofs.Answers.{linked}
use Rattle.solver_link.specs.Link.{found_listed, smallest_refused_link}
use Rattle.solver_link.proofs.Fits.{fits-smallest}
use Rattle.solver_link.proofs.multipartition_smallest_refused.Goals as goal

pub returns : goal.returns
unfolding smallest_refused_link
returns c =
    let answers = subst (λ (job : Job). Answers (found_listed (length c.args.answer.now) (share_answer job)) c.smallest_refused.result c.args.answer.now c.smallest_refused.new.answer) c.job.ensures c.smallest_refused.ensures in
    linked _ _ _ _ _ answers c.code.ensures (fits-smallest _ _ _ _ _ _)
