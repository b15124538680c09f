-- `solver_link::multipartition_step` meets its contract. Assumes nothing.
use Rattle.link_lists.proofs.Answers.{linked}
use Rattle.solver_link.proofs.Fits.{fits-step}
use Rattle.solver_link.proofs.multipartition_step.Goals as goal

pub returns : goal.returns
returns c = linked _ _ _ _ _ c.step.ensures c.code.ensures (fits-step _ _ _ _ _)
