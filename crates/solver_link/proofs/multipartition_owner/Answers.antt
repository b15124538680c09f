-- `solver_link::multipartition_owner` meets its contract. Assumes nothing.
use Rattle.link_lists.proofs.Answers.{linked}
use Rattle.solver_link.proofs.Fits.{fits-owner}
use Rattle.solver_link.proofs.multipartition_owner.Goals as goal

pub returns : goal.returns
returns c = linked _ _ _ _ _ c.owner.ensures c.code.ensures (fits-owner _ _ _)
