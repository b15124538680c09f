-- `solver_link::multipartition_hypercube_owner` meets its contract. Assumes nothing.
use Rattle.link_lists.proofs.Answers.{linked}
use Rattle.solver_link.proofs.Fits.{fits-hypercube}
use Rattle.solver_link.proofs.multipartition_hypercube_owner.Goals as goal

pub returns : goal.returns
returns c = linked _ _ _ _ _ c.hypercube_owner.ensures c.code.ensures (fits-hypercube _ _ _)
