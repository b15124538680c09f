-- `solver_link::multipartition_chains` meets its contract. Assumes nothing.
use Rattle.link_lists.proofs.Answers.{linked}
use Rattle.solver_link.proofs.Fits.{fits-chains}
use Rattle.solver_link.proofs.multipartition_chains.Goals as goal

pub returns : goal.returns
returns c = linked _ _ _ _ _ c.chains.ensures c.code.ensures (fits-chains _ _ _)
