-- `solver_link::multipartition_neighbour` meets its contract. Assumes nothing.
use Rattle.link_lists.proofs.Answers.{linked}
use Rattle.solver_link.proofs.Fits.{fits-neighbour}
use Rattle.solver_link.proofs.multipartition_neighbour.Goals as goal

pub returns : goal.returns
returns c = linked _ _ _ _ _ c.neighbour.ensures c.code.ensures (fits-neighbour _ _ _ _ _)
