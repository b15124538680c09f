-- `solver_link::multipartition_tile_number` meets its contract. Assumes nothing.
use Rattle.link_lists.proofs.Answers.{linked}
use Rattle.solver_link.proofs.Fits.{fits-number}
use Rattle.solver_link.proofs.multipartition_tile_number.Goals as goal

pub returns : goal.returns
returns c = linked _ _ _ _ _ c.tile_number.ensures c.code.ensures (fits-number _ _ _)
