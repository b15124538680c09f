-- `solver_link::multipartition_tile_position` meets its contract. Assumes nothing.
use Rattle.link_lists.proofs.Answers.{linked}
use Rattle.solver_link.proofs.Fits.{fits-position}
use Rattle.solver_link.proofs.multipartition_tile_position.Goals as goal

pub returns : goal.returns
returns c = linked _ _ _ _ _ c.tile_position.ensures c.code.ensures (fits-position _ _ _)
