-- `solver_link::multipartition_slab_of` meets its contract. Assumes nothing.
use Rattle.link_lists.proofs.Answers.{linked}
use Rattle.solver_link.proofs.Fits.{fits-slab_of}
use Rattle.solver_link.proofs.multipartition_slab_of.Goals as goal

pub returns : goal.returns
returns c = linked _ _ _ _ _ c.slab_of.ensures c.code.ensures (fits-slab_of _ _ _ _)
