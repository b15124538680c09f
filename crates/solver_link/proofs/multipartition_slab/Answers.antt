-- `solver_link::multipartition_slab` meets its contract. Assumes nothing.
use Rattle.link_lists.proofs.Answers.{linked}
use Rattle.solver_link.proofs.Fits.{fits-slab}
use Rattle.solver_link.proofs.multipartition_slab.Goals as goal

pub returns : goal.returns
returns c = linked _ _ _ _ _ c.slab.ensures c.code.ensures (fits-slab _ _ _ _)
