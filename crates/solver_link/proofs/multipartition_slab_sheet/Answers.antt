-- `solver_link::multipartition_slab_sheet` meets its contract. Assumes nothing.
use Rattle.link_lists.proofs.Answers.{linked}
use Rattle.solver_link.proofs.Fits.{fits-sheet}
use Rattle.solver_link.proofs.multipartition_slab_sheet.Goals as goal

pub returns : goal.returns
returns c = linked _ _ _ _ _ c.slab_sheet.ensures c.code.ensures (fits-sheet _ _ _ _ _)
