-- `solver_link::multipartition_timetable` meets its contract. Assumes nothing.
use Rattle.link_lists.proofs.Answers.{linked}
use Rattle.solver_link.proofs.Fits.{fits-timetable}
use Rattle.solver_link.proofs.multipartition_timetable.Goals as goal

pub returns : goal.returns
returns c = linked _ _ _ _ _ c.timetable.ensures c.code.ensures (fits-timetable _ _ _ _ _ _)
