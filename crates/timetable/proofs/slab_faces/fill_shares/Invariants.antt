use Rattle.timetable.proofs.Tables.{Sharing}
use Rattle.timetable.proofs.slab_faces.fill_shares.Given as goal

abbrev pub invariant-loop-t : goal.invariant-loop-t
invariant-loop-t l = Sharing l.fn.row.shaped.plan l.fn.row.k l.q l.t l.table l.at
