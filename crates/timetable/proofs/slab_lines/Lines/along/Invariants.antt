use Rattle.timetable.proofs.Lines.{Walked}
use Rattle.timetable.proofs.slab_lines.Lines.along.Given as goal

abbrev pub invariant-loop-t : goal.invariant-loop-t
invariant-loop-t l = Walked l.self.line.shaped.plan l.self.line.k l.self.table.now l.fn.from.number l.t l.at l.tally
