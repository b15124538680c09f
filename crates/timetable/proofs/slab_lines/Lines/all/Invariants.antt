use mathlib.Core.Path.{◌≡◌}
use Rattle.timetable.specs.Rows.{tally_of_lines}
use Rattle.timetable.proofs.slab_lines.Lines.all.Given as goal

abbrev pub invariant-loop-r : goal.invariant-loop-r
invariant-loop-r l = l.tally ≡ tally_of_lines l.self.line.shaped.plan l.self.flat.plan l.self.line.k l.self.k l.self.v l.self.table.now l.r
