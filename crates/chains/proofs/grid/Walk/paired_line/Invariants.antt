use mathlib.Core.Path.{◌≡◌}
use Rattle.chains.specs.Walks.{lower}
use Rattle.chains.proofs.Running.{Running}
use Rattle.chains.proofs.grid.Walk.paired_line.Given as goal

abbrev pub invariant-loop-at : goal.invariant-loop-at
invariant-loop-at l =
    (l.next ≡ lower l.fn.self.grid.downs.now 0 l.here)
    × Running l.fn.self.grid.counts.now l.fn.self.grid.downs.now l.q l.stop l.top l.at l.here l.initial.heads l.initial.nexts l.heads l.nexts
