use Rattle.chains.proofs.Running.{Running}
use Rattle.chains.proofs.grid.Walk.run_line.Given as goal

abbrev pub invariant-loop-tile : goal.invariant-loop-tile
invariant-loop-tile l =
    Running l.self.grid.counts.now l.self.grid.downs.now l.q l.stop l.top l.tile l.here l.initial.heads l.initial.nexts l.heads l.nexts

abbrev pub decreases-loop-tile : goal.decreases-loop-tile
decreases-loop-tile l = l.tile
