use Prim.Native.Nat.{◌-◌}
use lib.ListN.{get_or}
use Rattle.chains.proofs.Walking.{Across}
use Rattle.chains.proofs.grid.Walk.lines.Given as goal

abbrev pub invariant-loop : goal.invariant-loop
invariant-loop l =
    Across l.self.grid.counts.now l.self.grid.downs.now 1 l.q l.stop l.top l.tile (get_or l.self.grid.counts.now 1 0 - l.counter) l.at l.initial.heads l.initial.nexts l.heads l.nexts
