-- `block` meets its contract, by its level.
use Prim.Native.Nat.{◌-◌}
use lib.ListN.{get_or}
use Rattle.chains.proofs.Walking.{Across}
use Rattle.chains.proofs.grid.Walk.+block.Given as goal

abbrev pub decreases-block : goal.decreases-block
decreases-block l = l.level

abbrev pub invariant-loop : goal.invariant-loop
invariant-loop l =
    Across l.self.grid.counts.now l.self.grid.downs.now l.k l.q l.stop l.top l.tile (get_or l.self.grid.counts.now l.k 0 - l.counter) l.at l.initial.heads l.initial.nexts l.heads l.nexts
