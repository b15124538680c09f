use Rattle.chains.specs.Walks.{Grouped}
use Rattle.chains.proofs.tables.Given as goal

abbrev pub invariant-loop-k : goal.invariant-loop-k
invariant-loop-k l = Grouped l.shaped.plan l.k l.group.at l.group.first l.counts l.downs
