use Rattle.chains.specs.Walks.{along}
use Rattle.chains.proofs.Running.{Visiting}
use Rattle.chains.proofs.visit_run.Given as goal

abbrev pub invariant-loop-j : goal.invariant-loop-j
invariant-loop-j l =
    Visiting (along l.rising l.q) l.top l.count l.j l.tile l.initial.heads l.initial.nexts l.heads l.nexts
