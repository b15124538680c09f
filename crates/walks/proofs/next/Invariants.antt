use Rattle.walks.proofs.Filling.{Stepping}
use Rattle.walks.proofs.next.Given as goal

abbrev pub invariant-loop-i : goal.invariant-loop-i
invariant-loop-i l = Stepping l.fn.stride l.from l.i l.number l.coordinates
