use Rattle.walks.proofs.Filling.{Striding}
use Rattle.walks.proofs.stride_along.Given as goal

abbrev pub invariant-loop-i : goal.invariant-loop-i
invariant-loop-i l = Striding l.fn.axis.shaped.plan l.fn.axis.k l.up l.i l.moduli l.added
