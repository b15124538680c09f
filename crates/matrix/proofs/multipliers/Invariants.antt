-- `multipliers` meets its contract. The loop's invariant: r is what it is before row j - 1 is taken, and the multipliers from place j on are written.
use Rattle.matrix.proofs.Multiplying.{Multiplied}
use Rattle.matrix.proofs.multipliers.Given as goal

abbrev pub invariant-loop-j : goal.invariant-loop-j
invariant-loop-j l = Multiplied l.cuts l.moduli l.i l.ts l.r l.j
