-- `moduli_of` meets its contract. The loop's invariant: `left` is what the moduli from place i on leave of p, those moduli are written, and the
-- places before are zero.
use Prim.Native.Nat.{◌≤◌}
use lib.ListN.{length}
use Rattle.matrix.proofs.Moduli.{Written}
use Rattle.matrix.proofs.moduli_of.Given as goal

abbrev pub invariant-loop-i : goal.invariant-loop-i
invariant-loop-i l = (l.i ≤ length l.cuts) × Written l.p l.cuts l.i l.moduli l.left
