-- `finish_rows` meets its contract. The loop's invariant: the first i rows hold numbers that stand for the finished rows.
use Prim.Native.Nat.{◌*◌, ◌≤◌}
use lib.ListN.{length}
use Rattle.matrix.specs.Rows.{Finished}
use Rattle.matrix.proofs.finish_rows.Given as goal

abbrev pub invariant-loop-i : goal.invariant-loop-i
invariant-loop-i l = (l.i ≤ length l.cuts) × Finished l.p l.cuts l.moduli l.rows (l.i * 5)
