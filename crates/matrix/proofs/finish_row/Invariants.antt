-- `finish_row` meets its contract. The loop's invariant: the rows before row i and its first c columns hold numbers that stand for the finished rows.
use Prim.Native.Nat.{◌+◌, ◌*◌, ◌≤◌}
use Rattle.matrix.specs.Rows.{Finished}
use Rattle.matrix.proofs.finish_row.Given as goal

abbrev pub invariant-loop-c : goal.invariant-loop-c
invariant-loop-c l = (l.c ≤ 5) × Finished l.p l.cuts l.moduli l.rows (l.i * 5 + l.c)
