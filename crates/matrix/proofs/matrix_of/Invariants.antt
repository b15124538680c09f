-- `matrix_of` meets its contract. The loop's invariant: the first n places hold the remainders.
use mathlib.Core.Path.{◌≡◌}
use Prim.Native.Nat.{ℕ, ◌≤◌, ◌<◌}
use lib.ListN.{length}
use Rattle.matrix.specs.Rows.{at, reduced_at}
use Rattle.matrix.proofs.matrix_of.Given as goal

abbrev pub invariant-loop-n : goal.invariant-loop-n
invariant-loop-n l = (l.n ≤ 25) × (length l.matrix ≡ 25) × ((k : ℕ) → k < l.n → at l.matrix k ≡ reduced_at l.moduli l.rows (length l.cuts) k)
