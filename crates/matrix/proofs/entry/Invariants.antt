-- `entry` meets its contract. The loop's invariant: the rows from j - 1 down to 1 are still to be taken.
use mathlib.Core.List.{List}
use Prim.Native.Nat.{ℕ, ◌≤◌}
use Rattle.matrix.specs.Rows.{Multipliers, Before}
use Rattle.matrix.proofs.Taking.{Taking}
use Rattle.matrix.proofs.entry.Given as goal

abbrev pub invariant-loop-j : goal.invariant-loop-j
invariant-loop-j l =
    (l.j ≤ l.i) × (l.x ≤ 4096) × ((cuts moduli : List ℕ) → Before l.p cuts moduli l.rows l.i l.c → Multipliers cuts moduli l.ts l.i → Taking l.p cuts moduli l.i l.c l.x l.j)
