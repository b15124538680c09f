use mathlib.Core.Path.{◌≡◌}
use Prim.Native.Nat.{ℕ, ◌-◌, ◌≤◌, ◌<◌}
use lib.ListN.{length, get_or}
use Rattle.chains.specs.Walks.{nth}
use Rattle.chains.proofs.Running.{Follows}
use Rattle.chains.proofs.grid.Grid.runs.Given as goal

-- the first i processors of those runs have theirs
abbrev pub invariant-loop-i : goal.invariant-loop-i
invariant-loop-i l =
    (length l.runs ≡ 4096)
    × (l.run ≤ l.i)
    × (1 ≤ l.i → Follows l.rising l.self.p l.self.downs.now (nth l.rising l.self.p (l.i - 1)) l.run)
    × ((j : ℕ) → j < l.i → Follows l.rising l.self.p l.self.downs.now (nth l.rising l.self.p j) (get_or l.runs (nth l.rising l.self.p j) 0))
