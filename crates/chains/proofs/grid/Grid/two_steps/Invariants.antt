use mathlib.Core.Path.{◌≡◌}
use Prim.Native.Nat.{ℕ, ◌<◌}
use lib.ListN.{length, get_or}
use Rattle.chains.specs.Walks.{lower}
use Rattle.chains.proofs.grid.Grid.two_steps.Given as goal

abbrev pub invariant-loop-q : goal.invariant-loop-q
invariant-loop-q l =
    (length l.two-items ≡ l.self.p) × ((j : ℕ) → j < l.q → get_or l.two-items j 0 ≡ lower l.self.downs.now 0 (lower l.self.downs.now 0 j))
