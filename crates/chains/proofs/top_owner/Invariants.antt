use mathlib.Core.Path.{◌≡◌}
use mathlib.Core.List.{List}
use Prim.Native.Nat.{ℕ, ◌-◌, ◌<◌, ◌≤◌}
use lib.ListN.{length, get_or}
use Rattle.layout.specs.declared.Plan.{Plan}
use Rattle.chains.proofs.top_owner.Given as goal

-- k coordinates are there, and after them the cuts
pub record Top (plan : Plan) (k : ℕ) (at : List ℕ) : Type 0 where
  pub long : length at ≡ plan.d
  pub coordinate : (j : ℕ) → j < k → get_or at j 0 ≡ get_or plan.cuts j 0 - 1
  pub cut : (j : ℕ) → k ≤ j → j < plan.d → get_or at j 0 ≡ get_or plan.cuts j 0

abbrev pub invariant-loop-coordinate : goal.invariant-loop-coordinate
invariant-loop-coordinate l = Top l.shaped.plan l.coordinate-index l.coordinates
