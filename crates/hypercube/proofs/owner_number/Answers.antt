-- `hypercube::owner_number` meets its contract. Assumes nothing.
use mathlib.Core.Path.{ap₂}
use Prim.Native.Nat.{ℕ, ◌+◌, ◌*◌, ◌≤◌, ◌<◌}
use native.Mathlib.Omega.{arith}
use Rattle.hypercube.proofs.Hypercube.{code_small, upper_small}
use Rattle.hypercube.proofs.owner_number.Goals as goal
use Rattle.hypercube.proofs.owner_number.Goals.{After-gray-lower}

upper : (c : After-gray-lower) → c.gray-upper.result * c.args.side ≤ 8128
upper c = upper_small _ _ (omega arith) (code_small _ _ _ c.gray-upper.ensures (omega arith))

lower : (c : After-gray-lower) → c.gray-lower.result < 128
lower c = code_small _ _ _ c.gray-lower.ensures (omega arith)

pub overflow_mul-result : goal.overflow_mul-result
overflow_mul-result c = omega (arith, upper c)

pub overflow_add-result : goal.overflow_add-result
overflow_add-result c = omega (arith, upper c, lower c)

pub returns : goal.returns
returns c = ap₂ (λ (a b : ℕ). a * c.args.side + b) c.gray-upper.ensures c.gray-lower.ensures
