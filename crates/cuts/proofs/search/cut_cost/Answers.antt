-- `cuts::search::cut_cost` meets its contract. A product of two 32-bit numbers fits 64 bits.
use mathlib.Core.Path.{ap₂}
use Prim.Native.Nat.{ℕ, ◌*◌, ◌^◌, ◌≤◌, ◌<◌}
use native.Mathlib.Nat.{mul-le-mul_right, le_of_lt}
use native.Mathlib.Omega.{arith}
use Rattle.multipartition.specs.Cuts.{cut_cost}
use Rattle.cuts.proofs.search.cut_cost.Goals as goal

below : (m w : ℕ) → m < 2 ^ 32 → w < 2 ^ 32 → m * w < 2 ^ 64
below m w h k = let high : m * w ≤ 2 ^ 32 * w = mul-le-mul_right w (le_of_lt h) in omega arith

pub overflow_mul-result : goal.overflow_mul-result
overflow_mul-result c = record { fits = below _ _ (omega (arith, c.from.ensures, c.ranges.b.fits)) (omega (arith, c.from-2.ensures, c.ranges.w.fits)) }

pub returns : goal.returns
unfolding cut_cost
returns c = ap₂ (λ (x y : ℕ). x * y) c.from.ensures c.from-2.ensures
