-- `cost_of` meets its contract. Three dimensions cost at most 2 to the power 44 each.
use mathlib.Core.Path.{ap₂, ◌∙◌}
use Prim.Native.Nat.{◌-◌, ◌*◌, ◌^◌, ◌≤◌}
use native.Mathlib.Nat.{mul-le-mul, le_of_lt}
use native.Mathlib.Omega.{arith}
use Rattle.diagonal.proofs.Places.{cost_is, few-sum}
use Rattle.diagonal.proofs.cost_of.Goals as goal

pub overflow_mul-result : goal.overflow_mul-result
overflow_mul-result c =
    let cuts : c.args.s - 1 ≤ 2 ^ 12 = omega (arith, c.requires.1) in
    let weight = few-sum (2 ^ 32) c.args.weights.now (λ k. le_of_lt (c.type_inv.weights k).fits) in
    record { fits = rw (c.from.ensures, c.total.ensures) (omega (arith, mul-le-mul cuts weight, c.requires.2)) }

pub returns : goal.returns
returns c = ap₂ ◌*◌ c.from.ensures c.total.ensures ∙ cost_is c.args.s c.args.weights.now
