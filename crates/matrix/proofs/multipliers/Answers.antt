use mathlib.Core.Path.{ap}
use Prim.Native.Nat.{ℕ, ◌-◌, ◌/◌}
use native.Mathlib.Nat.{mul-le-mul}
use native.Mathlib.Omega.{arith}
use Rattle.numbers.proofs.Gcd.{gcd_pos}
use Rattle.matrix.proofs.Multiplying.{multiplied_none, multiplied_more, multiplier_small}
use Rattle.matrix.proofs.multipliers.Goals as goal

pub loop-j-init : goal.loop-j-init
loop-j-init c = multiplied_none _ _ _ c.requires.2

pub nonzero_div-t : goal.nonzero_div-t
nonzero_div-t c = rw c.gcd.ensures (gcd_pos _ _ c.loop-j.invariant.r_low)

pub overflow_mul-t : goal.overflow_mul-t
overflow_mul-t c =
    let head = c.loop-j in
    let small = multiplier_small _ _ _ head.invariant _ (head.j - 1) (omega arith) (ap (λ (g : ℕ). head.r / g) c.gcd.ensures) in
    record { fits = omega (arith, mul-le-mul small (c.requires.2 (head.j - 1) (omega (arith, head.invariant.within))).1) }

pub loop-j-preserved : goal.loop-j-preserved
loop-j-preserved c =
    let head = c.loop-j in
    let factor = ap (λ (g : ℕ). head.r / g) c.gcd.ensures in
    rw c.gcd-r.ensures (multiplied_more _ _ _ head.invariant _ (head.j - 1) (omega arith) factor c.requires.1)

pub returns : goal.returns
returns c = let head = c.loop-j in λ j l h. head.invariant.from j (omega arith) h
