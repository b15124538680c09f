-- `slabs_fit` meets its contract: the product of two numbers of 32 bits has at most 64.
use Prim.Native.Nat.{◌≤◌}
use native.Mathlib.Nat.{mul-le-mul}
use native.Mathlib.Omega.{arith}
use Rattle.diagonal.proofs.slabs_fit.Goals as goal

pub overflow_mul-result : goal.overflow_mul-result
overflow_mul-result c =
    let slabs : c.args.s ≤ 4294967295 = omega (arith, c.ranges.s.fits) in
    let least : c.args.least ≤ 4294967295 = omega (arith, c.ranges.least.fits) in
    record { fits = rw (c.from.ensures, c.from-2.ensures) (omega (arith, mul-le-mul slabs least)) }
