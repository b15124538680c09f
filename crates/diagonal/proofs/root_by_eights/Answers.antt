-- `root_by_eights` meets its contract.
use Prim.Native.Nat.{◌+◌}
use native.Mathlib.Omega.{arith}
use Rattle.diagonal.proofs.Sides.{root_high, square_fits}
use Rattle.diagonal.proofs.root_by_eights.Goals as goal

pub loop-s-init : goal.loop-s-init
loop-s-init c = (omega arith, omega arith)

pub overflow_mul-s : goal.overflow_mul-s
overflow_mul-s c = record { fits = square_fits (c.loop-s.s + 8) (omega (arith, c.loop-s.invariant.0)) }

pub loop-s-smaller : goal.loop-s-smaller
loop-s-smaller c = let high = root_high c.args.p (c.loop-s.s + 8) c.requires c.loop-s-test.true in omega arith

pub loop-s-preserved : goal.loop-s-preserved
loop-s-preserved c = (root_high c.args.p (c.loop-s.s + 8) c.requires c.loop-s-test.true, c.loop-s-test.true)

pub returns : goal.returns
returns c = c.loop-s.invariant
