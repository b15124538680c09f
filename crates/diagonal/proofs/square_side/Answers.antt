-- `square_side` meets its contract: the square of s is at most p, until that of the next number is above it.
use Prim.Native.Nat.{◌+◌}
use native.Mathlib.Omega.{arith}
use Rattle.diagonal.proofs.Sides.{root_high, square_fits, root-found, root_none}
use Rattle.diagonal.proofs.square_side.Goals as goal

pub loop-s-init : goal.loop-s-init
loop-s-init c = c.root_by_eights-s.ensures

pub overflow_mul-s : goal.overflow_mul-s
overflow_mul-s c = record { fits = square_fits (c.loop-s.s + 1) (omega (arith, c.loop-s.invariant.0)) }

pub loop-s-smaller : goal.loop-s-smaller
loop-s-smaller c =
    let high = root_high c.args.p (c.loop-s.s + 1) c.requires.1 c.loop-s-test.true in
    omega arith

pub loop-s-preserved : goal.loop-s-preserved
loop-s-preserved c =
    (root_high c.args.p (c.loop-s.s + 1) c.requires.1 c.loop-s-test.true, c.loop-s-test.true)

pub overflow_mul-s-2 : goal.overflow_mul-s-2
overflow_mul-s-2 c = record { fits = square_fits c.loop-s.s (omega (arith, c.loop-s.invariant.0)) }

pub returns-then-s-p : goal.returns-then-s-p
returns-then-s-p c =
    root-found c.args.p c.loop-s.s c.requires.0 c.if-s-p.true

pub returns-else-s-p : goal.returns-else-s-p
returns-else-s-p c =
    let l = c.loop-s in
    root_none c.args.p l.s (omega (arith, l.invariant.1, c.if-s-p.false)) (omega (arith, c.loop-s-test.false))
