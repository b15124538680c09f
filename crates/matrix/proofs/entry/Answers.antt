use Prim.Native.Nat.{◌-◌}
use native.Mathlib.Omega.{arith}
use Rattle.matrix.proofs.Taking.{taking_none, taking_more, taking_all}
use Rattle.matrix.proofs.entry.Goals as goal

pub loop-j-init : goal.loop-j-init
loop-j-init c = (omega arith, omega arith, λ cuts moduli b m. taking_none c.started-x.ensures.0)

pub less-x-requires : goal.less-x-requires
less-x-requires c =
    let head = c.loop-j in
    let small = c.requires.4 (head.j - 1) (omega arith) (omega arith) in
    (c.requires.0, c.requires.1, head.invariant.1, small.0, small.1)

pub loop-j-preserved : goal.loop-j-preserved
loop-j-preserved c =
    let head = c.loop-j in (
      omega arith,
      omega (arith, c.less-x.ensures.1),
      λ cuts moduli b m.
          rw c.less-x.ensures.0
          (taking_more (head.invariant.2 cuts moduli b m) c.args.ts.now b m (head.j - 1) (omega arith) (omega arith) (omega arith)),
    )

pub returns : goal.returns
returns c = let head = c.loop-j in (head.invariant.1, λ cuts moduli b m. taking_all (head.invariant.2 cuts moduli b m) (omega arith))
