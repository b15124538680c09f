-- `block` meets its contract, by its level.
use mathlib.Core.Path.{◌≡◌, ◌∙◌}
use Prim.Native.Nat.{◌+◌, ◌-◌}
use native.Mathlib.Omega.{arith}
use Rattle.chains.proofs.Walking.{lent, across_start, across-ready, across-step, across-done}
use Rattle.chains.proofs.grid.Walk.+block.Goals as goal

pub loop-init : goal.loop-init
loop-init t c =
    let p = c.requires in
    let e : c.args.level ≡ c.args.level - 1 + 1 = omega (arith, p.0) in
    across_start _ _ (c.args.level - 1) (omega (arith, p.0, p.1)) c.args.q c.args.stop c.args.top c.args.heads.now c.args.nexts.now (lent _ _ _ c.args.heads.now c.args.self.now.grid.tables p.2) _ (omega arith) (rw e at p.4) (omega (arith, p.2, p.3))

pub block-tile-requires : goal.block-tile-requires
block-tile-requires t c =
    let l = c.loop in
    let p = c.requires in (
      omega (arith, p.0),
      (
        omega (arith, p.0, c.if-level-eq2.false),
        omega (arith, p.1),
        l.invariant.heads_kept ∙ p.2,
        omega (arith, l.invariant.at_below, p.2),
        across-ready _ _ (c.args.level - 1) (omega (arith, p.0, p.1)) c.args.q c.args.stop c.args.top c.args.heads.now c.args.nexts.now (lent _ _ _ c.args.heads.now c.args.self.now.grid.tables p.2) l.tile _ l.at l.heads l.nexts l.invariant (omega (arith, c.loop-test.true)),
      ),
    )

pub loop-preserved : goal.loop-preserved
loop-preserved t c =
    let l = c.loop in
    let p = c.requires in
    across-step _ _ (c.args.level - 1) (omega (arith, p.0, p.1)) c.args.q c.args.stop c.args.top c.args.heads.now c.args.nexts.now (lent _ _ _ c.args.heads.now c.args.self.now.grid.tables p.2) l.tile _ l.at l.heads l.nexts l.invariant _ _ _ _ _ (omega (arith, c.loop-test.true)) c.block-tile.ensures.0 (omega arith) c.lower-at.ensures c.block-tile.ensures.1

pub returns : goal.returns
returns t c =
    let l = c.loop in
    let p = c.requires in
    let e : c.args.level - 1 + 1 ≡ c.args.level = omega (arith, p.0) in
    rw e at (across-done _ _ (c.args.level - 1) (omega (arith, p.0, p.1)) c.args.q c.args.stop c.args.top c.args.heads.now c.args.nexts.now (lent _ _ _ c.args.heads.now c.args.self.now.grid.tables p.2) l.tile _ l.at l.heads l.nexts l.invariant (omega (arith, c.loop-test.false)))
