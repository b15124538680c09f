-- `lines` meets its contract: the walk along place 1, whose blocks are lines.
use mathlib.Core.Path.{sym, ap, ◌∙◌}
use Prim.Native.Nat.{ℕ, ◌-◌}
use native.Mathlib.Omega.{arith}
use Rattle.chains.proofs.Walking.{lent, across_start, across-ready, across_room, across-step, across-done, line_size}
use Rattle.chains.proofs.grid.Walk.lines.Goals as goal

pub loop-init : goal.loop-init
loop-init c =
    across_start _ _ 1 (omega arith) c.args.q c.args.stop c.args.top c.args.heads.now c.args.nexts.now (lent _ _ _ c.args.heads.now c.args.self.grid.tables c.requires.0) _ (omega arith) c.requires.2 (omega (arith, c.requires.0, c.requires.1))

pub line-requires : goal.line-requires
line-requires c =
    let l = c.loop in (
      l.invariant.heads_kept ∙ c.requires.0,
      omega (arith, l.invariant.at_below, c.requires.0),
      across-ready _ _ 1 (omega arith) c.args.q c.args.stop c.args.top c.args.heads.now c.args.nexts.now (lent _ _ _ c.args.heads.now c.args.self.grid.tables c.requires.0) l.tile _ l.at l.heads l.nexts l.invariant (omega (arith, c.loop-test.true)),
    )

pub overflow_sub-tile : goal.overflow_sub-tile
overflow_sub-tile c =
    let l = c.loop in
    omega (arith, across_room _ _ 1 (omega arith) c.args.q c.args.stop c.args.top c.args.heads.now c.args.nexts.now (lent _ _ _ c.args.heads.now c.args.self.grid.tables c.requires.0) l.tile _ l.at l.heads l.nexts l.invariant (omega (arith, c.loop-test.true)), line_size _ _ _ c.args.self.grid.tables)

pub loop-preserved : goal.loop-preserved
loop-preserved c =
    let l = c.loop in
    across-step _ _ 1 (omega arith) c.args.q c.args.stop c.args.top c.args.heads.now c.args.nexts.now (lent _ _ _ c.args.heads.now c.args.self.grid.tables c.requires.0) l.tile _ l.at l.heads l.nexts l.invariant _ _ _ _ _ (omega (arith, c.loop-test.true)) (ap (λ (n : ℕ). l.tile - n) (sym (line_size _ _ _ c.args.self.grid.tables))) (omega arith) c.lower-at.ensures c.line.ensures

pub returns : goal.returns
returns c =
    let l = c.loop in
    across-done _ _ 1 (omega arith) c.args.q c.args.stop c.args.top c.args.heads.now c.args.nexts.now (lent _ _ _ c.args.heads.now c.args.self.grid.tables c.requires.0) l.tile _ l.at l.heads l.nexts l.invariant (omega (arith, c.loop-test.false))
