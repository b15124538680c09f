-- `run_line` meets its contract: the walk along place 0, by runs.
use mathlib.Core.Path.{◌≡◌}
use Prim.Native.Nat.{◌<◌}
use native.Mathlib.Omega.{arith}
use lib.ListN.{length}
use Rattle.chains.specs.Walks.{along}
use Rattle.chains.proofs.Walking.{lent}
use Rattle.chains.proofs.Running.{running_room, running_start, running-ready, running-step, running_end, runs_reach, runs_steps, along_none, along_below}
use Rattle.chains.proofs.grid.Walk.run_line.Goals as goal

pub overflow_sub-top : goal.overflow_sub-top
overflow_sub-top c =
    running_room _ _ c.args.q c.args.stop c.args.top c.args.heads.now c.args.nexts.now (lent _ _ _ c.args.heads.now c.args.self.grid.tables c.requires.1) c.requires.3

pub loop-tile-init : goal.loop-tile-init
loop-tile-init c =
    running_start _ _ c.args.q c.args.stop c.args.top c.args.heads.now c.args.nexts.now (lent _ _ _ c.args.heads.now c.args.self.grid.tables c.requires.1) c.requires.3 (omega (arith, c.requires.1, c.requires.2))

pub visit_run-requires : goal.visit_run-requires
visit_run-requires c =
    let l = c.loop-tile in
    let many : length l.heads ≡ c.args.self.grid.p = omega (arith, l.invariant.across.heads_kept, c.requires.1) in
    let here : l.here < c.args.self.grid.p = omega (arith, l.invariant.across.at_below, c.requires.1) in
    let ready = running-ready _ _ c.args.q c.args.stop c.args.top c.args.heads.now c.args.nexts.now (lent _ _ _ c.args.heads.now c.args.self.grid.tables c.requires.1) c.requires.3 c.max-last.result l.tile l.here l.heads l.nexts c.max-last.ensures l.invariant in (
      omega (arith, c.min-n.ensures),
      ready.1,
      omega (arith, many, c.args.self.grid.tables.few),
      λ j m. rw many (runs_reach c.args.rising c.args.self.grid.p _ _ c.requires.0 l.here j here (omega (arith, m, c.min-n.ensures, c.from.ensures))),
    )

pub along-requires : goal.along-requires
along-requires c =
    let here : c.loop-tile.here < c.args.self.grid.p = omega (arith, c.loop-tile.invariant.across.at_below, c.requires.1) in (
      c.args.self.grid.p,
      c.args.self.grid.tables.few,
      runs_reach c.args.rising c.args.self.grid.p _ _ c.requires.0 c.loop-tile.here _ here (omega (arith, c.min-n.ensures, c.from.ensures)),
    )

pub lower-here-requires : goal.lower-here-requires
lower-here-requires c =
    let here : c.loop-tile.here < c.args.self.grid.p = omega (arith, c.loop-tile.invariant.across.at_below, c.requires.1) in (
      omega arith,
      rw c.along.ensures
          (along_below c.args.rising c.args.self.grid.p c.loop-tile.here _
          (runs_reach c.args.rising c.args.self.grid.p _ _ c.requires.0 c.loop-tile.here _ here (omega (arith, c.min-n.ensures, c.from.ensures)))),
    )

pub loop-tile-preserved : goal.loop-tile-preserved
loop-tile-preserved c =
    let l = c.loop-tile in
    let n = c.min-n in
    let more = c.loop-tile-test.true in
    let here : l.here < c.args.self.grid.p = omega (arith, l.invariant.across.at_below, c.requires.1) in
    rw (c.lower-here.ensures, c.along.ensures)
    (running-step _ _ c.args.q c.args.stop c.args.top c.args.heads.now c.args.nexts.now (lent _ _ _ c.args.heads.now c.args.self.grid.tables c.requires.1) c.requires.3 c.max-last.result l.tile l.here l.heads l.nexts c.max-last.ensures l.invariant n.result (along c.args.rising l.here) (omega (arith, n.ensures, more)) (omega (arith, n.ensures)) (along_none c.args.rising l.here)
    (λ j m. runs_steps c.args.rising c.args.self.grid.p _ _ c.requires.0 l.here j here (omega (arith, m, n.ensures, c.from.ensures))) _ _ c.visit_run.ensures)

pub returns : goal.returns
returns c =
    let l = c.loop-tile in
    running_end _ _ c.args.q c.args.stop c.args.top c.args.heads.now c.args.nexts.now (lent _ _ _ c.args.heads.now c.args.self.grid.tables c.requires.1) c.requires.3 c.max-last.result l.tile l.here l.heads l.nexts c.max-last.ensures l.invariant (omega (arith, c.loop-tile-test.false))
