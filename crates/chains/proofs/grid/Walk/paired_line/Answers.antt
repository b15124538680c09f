-- `paired_line` meets its contract: the walk along place 0, with the owner of the tile and that of the next one.
use mathlib.Core.Path.{◌≡◌, refl, sym, ap, ◌∙◌}
use Prim.Native.Nat.{◌+◌, ◌-◌, ◌<◌}
use native.Mathlib.Omega.{arith}
use Rattle.chains.specs.Walks.{lower}
use Rattle.chains.proofs.Walking.{lent}
use Rattle.chains.proofs.Running.{run-one, running_room, running_start, running-ready, running-step, running_end}
use Rattle.chains.proofs.grid.Walk.paired_line.Goals as goal

pub overflow_sub-top : goal.overflow_sub-top
overflow_sub-top c =
    running_room _ _ c.args.q c.args.stop c.args.top c.args.heads.now c.args.nexts.now (lent _ _ _ c.args.heads.now c.args.self.grid.tables c.requires.1) c.requires.3

pub loop-at-init : goal.loop-at-init
loop-at-init c = (
  c.lower-next.ensures,
  running_start _ _ c.args.q c.args.stop c.args.top c.args.heads.now c.args.nexts.now (lent _ _ _ c.args.heads.now c.args.self.grid.tables c.requires.1) c.requires.3 (omega (arith, c.requires.1, c.requires.2)),
)

pub visit-requires : goal.visit-requires
visit-requires c =
    let l = c.loop-at in
    let a = l.invariant.1 in
    let ready = running-ready _ _ c.args.q c.args.stop c.args.top c.args.heads.now c.args.nexts.now (lent _ _ _ c.args.heads.now c.args.self.grid.tables c.requires.1) c.requires.3 c.max-last.result l.at l.here l.heads l.nexts c.max-last.ensures a in
    (refl, omega (arith, ready.1, c.loop-at-test.true), omega (arith, a.across.at_below, c.requires.1, c.args.self.grid.tables.few), ready.0)

pub loop-at-preserved : goal.loop-at-preserved
loop-at-preserved c =
    let l = c.loop-at in
    let a = l.invariant.1 in
    let more = c.loop-at-test.true in
    let here : l.here < c.args.self.grid.p = omega (arith, a.across.at_below, c.requires.1) in
    let tile : l.at - 1 + 1 ≡ l.at = omega (arith, more) in
    let visited = run-one l.here l.at _ l.heads l.nexts _ _ (sym tile) (rw tile at c.visit.ensures) in (
      c.from-after.ensures ∙ (c.args.self.leaping.two c.requires.0).at l.here here ∙ ap (lower c.args.self.grid.downs.now 0) (sym l.invariant.0),
      rw l.invariant.0
          (running-step _ _ c.args.q c.args.stop c.args.top c.args.heads.now c.args.nexts.now (lent _ _ _ c.args.heads.now c.args.self.grid.tables c.requires.1) c.requires.3 c.max-last.result l.at l.here l.heads l.nexts c.max-last.ensures a 1 (λ j. l.here) (omega arith) (omega (arith, more)) refl (λ j m. absurd (omega arith)) _ _ visited),
    )

pub returns : goal.returns
returns c =
    let l = c.loop-at in
    running_end _ _ c.args.q c.args.stop c.args.top c.args.heads.now c.args.nexts.now (lent _ _ _ c.args.heads.now c.args.self.grid.tables c.requires.1) c.requires.3 c.max-last.result l.at l.here l.heads l.nexts c.max-last.ensures l.invariant.1 (omega (arith, c.loop-at-test.false))
