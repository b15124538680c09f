-- `Lines::along` meets its contract: the walk stands at the processor t steps on, and the tally is that of the first t slabs.
use mathlib.Core.Path.{◌≡◌, ap, ◌∙◌}
use mathlib.Core.Bool.{true}
use Prim.Native.Nat.{ℕ}
use native.Mathlib.Omega.{arith}
use lib.ListN.{get_or}
use Rattle.walks.proofs.Walking.{next_asked}
use Rattle.timetable.specs.Rows.{line_tally}
use Rattle.timetable.proofs.Lines.{walked_none, row_fits, sum_fits, walked_more}
use Rattle.timetable.proofs.Tables.{nothing}
use Rattle.timetable.proofs.Walks.{walk_none, walk_small}
use Rattle.timetable.proofs.slab_lines.Lines.along.Goals as goal

pub loop-t-init : goal.loop-t-init
loop-t-init c =
    let line = c.args.self.now.line in
    walked_none line.shaped.plan line.k c.args.self.now.table.now c.args.from.number c.args.from _ (nothing _ c.default-tally.ensures) (walk_none line.shaped.plan line.shaped.shaped line.k line.within true c.args.from.number c.args.from c.requires.1.processor c.requires.0)

pub bounds-self-at : goal.bounds-self-at
bounds-self-at c =
    let lines = c.args.self.now in
    omega (arith, lines.asked.places, walk_small lines.line.shaped.plan lines.line.shaped.shaped lines.line.k lines.line.within true c.args.from.number c.loop-t.t c.loop-t.at c.loop-t.invariant.walk)

pub thick-requires : goal.thick-requires
thick-requires c =
    let line = c.args.self.now.line in
    let slabs = c.along-slabs in
    row_fits line.shaped.plan line.shaped.shaped line.k line.within _ _ _ _ _ c.loop-t.invariant _ _ slabs.ensures.extent slabs.ensures.cut c.loop-t-test.true _ c.thickness.ensures c.requires.1.fits

pub plus-tally-requires : goal.plus-tally-requires
plus-tally-requires c =
    let line = c.args.self.now.line in
    let slabs = c.along-slabs in
    sum_fits line.shaped.plan line.shaped.shaped line.k line.within _ _ _ _ _ c.loop-t.invariant _ _ slabs.ensures.extent slabs.ensures.cut c.loop-t-test.true _ c.thickness.ensures c.requires.1.fits _ c.thick.ensures

pub next-at-requires : goal.next-at-requires
next-at-requires c =
    let lines = c.args.self.now in
    next_asked lines.line.shaped.plan lines.line.shaped.shaped lines.line.k lines.line.within true lines.up lines.strides _ c.loop-t.at c.loop-t.invariant.walk.stands

pub loop-t-preserved : goal.loop-t-preserved
loop-t-preserved c =
    let lines = c.args.self.now in
    let slabs = c.along-slabs in
    walked_more lines.line.shaped.plan lines.line.shaped.shaped lines.line.k lines.line.within _ _ _ _ _ c.loop-t.invariant _ _ slabs.ensures.extent slabs.ensures.cut c.loop-t-test.true _ c.thickness.ensures _ _ c.thick.ensures c.plus-tally.ensures _ _ lines.strides c.next-at.ensures

pub returns : goal.returns
returns c =
    let lines = c.args.self.now in
    let all : c.loop-t.t ≡ get_or lines.line.shaped.plan.cuts lines.line.k 0 = omega (arith, c.loop-t-test.false, c.loop-t.auto.t-end, c.along-slabs.ensures.cut) in
    c.loop-t.invariant.tally_is ∙ ap (λ (n : ℕ). line_tally lines.line.shaped.plan lines.line.k lines.table.now n c.args.from.number) all
