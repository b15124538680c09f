-- `Lines::all` meets its contract.
use mathlib.Core.Path.{◌≡◌, ap, ◌∙◌}
use native.Mathlib.Omega.{arith}
use Rattle.numbers.specs.Products.{product}
use Rattle.numbers.specs.Sums.{sum}
use Rattle.layout.specs.Plans.{layout_of}
use Rattle.timetable.specs.Rows.{tally_of_lines}
use Rattle.timetable.proofs.Tables.{nothing}
use Rattle.timetable.proofs.Lines.{lines_next, lines_fit}
use Rattle.timetable.proofs.slab_lines.Lines.all.Goals as goal

pub overflow_cast-count : goal.overflow_cast-count
unfolding layout_of
overflow_cast-count c = record { fits = omega (arith, c.tile_count-count.ensures, c.args.self.now.flat.shaped.tiles_high) }

pub loop-r-init : goal.loop-r-init
unfolding sum
loop-r-init c = nothing _ c.default-tally.ensures

pub line-requires : goal.line-requires
line-requires c = omega (arith, c.loop-r-test.true, c.tile_count-count.ensures)

pub plus-tally-requires : goal.plus-tally-requires
plus-tally-requires c =
    let lines = c.args.self.now in
    lines_fit lines.line.shaped.plan lines.flat.plan lines.line.k lines.k lines.v lines.table.now _ lines.asked.fits c.loop-r.r (omega (arith, c.loop-r-test.true, c.tile_count-count.ensures)) _ _ c.loop-r.invariant c.line.ensures

pub loop-r-preserved : goal.loop-r-preserved
loop-r-preserved c =
    let lines = c.args.self.now in
    c.plus-tally.ensures
    ∙ lines_next lines.line.shaped.plan lines.flat.plan lines.line.k lines.k lines.v lines.table.now _ lines.asked.fits c.loop-r.r (omega (arith, c.loop-r-test.true, c.tile_count-count.ensures)) _ _ c.loop-r.invariant c.line.ensures

pub returns : goal.returns
returns c =
    let lines = c.args.self.now in
    let all : c.loop-r.r ≡ product (layout_of lines.flat.plan).cuts = omega (arith, c.loop-r-test.false, c.loop-r.auto.r-end, c.tile_count-count.ensures) in
    c.loop-r.invariant ∙ ap (tally_of_lines lines.line.shaped.plan lines.flat.plan lines.line.k lines.k lines.v lines.table.now) all
