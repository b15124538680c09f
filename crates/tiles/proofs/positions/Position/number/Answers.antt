-- `Position::number` meets its contract.
use Rattle.std.proofs.Common.{rules, ap, sym, ◌∙◌}
use mathlib.Core.Bool.{not}
use borrow.Author.Tests.{not-true, not-false}
use Rattle.multipartition.specs.Tiles.{tile_number}
use Rattle.layout.proofs.Positions.{in_grid_lem}
use Rattle.tiles.specs.Positions.{coordinates}
use Rattle.tiles.proofs.Asked.{number-turned_back, number_passed}
use Rattle.tiles.proofs.positions.Position.number.Goals as goal

pub returns-in_err-grid : goal.returns-in_err-grid
returns-in_err-grid c = search (rules, number-turned_back c.args.plan (coordinates c.args.self) c.in_err-grid.ensures)

pub returns-then-not-in_grid : goal.returns-then-not-in_grid
returns-then-not-in_grid c =
    rw (
      number_passed c.args.plan (coordinates c.args.self) c.in_ok-grid.grid.plan.now c.in_ok-grid.ensures,
      sym c.in_grid.ensures ∙ not-true c.in_grid.result (ap not c.if-not-in_grid.true),
    )

pub number_from_zero-requires : goal.number_from_zero-requires
number_from_zero-requires c =
    let shaped = c.in_ok-grid.grid in
    in_grid_lem shaped.plan.now shaped.shaped (coordinates c.args.self) (sym c.in_grid.ensures ∙ not-false c.in_grid.result (ap not c.if-not-in_grid.false))

pub returns : goal.returns
unfolding tile_number
returns c =
    rw (
      number_passed c.args.plan (coordinates c.args.self) c.in_ok-grid.grid.plan.now c.in_ok-grid.ensures,
      sym c.in_grid.ensures ∙ not-false c.in_grid.result (ap not c.if-not-in_grid.false),
      c.number_from_zero.ensures.0,
    )
