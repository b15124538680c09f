-- `position_of` meets its contract.
use Rattle.std.proofs.Common.{rules, arith, ◌≡◌, refl, ◌∙◌, Err, ◌-◌, ◌≤◌}
use lib.ListN.{length}
use borrow.Author.Tests.{le-leb, lt-leb}
use Rattle.multipartition.specs.Plans.{tiles_of}
use Rattle.multipartition.specs.MixedRadix.{digits_up}
use Rattle.multipartition.specs.Tiles.{position_of}
use Rattle.multipartition.proofs.MixedRadix.{length-digits_up}
use Rattle.layout.specs.Plans.{layout_of}
use Rattle.layout.proofs.Places.{cuts_length}
use Rattle.tiles.proofs.Asked.{position-turned_back, position_passed}
use Rattle.tiles.proofs.Steps.{locates-refused, locates-found}
use Rattle.tiles.proofs.positions.position_of.Goals as goal
use Rattle.tiles.proofs.positions.position_of.Goals.{then-tile-lt1-via-then-tile-lt1, then-tile-lt1-via-else-tile-lt1+then-tile_count-tile}

pub returns-in_err-grid : goal.returns-in_err-grid
returns-in_err-grid c =
    let back : c.from_residual.result ≡ Err c.in_err-grid.field-0.0 = search rules in
    rw back (locates-refused _ _ (position-turned_back c.args.plan c.args.tile c.in_err-grid.ensures))

pub returns-then-tile-lt1 : goal.returns-then-tile-lt1
returns-then-tile-lt1 c =
    let shaped = c.in_ok-grid.grid in
    let tiles = tiles_of (layout_of shaped.plan.now) in
    let passed = position_passed c.args.plan c.args.tile shaped.plan.now c.in_ok-grid.ensures in
    elim c.then-tile-lt1.branch [
      | then-tile-lt1-via-then-tile-lt1 w ↦ rw (passed, lt-leb 1 c.args.tile w.if-tile-lt1.true) (record { told = refl; held = refl })
      | then-tile-lt1-via-else-tile-lt1+then-tile_count-tile w ↦
          rw (passed, le-leb 1 c.args.tile w.if-tile-lt1.false, lt-leb c.args.tile tiles (omega (arith, w.if-tile_count-tile.true, w.tile_count.ensures)))
          (record { told = refl; held = refl })
    ]

pub returns : goal.returns
unfolding position_of
returns c =
    let shaped = c.in_ok-grid.grid in
    let plan = shaped.plan.now in
    let digits = digits_up (layout_of plan).cuts (c.args.tile - 1) in
    let within : c.args.tile ≤ tiles_of (layout_of plan) = omega (arith, c.if-tile_count-tile.false, c.tile_count.ensures) in
    let long : length digits ≡ plan.d = length-digits_up (layout_of plan).cuts (c.args.tile - 1) ∙ cuts_length plan shaped.shaped in
    rw (
      position_passed c.args.plan c.args.tile shaped.plan.now c.in_ok-grid.ensures,
      le-leb 1 c.args.tile c.if-tile-lt1.false,
      le-leb c.args.tile (tiles_of (layout_of plan)) within,
      c.digits.ensures,
    )
    (locates-found digits (omega (arith, long, shaped.shaped.d_high)))
