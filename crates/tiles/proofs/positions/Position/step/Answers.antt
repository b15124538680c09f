-- `Position::step` meets its contract.
use Rattle.std.proofs.Common.{rules, ◌≡◌, refl, ap, sym, ◌∙◌, arith, Err, true, false, ◌+◌, ◌-◌, ◌≤◌}
use mathlib.Core.Bool.{not}
use borrow.Author.Tests.{not-true, not-false}
use Rattle.multipartition.proofs.Tests.{between-true_iff}
use Rattle.layout.specs.Plans.{layout_of}
use Rattle.layout.proofs.Positions.{in_grid_lem}
use Rattle.tiles.specs.Positions.{coordinates}
use Rattle.tiles.proofs.Asked.{step-turned_back, step_no-dimension, step_passed, shaped_same}
use Rattle.tiles.proofs.Steps.{moves_refused}
use Rattle.tiles.proofs.positions.Position.step.Goals as goal
use Rattle.tiles.proofs.positions.Position.step.Goals.{Else-not-has_dimension}

-- once both checks have passed, the dimension has a place
within : (c : Else-not-has_dimension) → (1 ≤ c.args.dimension) × (c.args.dimension ≤ c.in_ok-grid.grid.plan.now.d)
unfolding layout_of
within c =
    let same : c.in_ok-grid.grid.plan.now ≡ c.args.plan = shaped_same c.args.plan c.in_ok-grid.grid.plan.now c.in_ok-grid.ensures in
    rw same ((between-true_iff 1 c.args.plan.d c.args.dimension).0 (sym c.has_dimension.ensures ∙ c.if-not-has_dimension.false))

pub returns-in_err-grid : goal.returns-in_err-grid
returns-in_err-grid c =
    let a = c.args in
    let back : c.from_residual.result ≡ Err c.in_err-grid.field-0.0 = search rules in
    rw back (moves_refused _ _ (step-turned_back a.plan (coordinates a.self) a.dimension a.up c.in_err-grid.ensures))

pub returns-then-not-has_dimension : goal.returns-then-not-has_dimension
returns-then-not-has_dimension c =
    let a = c.args in
    rw (step_no-dimension a.plan (coordinates a.self) a.dimension a.up c.in_ok-grid.grid.plan.now c.in_ok-grid.ensures (sym c.has_dimension.ensures ∙ c.if-not-has_dimension.true))
    (record { told = refl; held = refl })

pub returns-then-not-in_grid : goal.returns-then-not-in_grid
returns-then-not-in_grid c =
    let a = c.args in
    rw (
      step_passed a.plan (coordinates a.self) a.dimension a.up c.in_ok-grid.grid.plan.now c.in_ok-grid.ensures (sym c.has_dimension.ensures ∙ c.if-not-has_dimension.false),
      sym c.in_grid.ensures ∙ c.if-not-in_grid.true,
    )
    (record { told = refl; held = refl })

pub one_step_on-requires : goal.one_step_on-requires
one_step_on-requires c =
    let grid = c.in_ok-grid.grid in
    let w = within (goal.at.one_step_on-requires c).Else-not-has_dimension in
    (in_grid_lem grid.plan.now grid.shaped (coordinates c.args.self) (sym c.in_grid.ensures ∙ c.if-not-in_grid.false), omega (arith, w))

pub returns : goal.returns
returns c =
    let a = c.args in
    rw (
      step_passed a.plan (coordinates a.self) a.dimension a.up c.in_ok-grid.grid.plan.now c.in_ok-grid.ensures (sym c.has_dimension.ensures ∙ c.if-not-has_dimension.false),
      sym c.in_grid.ensures ∙ c.if-not-in_grid.false,
    )
    c.one_step_on.ensures
