-- `Position::one_step_on` meets its contract.
use Rattle.std.proofs.Common.{arith, ◌≡◌, ◌<◌, ◌≤◌, ℕ, get_or, length}
use Rattle.layout.specs.declared.Plan.{Plan}
use Rattle.layout.specs.Positions.{InGrid}
use Rattle.layout.specs.Plans.{layout_of}
use Rattle.layout.specs.Shaped.{Shaped}
use Rattle.layout.proofs.Places.{cut_at}
use Rattle.tiles.specs.declared.positions.Position.{Position}
use Rattle.tiles.specs.Positions.{coordinates}
use Rattle.tiles.proofs.Coordinates.{grid_d, grid-at}
use Rattle.tiles.proofs.Steps.{Next, edge_down, step_inside, step_outside}
use Rattle.tiles.proofs.positions.Position.one_step_on.Goals as goal
use Rattle.tiles.proofs.positions.Position.one_step_on.Goals.{then-up, else-up+in_ok-next}

-- the coordinate along the dimension is below its cut
module _ (plan : Plan) (shaped : Shaped plan) (position : Position) (g : InGrid plan (coordinates position)) (k : ℕ) (below : k < plan.d) where
  here : get_or (coordinates position) k 0 ≡ get_or position.at k 0
  here = grid-at plan position g k below

  inside : get_or (coordinates position) k 0 < get_or (layout_of plan).cuts k 0
  inside = rw (cut_at plan k below) (g.below k below)

  few : length (coordinates position) ≤ 5
  few = omega (arith, g.coordinates, shaped.d_high)

pub overflow_add-next : goal.overflow_add-next
overflow_add-next c =
    let a = c.args in
    omega (arith, c.requires.0.below a.k c.requires.1, here a.grid.plan.now a.grid.shaped a.self c.requires.0 a.k c.requires.1, a.grid.shaped.cut_high a.k c.requires.1)

pub returns-in_err-next : goal.returns-in_err-next
returns-in_err-next c =
    let a = c.args in
    let none : 1 ≤ get_or a.self.at a.k 0 → ⊥ = c.in_err-next.ensures in
    let bottom : get_or (coordinates a.self) a.k 0 ≡ 0 = omega (arith, none, here a.grid.plan.now a.grid.shaped a.self c.requires.0 a.k c.requires.1) in
    rw c.from_residual.ensures (edge_down (layout_of a.grid.plan.now).cuts (coordinates a.self) a.k bottom a.up c.if-up.false)

pub with-requires : goal.with-requires
with-requires c =
    let a = c.args in
    let same = grid_d a.grid.plan.now a.self c.requires.0 in
    (omega (arith, same, a.grid.shaped.d_high), omega (arith, same, c.requires.1))

pub returns-then-next-grid : goal.returns-then-next-grid
returns-then-next-grid c =
    let a = c.args in
    let plan = a.grid.plan.now in
    let same = here plan a.grid.shaped a.self c.requires.0 a.k c.requires.1 in
    let cut = cut_at plan a.k c.requires.1 in
    let next : Next a.up (get_or (coordinates a.self) a.k 0) c.if-up.next = elim c.if-up.branch [
      | then-up w ↦ rw (w.if-up.true, same) (omega (arith, w.next-is))
      | else-up+in_ok-next w ↦ let e = w.in_ok-next.ensures in rw (w.if-up.false, same) (omega (arith, w.next-is, e.0, e.1))
    ] in
    rw c.with.ensures
    (step_inside (layout_of plan).cuts (coordinates a.self) a.k c.if-up.next (few plan a.grid.shaped a.self c.requires.0 a.k c.requires.1) a.up next (omega (arith, c.if-next-grid.true, cut)))

pub returns-else-next-grid : goal.returns-else-next-grid
returns-else-next-grid c =
    let a = c.args in
    let plan = a.grid.plan.now in
    let same = here plan a.grid.shaped a.self c.requires.0 a.k c.requires.1 in
    let cut = cut_at plan a.k c.requires.1 in
    let next : Next a.up (get_or (coordinates a.self) a.k 0) c.if-up.next = elim c.if-up.branch [
      | then-up w ↦ rw (w.if-up.true, same) (omega (arith, w.next-is))
      | else-up+in_ok-next w ↦ let e = w.in_ok-next.ensures in rw (w.if-up.false, same) (omega (arith, w.next-is, e.0, e.1))
    ] in
    step_outside (layout_of plan).cuts (coordinates a.self) a.k c.if-up.next (inside plan a.grid.shaped a.self c.requires.0 a.k c.requires.1) a.up next
    (omega (arith, c.if-next-grid.false, cut))
