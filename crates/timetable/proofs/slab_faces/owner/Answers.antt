-- `owner` meets its contract.
use mathlib.Core.Path.{◌≡◌, ◌∙◌, subst⁻¹}
use Prim.Native.Nat.{ℕ, ◌<◌}
use lib.ListN.{take}
use Rattle.layout.specs.Plans.{layout_of}
use Rattle.layout.proofs.Shaped.{in_shape_of_shaped}
use Rattle.multipartition.proofs.Plans.{in_shape_owner_below}
use Rattle.multipartition.specs.Owners.{owner_at}
use Rattle.timetable.proofs.Walks.{owner_asked}
use Rattle.timetable.proofs.slab_faces.owner.Goals as goal
use Rattle.timetable.proofs.slab_faces.owner.Goals.{After-owner}

owned : (c : After-owner) → c.owner.result ≡ owner_at (layout_of c.args.grid.now.plan).moduli (layout_of c.args.grid.now.plan).matrix (take c.args.grid.now.plan.d c.args.at)
owned c = c.owner.ensures ∙ owner_asked c.args.grid.now.plan _ c.owners-owners.ensures _

pub returns : goal.returns
unfolding layout_of
returns c = (
  owned (goal.at.returns c).After-owner,
  subst⁻¹ (λ (n : ℕ). n < c.args.grid.now.plan.p) (owned (goal.at.returns c).After-owner)
      (in_shape_owner_below (layout_of c.args.grid.now.plan) (in_shape_of_shaped c.args.grid.now.plan c.args.grid.now.shaped) (take c.args.grid.now.plan.d c.args.at)),
)
