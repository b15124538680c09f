-- `flatten` meets its contract.
use mathlib.Core.Path.{refl}
use Rattle.timetable.specs.Rows.{flattened}
use Rattle.timetable.proofs.Grids.{shaped-flat}
use Rattle.timetable.proofs.slab_faces.flatten.Goals as goal

pub invariant_of-result : goal.invariant_of-result
unfolding flattened
invariant_of-result c =
    let axis = c.args.axis.now in
    record { shaped = shaped-flat axis.shaped.plan axis.k axis.shaped.shaped axis.within }

pub returns : goal.returns
unfolding flattened
returns c = refl
