use mathlib.Core.Path.{◌≡◌}
use lib.ListN.{take}
use Rattle.numbers.specs.Products.{product}
use Rattle.layout.specs.Plans.{layout_of}
use Rattle.timetable.specs.Faces.{thicknesses}
use Rattle.timetable.proofs.slab_faces.volume.Given as goal

abbrev pub invariant-loop-i : goal.invariant-loop-i
invariant-loop-i l = l.all ≡ product (take l.i (thicknesses (layout_of l.grid.plan).extents (layout_of l.grid.plan).cuts (take l.grid.plan.d l.fn.at)))
