-- `places` meets its contract: the loop fills the places from the front, dividing by cut after cut.
use mathlib.Core.Path.{◌≡◌}
use Prim.Native.Nat.{ℕ, ◌/◌, ◌<◌}
use lib.ListN.{length, get_or, take}
use Rattle.numbers.specs.Products.{product}
use Rattle.layout.specs.Plans.{layout_of}
use Rattle.timetable.specs.Rows.{places_of}
use Rattle.timetable.proofs.slab_faces.places.Given as goal

abbrev pub invariant-loop-i : goal.invariant-loop-i
invariant-loop-i l = (l.rest ≡ l.r / product (take l.i (layout_of l.fn.grid.plan).cuts)) × ((j : ℕ) → j < l.i → get_or l.at j 0 ≡ get_or (places_of (layout_of l.fn.grid.plan).cuts l.r) j 0) × (length l.at ≡ 5)
