-- `fill` meets its contract. The loop's invariant: the slabs of the elements so far stand, and the slab of the edge starts at the next element or
-- before it.
use mathlib.Core.Path.{◌≡◌}
use Prim.Native.Nat.{◌-◌, ◌≤◌, ◌<◌}
use lib.ListN.{length, get_or}
use Rattle.multipartition.specs.Slabs.{slab_start}
use Rattle.probes.proofs.Filling.{filled}
use Rattle.probes.proofs.fill.Given as goal

abbrev pub invariant-loop-i : goal.invariant-loop-i
invariant-loop-i l =
    (l.slabs ≡ filled l.fn.along.extent l.fn.along.cut l.elements l.initial.slabs l.i)
    × (l.edge.slabs ≡ l.fn.along)
    × (l.i < length l.elements → slab_start l.fn.along.extent l.fn.along.cut l.edge.slab ≤ get_or l.elements l.i 0)

abbrev pub decreases-loop-i : goal.decreases-loop-i
decreases-loop-i l = l.i-end - l.i
