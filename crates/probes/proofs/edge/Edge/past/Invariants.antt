-- `Edge::past` meets its contract. The loop's invariant: the slab of the edge starts at the element or before it.
use mathlib.Core.Path.{◌≡◌}
use Prim.Native.Nat.{◌-◌, ◌≤◌}
use Rattle.multipartition.specs.Slabs.{slab_start}
use Rattle.probes.proofs.edge.Edge.past.Given as goal

abbrev pub invariant-loop-edge : goal.invariant-loop-edge
invariant-loop-edge l = (l.edge.slabs ≡ l.fn.self.slabs) × (slab_start l.edge.slabs.extent l.edge.slabs.cut l.edge.slab ≤ l.element)

abbrev pub decreases-loop-edge : goal.decreases-loop-edge
decreases-loop-edge l = l.edge.slabs.cut - l.edge.slab
