-- `Edge::next` meets its contract.
use mathlib.Core.Path.{ap}
use Prim.Native.Nat.{ℕ, ◌+◌}
use native.Mathlib.Omega.{arith}
use Rattle.probes.specs.Edges.{Behind}
use Rattle.probes.proofs.Edges.{edge_high, edge-next}
use Rattle.probes.proofs.edge.Edge.next.Goals as goal
use Rattle.probes.proofs.edge.Edge.next.Goals.{After-thickness}

behind_next : (c : After-thickness)
    → Behind c.args.self.slabs.extent c.args.self.slabs.cut (c.args.self.slab + 1) (c.args.self.after + c.thickness.result)
behind_next c =
    let edge = c.args.self in
    edge-next _ _ edge.slabs.ranges.cut_low edge.slabs.ranges.cut_fits edge.slab edge.after edge.behind _ c.requires (ap (λ (t : ℕ). edge.after + t) c.thickness.ensures)

pub overflow_add-result : goal.overflow_add-result
overflow_add-result c =
    let slabs = c.args.self.slabs in
    omega (arith, edge_high _ _ slabs.ranges.cut_low slabs.ranges.cut_fits _ _ (behind_next (goal.at.overflow_add-result c).After-thickness), slabs.ranges.extent_high)

pub invariant_of-result : goal.invariant_of-result
invariant_of-result c = record { behind = behind_next (goal.at.invariant_of-result c).After-thickness }
