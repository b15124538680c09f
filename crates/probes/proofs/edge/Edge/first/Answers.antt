-- `Edge::first` meets its contract.
use Rattle.probes.proofs.Edges.{edge-first}
use Rattle.probes.proofs.edge.Edge.first.Goals as goal

pub invariant_of-result : goal.invariant_of-result
invariant_of-result c = record { behind = edge-first _ _ c.args.slabs.ranges.cut_low c.args.slabs.ranges.cut_fits _ c.thickness.ensures }
