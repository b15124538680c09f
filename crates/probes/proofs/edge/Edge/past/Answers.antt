use mathlib.Core.Path.{refl, ap, ◌∙◌}
use native.Mathlib.Omega.{arith}
use Rattle.tiles.specs.declared.cut.Slabs.{Slabs}
use Rattle.probes.proofs.Edges.{slab_follows, next_starts, edge_of}
use Rattle.probes.proofs.edge.Edge.past.Goals as goal

pub loop-edge-init : goal.loop-edge-init
loop-edge-init c = (refl, c.requires.0)

pub next-edge-requires : goal.next-edge-requires
next-edge-requires c =
    let edge = c.loop-edge.edge in
    slab_follows _ _ edge.slabs.ranges.cut_low edge.slabs.ranges.cut_fits edge.slab edge.after edge.behind c.args.element (omega (arith, c.loop-edge-test.true)) (rw c.loop-edge.invariant.0 c.requires.1)

pub loop-edge-smaller : goal.loop-edge-smaller
loop-edge-smaller c =
    let next = c.next-edge.ensures in
    let cut = ap (λ (slabs : Slabs). slabs.cut) next.0 in
    omega (arith, next.1, cut, c.next-edge.result.behind.below)

pub loop-edge-preserved : goal.loop-edge-preserved
loop-edge-preserved c =
    let edge = c.loop-edge.edge in
    let next = c.next-edge.ensures in
    (next.0 ∙ c.loop-edge.invariant.0, rw next.0 (next_starts _ _ edge.slabs.ranges.cut_low edge.slabs.ranges.cut_fits edge.slab edge.after edge.behind _ c.args.element next.1 (omega (arith, c.loop-edge-test.true))))

pub returns : goal.returns
returns c =
    let edge = c.loop-edge.edge in
    let same = c.loop-edge.invariant.0 in
    (same, rw same at (edge_of _ _ edge.slabs.ranges.cut_low edge.slabs.ranges.cut_fits edge.slab edge.after edge.behind c.args.element c.loop-edge.invariant.1 (omega (arith, c.loop-edge-test.false))))
