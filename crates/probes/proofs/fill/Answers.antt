use mathlib.Core.Path.{◌≡◌, refl, ◌∙◌}
use native.Mathlib.Nat.{le_trans}
use native.Mathlib.Numerals.{add-one}
use native.Mathlib.Omega.{arith}
use lib.ListN.{length}
use Rattle.multipartition.proofs.Slabs.{slab_start-zero}
use Rattle.probes.proofs.Edges.{slab_of_starts}
use Rattle.probes.proofs.Filling.{filled_next, filled_all}
use Rattle.probes.proofs.fill.Goals as goal

pub loop-i-init : goal.loop-i-init
loop-i-init c =
    (refl, c.first-edge.ensures.0, λ l. rw c.first-edge.ensures.1 (omega (arith, slab_start-zero c.args.along.extent c.args.along.cut)))

pub loop-i-preserved : goal.loop-i-preserved
loop-i-preserved c =
    let head = c.loop-i in
    let h = head.invariant in
    let n = c.args.along.extent in
    let b = c.args.along.cut in
    let elements = c.args.elements.now in
    let l = c.loop-i-test.true in
    let inside = c.requires.0.within head.i l in
    let found = rw h.1 at c.past-edge.ensures.1 in
    let starts = slab_of_starts n b c.args.along.ranges.cut_low c.args.along.ranges.cut_fits _ _ found inside in (
      rw h.0 (filled_next n b elements c.args.slabs.now head.i _ l (omega (arith, l, c.requires.1)) found),
      c.past-edge.ensures.0 ∙ h.1,
      λ more. rw (add-one head.i) (le_trans starts (c.requires.0.rises head.i (omega (arith, more)))),
    )

pub returns : goal.returns
returns c =
    let head = c.loop-i in
    let all : head.i ≡ length c.args.elements.now = omega (arith, head.auto.i-end, c.loop-i-test.false) in
    head.invariant.0 ∙ rw all (filled_all c.args.along.extent c.args.along.cut c.args.elements.now c.args.slabs.now)
