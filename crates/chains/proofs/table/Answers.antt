-- `table` meets its contract.
use mathlib.Core.Path.{◌≡◌, ◌∙◌}
use mathlib.Core.Bool.{false}
use native.Mathlib.Omega.{arith}
use lib.ListN.{length-set}
use Rattle.multipartition.specs.Neighbours.{next_owner}
use Rattle.layout.specs.Plans.{layout_of}
use Rattle.chains.proofs.Counting.{next_below, tabled_made}
use Rattle.chains.proofs.Filling.{places_more}
use Rattle.chains.proofs.table.Goals as goal

pub overflow_cast-below : goal.overflow_cast-below
unfolding layout_of
overflow_cast-below c =
    let a = c.args.axis.now in
    omega (arith, rw (c.owners-owners.ensures.d_is, c.owners-owners.ensures.moduli_are, c.owners-owners.ensures.matrix_are) at c.neighbour.ensures, next_below a.shaped.plan a.shaped.shaped a.k c.loop-q.q, a.shaped.shaped.p_high)

pub loop-q-preserved : goal.loop-q-preserved
unfolding layout_of
loop-q-preserved c =
    let l = c.loop-q in (
      length-set l.below-items l.q _ ∙ l.invariant.0,
      places_more (λ r x. x ≡ next_owner (layout_of c.args.axis.now.shaped.plan).moduli (layout_of c.args.axis.now.shaped.plan).matrix c.args.axis.now.k false r) l.below-items l.q _
          (omega (arith, l.auto.below-items, c.loop-q-test.true)) l.invariant.1
          (rw (c.owners-owners.ensures.d_is, c.owners-owners.ensures.moduli_are, c.owners-owners.ensures.matrix_are) at c.neighbour.ensures),
    )

pub returns : goal.returns
returns c =
    let l = c.loop-q in
    let a = c.args.axis.now in
    tabled_made a.shaped.plan a.k c.args.c _ c.args.downs.now l.below-items c.requires.0 a.shaped.shaped.p_high c.told-downs (omega arith) l.invariant.0
    (λ r m. l.invariant.1 r (omega (arith, m, l.auto.below-items, l.invariant.0, c.loop-q-test.false)))
