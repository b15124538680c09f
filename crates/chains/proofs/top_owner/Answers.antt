-- `top_owner` meets its contract: the highest tile has the highest coordinate along each dimension.
use mathlib.Core.Path.{◌≡◌, sym, ap, ◌∙◌}
use mathlib.Core.List.{List}
use Prim.Native.Nat.{ℕ, ◌-◌, ◌<◌}
use native.Mathlib.Omega.{arith}
use lib.ListN.{get_or, length-set}
use lib.Seq.{length-take-le, get_or-take, get_or-set_other, ext_get_or}
use Rattle.multipartition.specs.Owners.{owner_at}
use Rattle.multipartition.specs.Plans.{tiles_of}
use Rattle.multipartition.specs.Tiles.{position_of}
use Rattle.multipartition.specs.Questions.{tile_owner}
use Rattle.multipartition.proofs.MixedRadix.{Positive, positive_of_places}
use Rattle.multipartition.proofs.Tiles.{length_position, top_position}
use Rattle.multipartition.proofs.Plans.{in_shape_owner_below}
use Rattle.layout.specs.declared.Plan.{Plan}
use Rattle.layout.specs.Plans.{layout_of}
use Rattle.layout.specs.Shaped.{Shaped}
use Rattle.layout.proofs.Places.{cuts_length, cut_at}
use Rattle.layout.proofs.Shaped.{in_shape_of_shaped}
use Rattle.chains.proofs.Filling.{places_more}
use Rattle.chains.proofs.top_owner.Invariants.{Top}
use Rattle.chains.proofs.top_owner.Goals as goal

-- all are: the position of the highest tile
top_is : (plan : Plan) (at : List ℕ) → Shaped plan → Top plan plan.d at → at ≡ position_of (layout_of plan).cuts (tiles_of (layout_of plan))
top_is plan at s t =
    ext_get_or 0 at (position_of cuts (tiles_of (layout_of plan))) (t.long ∙ sym (length_position cuts (tiles_of (layout_of plan)) ∙ cuts_length plan s))
    (λ j l.
    let within : j < plan.d = omega (arith, t.long) in
    t.coordinate j within
    ∙ sym (top_position cuts positive j (omega (arith, within, cuts_length plan s)) ∙ ap (λ (b : ℕ). b - 1) (cut_at plan j within)))
  where
    cuts : List ℕ
    cuts = (layout_of plan).cuts

    positive : Positive cuts
    positive = positive_of_places cuts (λ i l. let h : i < plan.d = omega (arith, cuts_length plan s) in rw (cut_at plan i h) (s.cut_low i h))

pub loop-coordinate-init : goal.loop-coordinate-init
loop-coordinate-init c =
    let s = c.args.shaped.now.shaped in
    record {
      long = length-take-le c.args.shaped.now.plan.d c.args.shaped.now.plan.cuts s.cuts_long;
      coordinate = λ j l. absurd (omega arith);
      cut = λ j l m. get_or-take c.args.shaped.now.plan.d c.args.shaped.now.plan.cuts j 0 m;
    }

pub overflow_sub-coordinate : goal.overflow_sub-coordinate
overflow_sub-coordinate c =
    let l = c.loop-coordinate in
    let here : l.coordinate-index < c.args.shaped.now.plan.d = omega (arith, c.loop-coordinate-test.true, l.auto.coordinates, l.invariant.long) in
    omega (arith, l.invariant.cut l.coordinate-index (omega arith) here, c.args.shaped.now.shaped.cut_low l.coordinate-index here)

pub loop-coordinate-preserved : goal.loop-coordinate-preserved
loop-coordinate-preserved c =
    let l = c.loop-coordinate in
    let here : l.coordinate-index < c.args.shaped.now.plan.d = omega (arith, c.loop-coordinate-test.true, l.auto.coordinates, l.invariant.long) in
    record {
      long = length-set l.coordinates l.coordinate-index _ ∙ l.invariant.long;
      coordinate =
          places_more (λ j x. x ≡ get_or c.args.shaped.now.plan.cuts j 0 - 1) l.coordinates l.coordinate-index _ (omega (arith, here, l.invariant.long)) l.invariant.coordinate
          (ap (λ (b : ℕ). b - 1) (l.invariant.cut l.coordinate-index (omega arith) here));
      cut = λ j m within.
          get_or-set_other l.coordinates l.coordinate-index j _ 0 (λ same. absurd (omega arith)) ∙ l.invariant.cut j (omega arith) within;
    }

pub owner-requires : goal.owner-requires
owner-requires c =
    let l = c.loop-coordinate in
    let s = c.args.shaped.now.shaped in (
      record {
        few = omega (arith, s.d_high, c.owners.ensures.d_is);
        below = λ i m.
            let here : i < c.args.shaped.now.plan.d = omega (arith, m, c.owners.ensures.d_is) in
            rw (l.invariant.coordinate i (omega (arith, here, c.loop-coordinate-test.false, l.auto.coordinates, l.invariant.long)))
            (omega (arith, s.cut_low i here, s.cut_high i here));
      },
      l.invariant.long ∙ sym c.owners.ensures.d_is,
    )

pub returns : goal.returns
unfolding layout_of
returns c =
    let l = c.loop-coordinate in
    let s = c.args.shaped.now.shaped in
    let all : l.coordinate-index ≡ c.args.shaped.now.plan.d = omega (arith, c.loop-coordinate-test.false, l.auto.coordinates, l.auto.coordinate-index-end, l.invariant.long) in
    let owner : c.owner.result ≡ tile_owner (layout_of c.args.shaped.now.plan) (tiles_of (layout_of c.args.shaped.now.plan))
    = rw (c.owners.ensures.d_is, c.owners.ensures.moduli_are, c.owners.ensures.matrix_are) at c.owner.ensures
    ∙ ap (owner_at (layout_of c.args.shaped.now.plan).moduli (layout_of c.args.shaped.now.plan).matrix) (top_is c.args.shaped.now.plan l.coordinates s (rw all at l.invariant)) in (
      owner,
      rw owner (in_shape_owner_below (layout_of c.args.shaped.now.plan) (in_shape_of_shaped c.args.shaped.now.plan s) _),
    )
