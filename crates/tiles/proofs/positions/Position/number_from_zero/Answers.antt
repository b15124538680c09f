use Rattle.std.proofs.Common.{rules, arith, ◌≡◌, sym, ap, ◌∙◌, ⊎_elim, ◌+◌, ◌*◌, ◌<◌}
use lib.ListN.{length, take}
use lib.Seq.{length-take-le}
use Rattle.std.specs.Slice.Iter.{iter_rest}
use Rattle.std.specs.Iterator.Adapters.{rev_source, zip_first, zip_second}
use Rattle.multipartition.specs.MixedRadix.{number_up}
use Rattle.layout.specs.Plans.{layout_of}
use Rattle.tiles.specs.Positions.{coordinates}
use Rattle.tiles.proofs.Coordinates.{grid_front, number_small}
use Rattle.tiles.proofs.Numbers.{number-init, number-next, number_all}
use Rattle.tiles.proofs.positions.Position.number_from_zero.Goals as goal
use Rattle.tiles.proofs.positions.Position.number_from_zero.Goals.{In-Some}

-- the next number is that of the coordinates from a place on
small : (c : In-Some) → length c.args.self.at ≡ 5 → c.loop-i.number * c.in-Some.b.now + c.in-Some.i.now < 16777216
unfolding layout_of
small c five =
    let s = c.in-Some.ensures.steps in
    let plan = c.args.grid.plan.now in
    let front = iter_rest (rev_source (zip_second c.next.new.self)) in
    let next = (number-next _ _ _ _ _ _ _ (rw (s.0, s.1) at c.loop-i.invariant)).1 in
    let at : take plan.d c.args.self.at ≡ coordinates c.args.self = grid_front plan c.args.grid.shaped c.args.self c.requires five in
    omega (arith, rw at at next, number_small plan c.args.grid.shaped (coordinates c.args.self) c.requires (length front))

pub loop-i-init : goal.loop-i-init
loop-i-init c =
    let plan = c.args.grid.plan.now in
    let shaped = c.args.grid.shaped in
    let at : length (take plan.d c.args.self.at) ≡ plan.d = length-take-le plan.d c.args.self.at (search (rules, shaped.d_high)) in
    let cuts : length (take plan.d plan.cuts) ≡ plan.d = length-take-le plan.d plan.cuts shaped.cuts_long in
    rw (
      c.into_iter-i-iterator.ensures.into_iter_gives,
      c.zip-i-items.ensures.first,
      c.zip-i-items.ensures.second,
      c.rev.ensures.source,
      c.rev-2.ensures.source,
      c.iter.ensures.rest,
      c.iter-2.ensures.rest,
    )
    (number-init (take plan.d plan.cuts) (take plan.d c.args.self.at) (at ∙ sym cuts))

pub overflow_mul-number : goal.overflow_mul-number
overflow_mul-number c = omega (arith, small (goal.at.overflow_mul-number c).In-Some (search rules))

pub overflow_add-number : goal.overflow_add-number
overflow_add-number c = omega (arith, small (goal.at.overflow_add-number c).In-Some (search rules))

pub loop-i-preserved : goal.loop-i-preserved
loop-i-preserved c =
    let s = c.in-Some.ensures.steps in
    (number-next _ _ _ _ _ _ _ (rw (s.0, s.1) at c.loop-i.invariant)).0

pub returns : goal.returns
unfolding layout_of
returns c =
    let s = c.in-None.ensures.steps in
    let l = c.loop-i in
    let a = iter_rest (rev_source (zip_first l.i-iterator)) in
    let none : length a ≡ 0
    = ⊎_elim (λ first. first.1.0) (λ second. l.invariant.as_many ∙ second.1.0) s in
    let plan = c.args.grid.plan.now in
    let all : l.number ≡ number_up (layout_of plan).cuts (coordinates c.args.self)
    = number_all _ _ _ _ _ l.invariant none ∙ ap (number_up (layout_of plan).cuts) (grid_front plan c.args.grid.shaped c.args.self c.requires (search rules)) in
    (all, omega (arith, all, number_small plan c.args.grid.shaped (coordinates c.args.self) c.requires 0))
