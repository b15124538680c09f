-- `walks::with_coordinates` meets its contract. Assumes nothing.
use mathlib.Core.Path.{◌≡◌, refl, ◌∙◌}
use Prim.Native.Nat.{◌+◌, ◌<◌}
use native.Mathlib.Omega.{arith}
use lib.ListN.{length, get_or}
use Rattle.std.specs.Slice.Iter.{iter_rest}
use Rattle.questions.proofs.Behind.{Before, all_left, one_behind}
use Rattle.walks.proofs.Filling.{standing_none, standing-next}
use Rattle.walks.proofs.with_coordinates.Goals as goal
use Rattle.walks.proofs.with_coordinates.Goals.{After-row_known-1}

pub loop-i-init : goal.loop-i-init
loop-i-init c =
    let plan = c.args.shaped.plan in
    let start = all_left plan.moduli plan.d _ c.args.shaped.shaped.moduli_long c.iter.ensures.rest in
    rw (c.into_iter-i-iterator.ensures.into_iter_gives, c.rev-i-items.ensures.source, c.enumerate.ensures.source, c.enumerate.ensures.count)
    (refl, start.1, rw start.0 (standing_none plan c.args.shaped.shaped c.args.processor))

-- the dimension of this turn
behind : (c : After-row_known-1) → let left = iter_rest c.loop-i.i-iterator.iter.iter in
    let back = iter_rest c.next.new.self.iter.iter in
    let plan = c.args.shaped.plan in
    (length left ≡ c.in-Some.i + 1) × (c.in-Some.i < plan.d) × (c.in-Some.m.now ≡ get_or plan.moduli c.in-Some.i 0) × Before plan.moduli plan.d (length back) back
behind c =
    let steps = c.in-Some.ensures.steps in
    one_behind _ _ _ _ _ _ c.loop-i.invariant.1 steps.1.0 (omega (arith, steps.1.1, c.loop-i.invariant.0))

pub nonzero_rem-coordinates : goal.nonzero_rem-coordinates
nonzero_rem-coordinates c = omega (arith, (behind c).2, c.args.shaped.shaped.modulus_low c.in-Some.i (behind c).1)

pub nonzero_div-rest : goal.nonzero_div-rest
nonzero_div-rest c = omega (arith, (behind c).2, c.args.shaped.shaped.modulus_low c.in-Some.i (behind c).1)

pub loop-i-preserved : goal.loop-i-preserved
loop-i-preserved c =
    let steps = c.in-Some.ensures.steps in
    let here = behind c in
    let place : c.in-Some.i ≡ length (iter_rest c.next.new.self.iter.iter) = omega (arith, steps.1.1, c.loop-i.invariant.0) in (
      steps.0 ∙ c.loop-i.invariant.0,
      here.3,
      rw (← place) (standing-next _ c.args.shaped.shaped _ _ _ _ _ _ here.0 here.1 here.2 c.loop-i.invariant.2),
    )
