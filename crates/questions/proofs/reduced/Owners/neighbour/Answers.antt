-- `questions::Owners::neighbour` meets its contract. Assumes nothing.
use mathlib.Core.Path.{◌≡◌, refl, ◌∙◌}
use Prim.Native.Nat.{◌+◌, ◌*◌, ◌/◌, ◌<◌}
use native.Mathlib.Nat.{mod-lt}
use native.Mathlib.Omega.{arith}
use lib.ListN.{length, get_or}
use Rattle.std.specs.Slice.Iter.{iter_rest}
use Rattle.questions.proofs.Behind.{Before, all_left, one_behind}
use Rattle.questions.proofs.Bounds.{modulus_high}
use Rattle.questions.proofs.Neighbours.{Walked, walk_start, walk-next, walk_number_high, walk_radix_high, walk_end}
use Rattle.questions.proofs.reduced.Owners.neighbour.Goals as goal
use Rattle.questions.proofs.reduced.Owners.neighbour.Goals.{After-row_known-1, After-turn}

pub loop-i-init : goal.loop-i-init
loop-i-init c =
    let own = c.args.self in
    let start = all_left own.moduli.now own.d _ own.reduced.long c.iter.ensures.rest in
    rw (c.into_iter-i-iterator.ensures.into_iter_gives, c.rev-i-items.ensures.source, c.enumerate.ensures.source, c.enumerate.ensures.count) (
      refl,
      start.1,
      rw start.0 (walk_start _ _ _ own.reduced _ _ _),
    )

-- the dimension of this turn
behind : (c : After-row_known-1) → let left = iter_rest c.loop-i.i-iterator.iter.iter in
    let back = iter_rest c.next.new.self.iter.iter in
    (length left ≡ c.in-Some.i + 1)
    × (c.in-Some.i < c.args.self.d)
    × (c.in-Some.m.now ≡ get_or c.args.self.moduli.now c.in-Some.i 0)
    × Before c.args.self.moduli.now c.args.self.d (length back) back
behind c =
    let steps = c.in-Some.ensures.steps in
    one_behind _ _ _ _ _ _ c.loop-i.invariant.1 steps.1.0 (omega (arith, steps.1.1, c.loop-i.invariant.0))

pub nonzero_rem-rest : goal.nonzero_rem-rest
nonzero_rem-rest c = omega (arith, (behind c).2, c.args.self.reduced.modulus_low c.in-Some.i (behind c).1)

pub turn-requires : goal.turn-requires
turn-requires c =
    let own = c.args.self in
    let here = behind (goal.at.turn-requires c).After-row_known-1 in
    rw here.2 (modulus_high _ _ _ own.reduced _ here.1, mod-lt _ (own.reduced.modulus_low _ here.1), own.reduced.entry_below _ _ here.1 c.requires)

-- the walk with the coordinate that the turn puts in front
walked : (c : After-turn) → let l = c.loop-i in
    Walked c.args.self.d c.args.self.moduli.now c.args.self.matrix.now c.args.k c.args.up c.args.processor c.in-Some.i
    (l.number + c.turn.result * l.radix)
    (l.radix * c.in-Some.m.now)
    (l.rest / c.in-Some.m.now)
walked c =
    let here = behind c.before.before in
    walk-next _ _ _ c.args.self.reduced _ _ _ _ _ _ _ _ _ _ c.loop-i.invariant.2 here.0 here.1 here.2 c.requires c.turn.ensures

number_high : (c : After-turn) → c.loop-i.number + c.turn.result * c.loop-i.radix < 4096
number_high c = walk_number_high _ _ _ c.args.self.reduced _ _ _ _ _ _ _ (walked c)

pub overflow_mul-number : goal.overflow_mul-number
overflow_mul-number c = record { fits = omega (arith, number_high c) }

pub overflow_add-number : goal.overflow_add-number
overflow_add-number c = record { fits = omega (arith, number_high c) }

pub overflow_mul-radix : goal.overflow_mul-radix
overflow_mul-radix c = record { fits = omega (arith, walk_radix_high _ _ _ c.args.self.reduced _ _ _ _ _ _ _ (walked c)) }

pub nonzero_div-rest : goal.nonzero_div-rest
nonzero_div-rest c = let here = behind (goal.at.nonzero_div-rest c).After-row_known-1 in omega (arith, here.2, c.args.self.reduced.modulus_low c.in-Some.i here.1)

pub loop-i-preserved : goal.loop-i-preserved
loop-i-preserved c =
    let steps = c.in-Some.ensures.steps in
    let place : c.in-Some.i ≡ length (iter_rest c.next.new.self.iter.iter) = omega (arith, steps.1.1, c.loop-i.invariant.0) in
    (steps.0 ∙ c.loop-i.invariant.0, (behind c.before.before).3, rw (← place) (walked c))

pub returns : goal.returns
returns c = walk_end _ _ _ c.args.self.reduced _ _ _ _ _ _ _ c.loop-i.invariant.2 (omega (arith, c.in-None.ensures.steps.1))
