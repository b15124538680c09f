use mathlib.Core.Path.{◌≡◌, ◌∙◌, ap}
use mathlib.Core.List.{List}
use Prim.Native.Nat.{ℕ, ◌*◌, min}
use native.Mathlib.Nat.{one-mul}
use native.Mathlib.Omega.{arith}
use lib.ListN.{get_or}
use Rattle.std.specs.Prelude.{Option, unwrap_or, slice_get}
use Rattle.std.proofs.lemmas.Option.{unwrap_or-slice_get}
use Rattle.numbers.proofs.Merge.{Turn, merging_start, merging_end, merging-step, merging-next, times_left, room, product_le}
use Rattle.numbers.proofs.factors.times_prime.Goals as goal
use Rattle.numbers.proofs.factors.times_prime.Goals.{In-loop-last, After-min-last}

turn : (c : In-loop-last) → Turn c.args.f c.args.m c.loop-last.last c.loop-last.kept.now c.loop-last.times.now c.loop-last.merged.items
turn c =
    record {
      prime = c.requires.prime;
      positive = c.requires.m_nonzero.0;
      small = c.requires.m_nonzero.1;
      state = c.loop-last.invariant;
      less = omega arith;
    }

pub loop-last-init : goal.loop-last-init
loop-last-init c = rw (c.requires.listed, c.new-merged.ensures) (merging_start _ _)

pub bounds-times-0 : goal.bounds-times-0
bounds-times-0 c = times_left (turn (goal.at.bounds-times-0 c).In-loop-last)

pub overflow_mul-b : goal.overflow_mul-b
overflow_mul-b c = omega (arith, product_le (turn (goal.at.overflow_mul-b c).In-loop-last))

pub push-requires : goal.push-requires
push-requires c = (omega arith, room (turn (goal.at.push-requires c).In-loop-last))

pub returns : goal.returns
returns c = merging_end _ _ _ _ _ _ c.loop-last.invariant (omega arith)

pub past-times-requires : goal.past-times-requires
past-times-requires c = omega (arith, product_le (turn (goal.at.past-times-requires c).In-loop-last))

-- the smaller of the next divisor of m, if there is one, and the next one times f
least : (xs : List ℕ) (b w r : ℕ) (o : Option ℕ) → w ≡ min r b → r ≡ unwrap_or o b → o ≡ slice_get xs 0 → w ≡ min (get_or xs 0 b) b
least xs b w r o e f g = e ∙ ap (λ (x : ℕ). min x b) (f ∙ ap (λ (z : Option ℕ). unwrap_or z b) g ∙ unwrap_or-slice_get xs 0 b)

written : (c : After-min-last) → c.min-last.result ≡ min (get_or c.loop-last.kept.now 0 (c.args.f * get_or c.loop-last.times.now 0 0)) (c.args.f * get_or c.loop-last.times.now 0 0)
written c = least _ _ _ _ _ c.min-last.ensures c.unwrap_or.ensures (c.copied.ensures ∙ c.first.ensures.value)

pub loop-last-smaller : goal.loop-last-smaller
loop-last-smaller c =
    let T = turn (goal.at.loop-last-smaller c).In-loop-last in
    omega (arith, T.less, (merging-next T c.min-last.result (written (goal.at.loop-last-smaller c).After-min-last)).above)

pub loop-last-preserved : goal.loop-last-preserved
loop-last-preserved c =
    let T = turn (goal.at.loop-last-preserved c).In-loop-last in
    rw (c.past-kept.ensures, c.past-times.ensures, c.push.ensures.items, one-mul)
    (merging-step T c.min-last.result (written (goal.at.loop-last-preserved c).After-min-last))
