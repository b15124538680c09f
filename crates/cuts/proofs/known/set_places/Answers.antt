-- `cuts::known::set_places` meets its contract. The divisors rise, so that no place is written twice.
use mathlib.Core.Path.{◌≡◌, sym, ◌∙◌, ap}
use mathlib.Core.Logic.{⊎_elim}
use mathlib.Core.List.{List}
use Prim.Native.Nat.{ℕ, ◌+◌, ◌<◌}
use native.Mathlib.Nat.{not-suc-le-zero, le_of_suc-le-suc, eq-or-lt_of_le}
use native.Mathlib.Numerals.{add-one}
use native.Mathlib.Omega.{arith}
use lib.ListN.{length, get_or, set}
use lib.Seq.{get_or-set_same, get_or-set_other}
use Rattle.cuts.specs.Questions.{Divisors}
use Rattle.cuts.proofs.known.set_places.Goals as goal

one_more : (divisors places : List ℕ) (j : ℕ) → Divisors divisors → j < length divisors → 4096 < length places →
    ((i : ℕ) → i < j → get_or places (get_or divisors i 0) 0 ≡ i) → (i : ℕ) → i < j + 1 → get_or (set places (get_or divisors j 0) j) (get_or divisors i 0) 0 ≡ i
one_more divisors places j d h long older i l = ⊎_elim here before (eq-or-lt_of_le (le_of_suc-le-suc (rw add-one at l)))
  where
    here : i ≡ j → get_or (set places (get_or divisors j 0) j) (get_or divisors i 0) 0 ≡ i
    here q =
        ap (λ (k : ℕ). get_or (set places (get_or divisors j 0) j) (get_or divisors k 0) 0) q
        ∙ get_or-set_same places (get_or divisors j 0) j 0 (omega (arith, d.small j h)) ∙ sym q

    before : i < j → get_or (set places (get_or divisors j 0) j) (get_or divisors i 0) 0 ≡ i
    before k =
        get_or-set_other places (get_or divisors j 0) (get_or divisors i 0) j 0 (λ q. omega (arith, d.rising i j k h)) ∙ older i k

pub loop-j-init : goal.loop-j-init
loop-j-init c = λ i h. absurd (not-suc-le-zero h)

pub overflow_cast-places : goal.overflow_cast-places
overflow_cast-places c = let few = c.requires.0.few in omega (arith, c.loop-j-test.true)

pub bounds-places-divisor : goal.bounds-places-divisor
bounds-places-divisor c = omega (arith, c.requires.0.small c.loop-j.j c.loop-j-test.true, c.loop-j.auto.places)

pub loop-j-preserved : goal.loop-j-preserved
loop-j-preserved c =
    one_more c.args.divisors.now c.loop-j.places c.loop-j.j c.requires.0 c.loop-j-test.true (omega (arith, c.loop-j.auto.places)) c.loop-j.invariant

pub returns : goal.returns
returns c = λ i h. c.loop-j.invariant i (omega (arith, c.loop-j-test.false))
