-- The least factor above 1: what it is, that there is one only, that it is prime, and that least_factor is it.
use mathlib.Core.Path.{◌≡◌, refl, sym, ◌∙◌, ap, subst}
use mathlib.Core.Logic.{◌⊎◌, inl, inr}
use Prim.Native.Nat.{ℕ, zero, suc, ◌+◌, ◌*◌, ◌/◌, ◌%◌, ◌≤◌, ◌<◌, ◌∣◌}
use native.Mathlib.Nat.{le_antisymm, le_of_dvd, dvd_refl, dvd_trans, dvd_of_mod-eq-zero, mod-eq-zero_of_dvd, eq-or-lt_of_le, mul-div_cancel', mul_comm, div-lt_self}
use native.Mathlib.Omega.{arith}
use borrow.Author.Tests.{lt-ltb, le-ltb}
use Rattle.numbers.specs.LeastFactor.{first_factor, least_factor, least_factor_answer, Prime}
use Rattle.numbers.proofs.Divides.{divides, pos_left, pos_right}

-- f is the least factor of n above 1
pub record LeastFactor (n f : ℕ) : Type 0 where
  pub above_one : 1 < f
  pub divides : f ∣ n
  pub least : (d : ℕ) → 1 < d → d ∣ n → f ≤ d

-- there is one least factor only
pub least_unique : (n f g : ℕ) → LeastFactor n f → LeastFactor n g → f ≡ g
least_unique n f g F G = le_antisymm (F.least g G.above_one G.divides) (G.least f F.above_one F.divides)

-- and it is prime: it has no factor above 1 but itself
pub least_prime : (n f d : ℕ) → LeastFactor n f → 1 < d → d ∣ f → d ≡ f
least_prime n f d F hd df = le_antisymm (le_of_dvd (omega (arith, F.above_one)) df) (F.least d hd (dvd_trans d df F.divides))

-- a divisor of n from d on stands past d, where d does not divide n
past : (n d r e : ℕ) → suc r ≡ n % d → d ≤ e → e ∣ n → d < e
past n d r e er h en = go (eq-or-lt_of_le h)
  where
    go : (d ≡ e) ⊎ (d < e) → d < e
    go (inl same) = absurd (omega (arith, mod-eq-zero_of_dvd e en, ap (λ (x : ℕ). n % x) same))
    go (inr l) = l

-- the definition meets it: the numbers from 2 on are tried, and at the latest n itself is a factor
search_is : (fuel n d r : ℕ) → 1 < d → n ≤ d + fuel → d ≤ n → r ≡ n % d → ((e : ℕ) → 1 < e → e ∣ n → d ≤ e) → LeastFactor n (first_factor fuel n d r)
unfolding first_factor
search_is zero n d r hd enough below er tried =
    let end : n ≡ d = omega arith in
    record { above_one = hd; divides = subst (λ (x : ℕ). x ∣ n) end (dvd_refl n); least = tried }
search_is (suc fuel) n d zero hd enough below er tried = record { above_one = hd; divides = dvd_of_mod-eq-zero d (sym er); least = tried }
search_is (suc fuel) n d (suc r) hd enough below er tried =
    search_is fuel n (suc d) (n % suc d) (omega arith) (omega arith) (past n d r n er below (dvd_refl n)) refl
    (λ e he en. past n d r e er (tried e he en) en)

pub least_factor_is : (n : ℕ) → 1 < n → LeastFactor n (least_factor n)
unfolding least_factor
least_factor_is n hn = search_is n n 2 (n % 2) (omega arith) (omega arith) hn refl (λ e he h. he)

pub least_factor_prime : (n : ℕ) → 1 < n → Prime (least_factor n)
least_factor_prime n hn =
    let F : LeastFactor n (least_factor n) = least_factor_is n hn in
    record { above_one = F.above_one; only = λ d hd df. least_prime n (least_factor n) d F hd df }

-- ---- taking n apart: least factors move from `rest` to `done` one after the other

pub record Factoring (n done rest : ℕ) : Type 0 where
  pub whole : done * rest ≡ n
  pub positive : zero < n

module _ {n done rest : ℕ} (S : Factoring n done rest) where
  pub done_pos : zero < done
  done_pos = pos_left done rest (subst (λ (x : ℕ). zero < x) (sym S.whole) S.positive)

  -- nothing is left
  pub factoring_end : rest ≤ 1 → done ≡ n
  factoring_end h =
      let one : rest ≡ 1 = omega (arith, pos_right done rest (subst (λ (x : ℕ). zero < x) (sym S.whole) S.positive)) in
      omega (arith, S.whole, ap (λ (x : ℕ). done * x) one)

  pub rest_le : rest ≤ n
  rest_le = le_of_dvd S.positive (divides rest done (sym S.whole ∙ mul_comm done rest))

  module _ {f : ℕ} (e : f ≡ least_factor rest) (more : 1 < rest) where
    is : LeastFactor rest f
    is = subst (λ (x : ℕ). LeastFactor rest x) (sym e) (least_factor_is rest more)

    pub factor_prime : Prime f
    factor_prime = subst (λ (x : ℕ). Prime x) (sym e) (least_factor_prime rest more)

    pub factoring-step : Factoring n (f * done) (rest / f)
    factoring-step =
        record {
          whole = omega (arith, S.whole, ap (λ (x : ℕ). done * x) (mul-div_cancel' f is.divides));
          positive = S.positive;
        }

    pub done-le : f * done ≤ n
    done-le = le_of_dvd S.positive (divides (f * done) (rest / f) (sym factoring-step.whole))

    pub rest_falls : rest / f < rest
    rest_falls = div-lt_self (omega arith) is.above_one

-- ---- the answer of `least_factor`, in the table's range and outside

pub least_factor_answer_below : (n : ℕ) → n < 2 → least_factor_answer n ≡ 0
unfolding least_factor_answer
least_factor_answer_below n h = rw (lt-ltb n 2 h)

pub least_factor_answer_above : (n : ℕ) → 4096 < n → least_factor_answer n ≡ 0
unfolding least_factor_answer
least_factor_answer_above n h = rw (le-ltb n 2 (omega arith), lt-ltb 4096 n h)

pub least_factor_answer_inside : (n : ℕ) → 1 < n → n ≤ 4096 → least_factor_answer n ≡ least_factor n
unfolding least_factor_answer
least_factor_answer_inside n low high = rw (le-ltb n 2 low, le-ltb 4096 n high)
