-- The test of the table of least factors, and what it shows of an entry.
-- An entry f of n passes if f divides n and no d from 2 on, below both f and 65, divides n. A divisor of 65 or more
-- of a number below 65 * 65 has a cofactor below 65, so these are enough.
use mathlib.Core.Path.{◌≡◌, sym, ◌∙◌, ap}
use mathlib.Core.Logic.{◌⊎◌, inl, inr}
use mathlib.Core.Bool.{Bool, true, ◌&&◌, and-eq-true_iff}
use mathlib.Core.List.{List}
use Prim.Native.Nat.{ℕ, zero, suc, ◌+◌, ◌-◌, ◌*◌, ◌/◌, ◌%◌, min, ◌≤◌, ◌<◌, ◌∣◌}
use native.Mathlib.Nat.{mod-eq-zero_of_dvd, dvd_of_mod-eq-zero, mul-div_cancel', le_of_dvd, eq-or-lt_of_le, mul-le-mul, mul-le-mul_left, mul_comm, lt_of_not-le}
use native.Mathlib.Decide.{dec_lt}
use native.Mathlib.Omega.{arith}
use lib.Dec.{ltb, eqb}
use lib.ListN.{length, get_or}
use borrow.Author.Tests.{ltb-true, eqb-true}
use Rattle.numbers.proofs.Divides.{divides}
use Rattle.numbers.proofs.LeastFactor.{LeastFactor}
use Rattle.numbers.proofs.Table.{every, every-at}

-- none of the k numbers from d on divides n
abbrev pub clear : ℕ → ℕ → ℕ → Bool
clear zero d n = true
clear (suc k) d n = ltb 0 (n % d) && clear k (suc d) n

-- f is the least factor of n; places 0 and 1 hold nothing
abbrev pub correct : ℕ → ℕ → Bool
correct zero f = true
correct (suc zero) f = true
correct (suc (suc n)) f = ltb 1 f && (eqb (suc (suc n) % f) 0 && clear (min (f - 2) 63) 2 (suc (suc n)))

clear_none : (k d n : ℕ) → clear k d n ≡ true → (e : ℕ) → d ≤ e → e < d + k → ¬ (e ∣ n)
clear_none zero d n t e low high h = omega arith
clear_none (suc k) d n t e low high h =
    let (here, later) = (and-eq-true_iff (ltb 0 (n % d)) (clear k (suc d) n)).0 t in
    go (ltb-true 0 (n % d) here) (λ l. clear_none k (suc d) n later e l (omega arith) h) (eq-or-lt_of_le low)
  where
    go : 0 < n % d → (d < e → ⊥) → (d ≡ e) ⊎ (d < e) → ⊥
    go here later (inl same) = omega (arith, mod-eq-zero_of_dvd e h, ap (λ (x : ℕ). n % x) same)
    go here later (inr l) = later l

module _ (n f : ℕ) (above : 1 < f) (f-dvd : f ∣ n) (none : clear (min (f - 2) 63) 2 n ≡ true) (low : 1 < n) (small : n < 4225) where
  -- what the test looked at
  tested : (e : ℕ) → 1 < e → e < f → e < 65 → e ∣ n → ⊥
  tested e l1 lf l65 h = clear_none (min (f - 2) 63) 2 n none e l1 (omega arith) h

  -- a larger divisor has a cofactor that the test looked at
  cofactor : (d : ℕ) → 1 < d → d ∣ n → d < f → 65 ≤ d → ⊥
  cofactor d hd dn l large =
      let e : ℕ = n / d in
      let de : d * e ≡ n = mul-div_cancel' d dn in
      let fn : f ≤ n = le_of_dvd (omega arith) f-dvd in
      let e-low : 1 < e = lt_of_not-le (λ (q : e ≤ 1). omega (arith, mul-le-mul_left d q)) in
      let e-high : e < 65 = lt_of_not-le (λ (q : 65 ≤ e). omega (arith, mul-le-mul large q)) in
      tested e e-low (omega arith) e-high (divides e d (sym de ∙ mul_comm d e))

  none_below : (d : ℕ) → 1 < d → d ∣ n → Dec (d < f) → Dec (d < 65) → f ≤ d
  none_below d hd dn (no q) s = omega arith
  none_below d hd dn (yes l) (yes s) = absurd (tested d hd l s dn)
  none_below d hd dn (yes l) (no q) = absurd (cofactor d hd dn l (omega arith))

correct_least : (n f : ℕ) → correct n f ≡ true → 1 < n → n < 4225 → LeastFactor n f
correct_least zero f t low small = absurd (omega arith)
correct_least (suc zero) f t low small = absurd (omega arith)
correct_least (suc (suc k)) f t low small =
    let n : ℕ = suc (suc k) in
    let none : Bool = clear (min (f - 2) 63) 2 n in
    let (above, rest) = (and-eq-true_iff (ltb 1 f) (eqb (n % f) 0 && none)).0 t in
    let (dvd, others) = (and-eq-true_iff (eqb (n % f) 0) none).0 rest in
    let f-low : 1 < f = ltb-true 1 f above in
    let f-dvd : f ∣ n = dvd_of_mod-eq-zero f (eqb-true (n % f) 0 dvd) in
    record { above_one = f-low; divides = f-dvd; least = λ d hd dn. none_below n f f-low f-dvd others low small d hd dn (dec_lt d f) (dec_lt d 65) }

-- a table that passes the test at each place holds least factors
pub table_least : (xs : List ℕ) → every correct 0 xs ≡ true → (n : ℕ) → n < length xs → 1 < n → n < 4225 → LeastFactor n (get_or xs n 0)
table_least xs t n h low small = correct_least n (get_or xs n 0) (every-at correct xs t n h) low small
