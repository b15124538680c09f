-- The multipliers of a row, from the place before the row down to place 1: r goes along.
use mathlib.Core.Path.{◌≡◌, refl, sym, ap, ◌∙◌}
use mathlib.Core.List.{List}
use Prim.Native.Nat.{ℕ, suc, ◌-◌, ◌*◌, ◌≤◌, ◌<◌}
use native.Mathlib.Nat.{div-le_self, le_of_dvd, pos_of_dvd_of_pos}
use native.Mathlib.Decide.{dec_le}
use native.Mathlib.Omega.{arith}
use lib.ListN.{length, set, replicate, length-set}
use lib.Seq.{get_or-set_same, get_or-set_other}
use Rattle.numbers.specs.Gcd.{gcd}
use Rattle.numbers.proofs.Gcd.{gcd-dvd_right}
use Rattle.multipartition.specs.Matrix.{factor, next}
use Rattle.matrix.specs.Rows.{r_after, multiplier_at, at, Moderate, Before}

module _ (cut modulus : ℕ → ℕ) (i : ℕ) where
  pub r_none : r_after cut modulus i (i - i) ≡ modulus i
  unfolding r_after
  r_none = let none : i - i ≡ 0 = omega arith in ap (r_after cut modulus i) none

  pub r_more : (j k : ℕ) → j ≡ suc k → j ≤ i → r_after cut modulus i (i - k) ≡ next (r_after cut modulus i (i - j)) (cut k) (modulus k)
  unfolding r_after
  r_more j k s l =
      let more : i - k ≡ suc (i - j) = omega arith in
      let place : i - suc (i - j) ≡ k = omega arith in
      ap (r_after cut modulus i) more ∙ ap (λ (n : ℕ). next (r_after cut modulus i (i - j)) (cut n) (modulus n)) place

  pub multiplier_is : (j k : ℕ) → j ≡ suc k → multiplier_at cut modulus i k ≡ factor (r_after cut modulus i (i - j)) (cut k)
  unfolding multiplier_at
  multiplier_is j k s = ap (λ (n : ℕ). factor (r_after cut modulus i (i - n)) (cut k)) (sym s)

pub moderate : {p : ℕ} {cuts moduli rows : List ℕ} {i c : ℕ} → Before p cuts moduli rows i c → Moderate moduli i
moderate b k l =
    let divides = b.divides k (omega arith) in
    (pos_of_dvd_of_pos divides b.p_low, omega (arith, b.p_high, le_of_dvd b.p_low divides))

-- ---- the multipliers from place j on are written

pub record Multiplied (cuts moduli : List ℕ) (i : ℕ) (ts : List ℕ) (r j : ℕ) : Type 0 where
  pub long : length ts ≡ 5
  pub within : j ≤ i
  pub r_is : r ≡ r_after (at cuts) (at moduli) i (i - j)
  pub r_low : 1 ≤ r
  pub r_high : r ≤ 4096
  pub from : (k : ℕ) → j ≤ k → k < i → (at ts k ≡ multiplier_at (at cuts) (at moduli) i k) × (at ts k ≤ 4096)

module _ (cuts moduli : List ℕ) (i : ℕ) where
  pub multiplied_none : Moderate moduli i → Multiplied cuts moduli i (replicate 5 0) (at moduli i) i
  multiplied_none m = record {
    long = refl;
    within = omega arith;
    r_is = sym (r_none (at cuts) (at moduli) i);
    r_low = (m i (omega arith)).0;
    r_high = (m i (omega arith)).1;
    from = λ k l h. absurd (omega arith);
  }

  module _ {ts : List ℕ} {r j : ℕ} (w : Multiplied cuts moduli i ts r j) (t k : ℕ) (s : j ≡ suc k) (e : t ≡ factor r (at cuts k)) where
    pub multiplier_small : t ≤ 4096
    multiplier_small = omega (arith, div-le_self r (gcd r (at cuts k)), w.r_high)

    pub multiplied_more : i < 5 → Multiplied cuts moduli i (set ts k t) (gcd (t * at moduli k) r) k
    multiplied_more l = record {
      long = length-set ts k t ∙ w.long;
      within = omega (arith, w.within);
      r_is =
          ap (λ (n : ℕ). gcd (n * at moduli k) r) e
          ∙ ap (λ (n : ℕ). next n (at cuts k) (at moduli k)) w.r_is
          ∙ sym (r_more (at cuts) (at moduli) i j k s w.within);
      r_low = pos_of_dvd_of_pos (gcd-dvd_right (t * at moduli k) r) w.r_low;
      r_high = omega (arith, le_of_dvd w.r_low (gcd-dvd_right (t * at moduli k) r), w.r_high);
      from = λ n m h. place n m h (dec_le j n);
    }
      where
        place : (n : ℕ) → k ≤ n → n < i → Dec (j ≤ n) → (at (set ts k t) n ≡ multiplier_at (at cuts) (at moduli) i n) × (at (set ts k t) n ≤ 4096)
        place n m h (yes past) = rw (get_or-set_other ts k n t 0 (λ (q : n ≡ k). omega arith)) (w.from n past h)
        place n m h (no here) =
            let q : n ≡ k = omega arith in
            rw (q, get_or-set_same ts k t 0 (omega (arith, w.long, w.within)))
            (e ∙ ap (λ (x : ℕ). factor x (at cuts k)) w.r_is ∙ sym (multiplier_is (at cuts) (at moduli) i j k s), multiplier_small)
