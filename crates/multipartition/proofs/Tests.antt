-- Tests put together: what `&&`, `||` and `all_below` decide.
use mathlib.Core.Path.{◌≡◌, refl, sym, subst⁻¹}
use mathlib.Core.Logic.{◌⊎◌, inl, inr, ⊎_elim, ◌↔◌}
use mathlib.Core.Bool.{Bool, true, false, cond, not, ◌&&◌, ◌||◌}
use Prim.Native.Nat.{ℕ, zero, suc, ◌≤◌, ◌<◌}
use native.Mathlib.Nat.{not-suc-le-zero, le_of_suc-le-suc, le_refl, eq-or-lt_of_le}
use native.Mathlib.Decide.{dec_le}
use native.Mathlib.Omega.{arith}
use borrow.Author.Tests.{leb-true, ltb-true, ltb-false, eqb-true, le-leb, lt-leb, lt-ltb, le-ltb, eq-eqb}
use lib.Dec.{leb, ltb, eqb}
use Rattle.multipartition.specs.Lists.{all_below}
use Rattle.multipartition.specs.Plans.{between}

pub false-not-true : ◌≡◌ {A = Bool} false true → ⊥
false-not-true e = let clash : ◌≡◌ {A = ℕ} 0 1 = cc in omega arith

pub and-true_iff : (s t : Bool) → (s && t ≡ true) ↔ ((s ≡ true) × (t ≡ true))
and-true_iff true t = ((λ e. (refl, e)), λ h. h.1)
and-true_iff false t = ((λ e. absurd (false-not-true e)), λ h. h.0)

pub or-true_iff : (s t : Bool) → (s || t ≡ true) ↔ ((s ≡ true) ⊎ (t ≡ true))
or-true_iff true t = ((λ e. inl refl), λ h. refl)
or-true_iff false t = (inr, ⊎_elim (λ e. absurd (false-not-true e)) (λ e. e))

pub or-false : (s t : Bool) → s || t ≡ false → (s ≡ false) × (t ≡ false)
or-false true t e = absurd (false-not-true (sym e))
or-false false t e = (refl, e)

pub all_below-true_iff : (n : ℕ) (test : ℕ → Bool) → (all_below n test ≡ true) ↔ ((k : ℕ) → k < n → test k ≡ true)
unfolding all_below
all_below-true_iff zero test = ((λ e k h. absurd (not-suc-le-zero h)), λ h. refl)
all_below-true_iff (suc n) test = (
  (λ e k h. here ((and-true_iff (all_below n test) (test n)).0 e) k ((all_below-true_iff n test).0 ((and-true_iff (all_below n test) (test n)).0 e).0 k) h),
  λ h. (and-true_iff (all_below n test) (test n)).1 ((all_below-true_iff n test).1 (λ k l. h k (omega arith)), h n (le_refl (suc n))),
)
  where
    here : (all_below n test ≡ true) × (test n ≡ true) → (k : ℕ) → (k < n → test k ≡ true) → k < suc n → test k ≡ true
    here e k below h = ⊎_elim (λ (q : k ≡ n). subst⁻¹ (λ (j : ℕ). test j ≡ true) q e.1) below (eq-or-lt_of_le (le_of_suc-le-suc h))

-- ---- what tests decide, put together

pub and_iff : (s t : Bool) {A B : Type 0} → (s ≡ true) ↔ A → (t ≡ true) ↔ B → (s && t ≡ true) ↔ (A × B)
and_iff s t f g = (
  (λ e. let both = (and-true_iff s t).0 e in (f.0 both.0, g.0 both.1)),
  λ h. (and-true_iff s t).1 (f.1 h.0, g.1 h.1),
)

pub all_iff : (n : ℕ) (test : ℕ → Bool) {P : ℕ → Type 0} → ((k : ℕ) → (test k ≡ true) ↔ P k) → (all_below n test ≡ true) ↔ ((k : ℕ) → k < n → P k)
all_iff n test f = (
  (λ e k l. (f k).0 ((all_below-true_iff n test).0 e k l)),
  λ h. (all_below-true_iff n test).1 (λ k l. (f k).1 (h k l)),
)

pub leb_iff : (m n : ℕ) → (leb m n ≡ true) ↔ (m ≤ n)
leb_iff m n = (leb-true m n, le-leb m n)

pub ltb_iff : (m n : ℕ) → (ltb m n ≡ true) ↔ (m < n)
ltb_iff m n = (ltb-true m n, lt-ltb m n)

pub eqb_iff : (m n : ℕ) → (eqb m n ≡ true) ↔ (m ≡ n)
eqb_iff m n = (eqb-true m n, eq-eqb m n)

pub between-true_iff : (low high n : ℕ) → (between low high n ≡ true) ↔ ((low ≤ n) × (n ≤ high))
between-true_iff low high n = and_iff (leb low n) (leb n high) (leb_iff low n) (leb_iff n high)

-- what holds of either choice, where its test says so
pub by_cond {ℓ} : {A : Type ℓ} (P : A → Type 0) (t : Bool) (x y : A) → (t ≡ true → P x) → (t ≡ false → P y) → P (cond t x y)
by_cond P true x y f g = f refl
by_cond P false x y f g = g refl

-- ---- ranges, as the code tests them

-- out of a range
abbrev pub outside_range : ℕ → ℕ → ℕ → Bool
outside_range low high n = ltb n low || ltb high n

pub outside-range : (low high n : ℕ) → not (between low high n) ≡ outside_range low high n
outside-range low high n = go (dec_le low n) (dec_le n high)
  where
    go : Dec (low ≤ n) → Dec (n ≤ high) → not (leb low n && leb n high) ≡ outside_range low high n
    go (yes a) (yes b) = rw (le-ltb n low a, le-ltb high n b, le-leb low n a, le-leb n high b)
    go (yes a) (no b) =
        let m : high < n = omega arith in
        rw (le-ltb n low a, lt-ltb high n m, le-leb low n a, lt-leb n high m)
    go (no a) b = let m : n < low = omega arith in rw (lt-ltb n low m, lt-leb low n m)

-- a number that is not out of a range
pub in-range_of_test : (low high n : ℕ) → outside_range low high n ≡ false → (low ≤ n) × (n ≤ high)
in-range_of_test low high n e =
    let both = or-false (ltb n low) (ltb high n) e in
    (ltb-false n low both.0, ltb-false high n both.1)
