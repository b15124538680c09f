-- The first number that passes a test, and the first of a list that fails one.
use mathlib.Core.Path.{◌≡◌, refl, sym, ap, ◌∙◌}
use mathlib.Core.Logic.{⊎_elim, ◌↔◌}
use mathlib.Core.Bool.{Bool, true, false, cond}
use mathlib.Core.List.{List, [], ◌∷◌}
use Prim.Native.Nat.{ℕ, zero, suc, ◌+◌, ◌≤◌, ◌<◌}
use native.Mathlib.Nat.{not-suc-le-zero, zero-lt-suc, le_of_suc-le-suc, le_refl, eq-or-lt_of_le}
use native.Mathlib.Numerals.{add-one}
use native.Mathlib.Decide.{dec_lt}
use native.Mathlib.Omega.{arith}
use lib.ListN.{length, get_or, drop, drop_of_length-le}
use lib.Seq.{drop-cons}
use Rattle.multipartition.specs.Lists.{first_such, first_failing}
use Rattle.multipartition.proofs.Tests.{false-not-true, by_cond}

-- a number that does not pass is passed over
pub first_such-next : (test : ℕ → Bool) (from count : ℕ) → test from ≡ false → first_such test from (suc count) ≡ first_such test (from + 1) count
unfolding first_such
first_such-next test from count e = rw (e, add-one from)

pub first_such_low : (test : ℕ → Bool) (from count : ℕ) → from ≤ first_such test from count
unfolding first_such
first_such_low test from zero = le_refl from
first_such_low test from (suc count) = go (test from) (first_such_low test (suc from) count)
  where
    go : (t : Bool) → suc from ≤ first_such test (suc from) count → from ≤ cond t from (first_such test (suc from) count)
    go true l = le_refl from
    go false l = omega arith

-- what is found below the end passes
pub first_such_passes : (test : ℕ → Bool) (from count : ℕ) → first_such test from count < from + count → test (first_such test from count) ≡ true
unfolding first_such
first_such_passes test from zero l = absurd (omega arith)
first_such_passes test from (suc count) l = go (test from) refl l (λ h. first_such_passes test (suc from) count h)
  where
    go : (t : Bool) → test from ≡ t → cond t from (first_such test (suc from) count) < from + suc count
        → (first_such test (suc from) count < suc from + count → test (first_such test (suc from) count) ≡ true)
        → test (cond t from (first_such test (suc from) count)) ≡ true
    go true e h later = e
    go false e h later = later (omega arith)

-- none below what is found passes
pub first_such_below : (test : ℕ → Bool) (from count i : ℕ) → from ≤ i → i < first_such test from count → test i ≡ false
unfolding first_such
first_such_below test from zero i low high = absurd (omega arith)
first_such_below test from (suc count) i low high = go (test from) refl high (λ l h. first_such_below test (suc from) count i l h)
  where
    go : (t : Bool) → test from ≡ t → i < cond t from (first_such test (suc from) count)
        → (suc from ≤ i → i < first_such test (suc from) count → test i ≡ false) → test i ≡ false
    go true e h later = absurd (omega arith)
    go false e h later = ⊎_elim (λ (q : from ≡ i). sym (ap test q) ∙ e) (λ l. later l h) (eq-or-lt_of_le low)

-- what is found is not above one that passes
pub first_such-le : (test : ℕ → Bool) (from count r : ℕ) → from ≤ r → test r ≡ true → first_such test from count ≤ r
first_such-le test from count r low passes = go (dec_lt r (first_such test from count))
  where
    go : Dec (r < first_such test from count) → first_such test from count ≤ r
    go (yes l) = absurd (false-not-true (sym (first_such_below test from count r low l) ∙ passes))
    go (no q) = omega arith

-- one that passes is found, if none below it does
pub first_such_is : (test : ℕ → Bool) (from count r : ℕ) → from ≤ r → r < from + count → test r ≡ true → ((i : ℕ) → from ≤ i → i < r → test i ≡ false)
    → first_such test from count ≡ r
first_such_is test from count r low high passes below = go (dec_lt (first_such test from count) r)
  where
    go : Dec (first_such test from count < r) → first_such test from count ≡ r
    go (yes l) =
        absurd
        (false-not-true
        (sym (below (first_such test from count) (first_such_low test from count) l) ∙ first_such_passes test from count (omega arith)))
    go (no q) = omega (arith, first_such-le test from count r low passes)

-- so is one that passes, if no other does
pub first_such_only : (test : ℕ → Bool) (from count r : ℕ) → ((i : ℕ) → test i ≡ true → i ≡ r) → from ≤ r → r < from + count → test r ≡ true
    → first_such test from count ≡ r
first_such_only test from count r only low high passes = first_such_is test from count r low high passes (λ i l h. none i h (test i) refl)
  where
    none : (i : ℕ) → i < r → (t : Bool) → test i ≡ t → t ≡ false
    none i h true e = absurd (omega (arith, only i e))
    none i h false e = refl

-- ---- the first of a list that fails

module _ (test : ℕ → Bool) where
  -- none fails, if the place of the first is 0
  passing_of-first_failing : (i : ℕ) (xs : List ℕ) → first_failing test (suc i) xs ≡ 0 → (k : ℕ) → k < length xs → test (get_or xs k 0) ≡ true
  unfolding first_failing
  passing_of-first_failing i [] e k l = absurd (not-suc-le-zero l)
  passing_of-first_failing i (x ∷ xs) e k l = go (test x) refl e (passing_of-first_failing (suc i) xs) k l
    where
      go : (t : Bool) → test x ≡ t → cond t (first_failing test (suc (suc i)) xs) (suc i) ≡ 0
          → (first_failing test (suc (suc i)) xs ≡ 0 → (k : ℕ) → k < length xs → test (get_or xs k 0) ≡ true)
          → (k : ℕ) → k < length (x ∷ xs) → test (get_or (x ∷ xs) k 0) ≡ true
      go true f e later zero l = f
      go true f e later (suc k) l = later e k (le_of_suc-le-suc l)
      go false f e later k l = absurd (omega arith)

  first_failing_of_passing : (i : ℕ) (xs : List ℕ) → ((k : ℕ) → k < length xs → test (get_or xs k 0) ≡ true) → first_failing test i xs ≡ 0
  unfolding first_failing
  first_failing_of_passing i [] h = refl
  first_failing_of_passing i (x ∷ xs) h =
      rw (h 0 (zero-lt-suc (length xs))) (first_failing_of_passing (suc i) xs (λ k l. h (suc k) (omega arith)))

  pub first_failing-zero_iff : {P : ℕ → Type 0} → ((n : ℕ) → (test n ≡ true) ↔ P n) → (xs : List ℕ)
      → (first_failing test 1 xs ≡ 0) ↔ ((k : ℕ) → k < length xs → P (get_or xs k 0))
  first_failing-zero_iff decides xs = (
    (λ e k l. (decides (get_or xs k 0)).0 (passing_of-first_failing 0 xs e k l)),
    λ h. first_failing_of_passing 1 xs (λ k l. (decides (get_or xs k 0)).1 (h k l)),
  )

  -- it is one of them
  pub first_failing-le : (k : ℕ) (xs : List ℕ) → first_failing test k xs ≤ k + length xs
  unfolding first_failing
  first_failing-le k [] = omega arith
  first_failing-le k (x ∷ xs) =
      let later = first_failing-le (suc k) xs in
      by_cond (λ (place : ℕ). place ≤ k + suc (length xs)) (test x) (first_failing test (suc k) xs) k (λ e. omega arith) (λ e. omega arith)

  -- looked for from the front, k numbers on
  module _ (i : ℕ) (xs : List ℕ) (k : ℕ) where
    pub failing_here : k < length xs → test (get_or xs k 0) ≡ false → first_failing test i (drop k xs) ≡ i
    unfolding first_failing
    failing_here l e = ap (first_failing test i) (drop-cons xs k 0 l) ∙ ap (λ t. cond t (first_failing test (suc i) (drop (suc k) xs)) i) e

    pub failing_later : k < length xs → test (get_or xs k 0) ≡ true → first_failing test i (drop k xs) ≡ first_failing test (suc i) (drop (suc k) xs)
    unfolding first_failing
    failing_later l e = ap (first_failing test i) (drop-cons xs k 0 l) ∙ ap (λ t. cond t (first_failing test (suc i) (drop (suc k) xs)) i) e

    pub failing_none : length xs ≤ k → first_failing test i (drop k xs) ≡ 0
    unfolding first_failing
    failing_none l = ap (first_failing test i) (drop_of_length-le xs {i = k} l)
