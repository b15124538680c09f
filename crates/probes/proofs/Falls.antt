-- The first element that is smaller than the one before, and lists without one.
use mathlib.Core.Path.{◌≡◌, refl, ap, ◌∙◌}
use mathlib.Core.Bool.{Bool, true, false, cond, ◌&&◌}
use mathlib.Core.List.{List, [], ◌∷◌}
use mathlib.Core.Logic.{◌↔◌}
use Prim.Native.Nat.{ℕ, zero, suc, ◌+◌, ◌-◌, ◌≤◌, ◌<◌}
use native.Mathlib.Decide.{dec_le}
use native.Mathlib.Omega.{arith}
use borrow.Author.Tests.{ltb-true, ltb-false, lt-ltb, le-ltb, le-leb, lt-leb, ne_eqb}
use lib.Dec.{ltb, leb, eqb}
use lib.ListN.{length, get_or, take, drop, length-drop}
use lib.Seq.{get_or-drop}
use Rattle.std.specs.Prelude.{None, Some}
use Rattle.std.specs.List.{AllWithin, HoldsAt, zip}
use Rattle.std.proofs.lemmas.Slice.Zip.{length-zip, get_or-zip}
use Rattle.probes.specs.Probes.{first_fall_from, first_fall, fall_in}
use Rattle.probes.specs.SingleQuestions.{FallsFirst}

-- ---- looked for from the front

-- whether there is one does not rest on the place from which is counted
none_from : (j k before : ℕ) (xs : List ℕ) → eqb (first_fall_from (suc j) before xs) 0 ≡ eqb (first_fall_from (suc k) before xs) 0
unfolding first_fall_from
none_from j k before [] = refl
none_from j k before (x ∷ xs) = go (ltb x before) (none_from (suc j) (suc k) x xs)
  where
    go : (t : Bool) → eqb (first_fall_from (suc (suc j)) x xs) 0 ≡ eqb (first_fall_from (suc (suc k)) x xs) 0
        → eqb (cond t (suc j) (first_fall_from (suc (suc j)) x xs)) 0 ≡ eqb (cond t (suc k) (first_fall_from (suc (suc k)) x xs)) 0
    go true later = rw (ne_eqb (suc j) 0 (λ e. absurd (omega arith)), ne_eqb (suc k) 0 (λ e. absurd (omega arith))) refl
    go false later = later

-- whether there is none: the first two numbers, and then the others
pub rises_pair : (xs : List ℕ) → 2 ≤ length xs
    → (leb (get_or (take 2 xs) 0 0) (get_or (take 2 xs) 1 0) && eqb (first_fall (drop 1 xs)) 0) ≡ eqb (first_fall xs) 0
unfolding first_fall first_fall_from
rises_pair [] l = absurd (omega arith)
rises_pair (x ∷ []) l = absurd (omega arith)
rises_pair (x ∷ y ∷ xs) l = go (dec_le x y)
  where
    go : Dec (x ≤ y) → (leb x y && eqb (first_fall_from 2 y xs) 0) ≡ eqb (cond (ltb y x) 2 (first_fall_from 3 y xs)) 0
    go (yes rises) = rw (le-leb x y rises, le-ltb y x rises) (none_from 1 2 y xs)
    go (no falls) =
        let smaller : y < x = omega arith in
        rw (lt-leb x y smaller, lt-ltb y x smaller, ne_eqb 2 0 (λ e. absurd (omega arith))) refl

pub no_pair : (xs : List ℕ) → length xs < 2 → first_fall xs ≡ 0
unfolding first_fall first_fall_from
no_pair [] l = refl
no_pair (x ∷ []) l = refl
no_pair (x ∷ y ∷ xs) l = absurd (omega arith)

-- ---- what the place says

-- a place is 0, or one of those looked at
fall_low : (k before : ℕ) (xs : List ℕ) (place : ℕ) → first_fall_from k before xs ≡ suc place → k ≤ suc place
unfolding first_fall_from
fall_low k before [] place e = absurd (omega arith)
fall_low k before (x ∷ xs) place e = go (ltb x before) e (fall_low (suc k) x xs place)
  where
    go : (t : Bool) → cond t k (first_fall_from (suc k) x xs) ≡ suc place → (first_fall_from (suc k) x xs ≡ suc place → suc k ≤ suc place) → k ≤ suc place
    go true e later = omega arith
    go false e later = let l = later e in omega arith

-- behind an element that is no smaller
falls_behind : (before x : ℕ) (xs : List ℕ) (i : ℕ) → before ≤ x → FallsFirst (x ∷ xs) i → FallsFirst (before ∷ x ∷ xs) (suc i)
falls_behind before x xs i l h = record { inside = omega (arith, h.inside); falls = h.falls; rises = rises }
  where
    rises : (j : ℕ) → j < suc i → get_or (before ∷ x ∷ xs) j 0 ≤ get_or (x ∷ xs) j 0
    rises zero m = l
    rises (suc j) m = h.rises j (omega arith)

falls_ahead : (before x : ℕ) (xs : List ℕ) (i : ℕ) → FallsFirst (before ∷ x ∷ xs) (suc i) → FallsFirst (x ∷ xs) i
falls_ahead before x xs i h =
    record { inside = omega (arith, h.inside); falls = h.falls; rises = λ j l. h.rises (suc j) (omega arith) }

falls_from : (k before : ℕ) (xs : List ℕ) (i : ℕ) → first_fall_from (suc k) before xs ≡ suc k + i → FallsFirst (before ∷ xs) i
unfolding first_fall_from
falls_from k before [] i e = absurd (omega arith)
falls_from k before (x ∷ xs) i e = go (ltb x before) refl (falls_from (suc k) x xs) i e
  where
    later : ℕ
    later = first_fall_from (suc (suc k)) x xs

    go : (t : Bool) → ltb x before ≡ t → ((i : ℕ) → later ≡ suc (suc k) + i → FallsFirst (x ∷ xs) i)
        → (i : ℕ) → cond t (suc k) later ≡ suc k + i → FallsFirst (before ∷ x ∷ xs) i
    go true f ahead zero e = record { inside = omega arith; falls = ltb-true x before f; rises = λ j l. absurd (omega arith) }
    go true f ahead (suc i) e = absurd (omega arith)
    go false f ahead zero e = absurd (omega (arith, fall_low (suc (suc k)) x xs k (e ∙ omega arith)))
    go false f ahead (suc i) e = falls_behind before x xs i (ltb-false x before f) (ahead i (e ∙ omega arith))

from_falls : (k before : ℕ) (xs : List ℕ) (i : ℕ) → FallsFirst (before ∷ xs) i → first_fall_from (suc k) before xs ≡ suc k + i
unfolding first_fall_from
from_falls k before [] i h = absurd (omega (arith, h.inside))
from_falls k before (x ∷ xs) zero h = rw (lt-ltb x before h.falls) (omega arith)
from_falls k before (x ∷ xs) (suc i) h =
    rw (le-ltb x before (h.rises 0 (omega arith))) (from_falls (suc k) x xs i (falls_ahead before x xs i h) ∙ omega arith)

-- the place counted from 1 is that of the first fall
pub first_fall_iff : (elements : List ℕ) (i : ℕ) → (first_fall elements ≡ i + 2) ↔ FallsFirst elements i
unfolding first_fall
first_fall_iff [] i = (λ e. absurd (omega arith), λ h. absurd (omega (arith, h.inside)))
first_fall_iff (x ∷ xs) i = (λ e. falls_from 1 x xs i (e ∙ omega arith), λ h. from_falls 1 x xs i h ∙ omega arith)

-- ---- lists without a fall

rises_from : (k before : ℕ) (xs : List ℕ) → first_fall_from (suc k) before xs ≡ 0
    → (i : ℕ) → suc i < length (before ∷ xs) → get_or (before ∷ xs) i 0 ≤ get_or (before ∷ xs) (suc i) 0
unfolding first_fall_from
rises_from k before [] e i l = absurd (omega arith)
rises_from k before (x ∷ xs) e i l = go (ltb x before) refl e (rises_from (suc k) x xs) i l
  where
    later : ℕ
    later = first_fall_from (suc (suc k)) x xs

    go : (t : Bool) → ltb x before ≡ t → cond t (suc k) later ≡ 0
        → (later ≡ 0 → (i : ℕ) → suc i < length (x ∷ xs) → get_or (x ∷ xs) i 0 ≤ get_or (x ∷ xs) (suc i) 0)
        → (i : ℕ) → suc i < length (before ∷ x ∷ xs) → get_or (before ∷ x ∷ xs) i 0 ≤ get_or (x ∷ xs) i 0
    go true f e ahead i l = absurd (omega arith)
    go false f e ahead zero l = ltb-false x before f
    go false f e ahead (suc i) l = ahead e i (omega arith)

from_rises : (k before : ℕ) (xs : List ℕ) → ((i : ℕ) → suc i < length (before ∷ xs) → get_or (before ∷ xs) i 0 ≤ get_or (before ∷ xs) (suc i) 0)
    → first_fall_from k before xs ≡ 0
unfolding first_fall_from
from_rises k before [] h = refl
from_rises k before (x ∷ xs) h = rw (le-ltb x before (h 0 (omega arith))) (from_rises (suc k) x xs (λ i l. h (suc i) (omega arith)))

-- there is none just if no element is smaller than the one before
pub no_fall_iff : (elements : List ℕ)
    → (first_fall elements ≡ 0) ↔ ((i : ℕ) → suc i < length elements → get_or elements i 0 ≤ get_or elements (suc i) 0)
unfolding first_fall
no_fall_iff [] = ((λ e i l. absurd (omega arith)), λ h. refl)
no_fall_iff (x ∷ xs) = (rises_from 1 x xs, from_rises 2 x xs)

-- ---- what a walk along the elements and those behind them finds

module _ (xs : List ℕ) where
  abbrev pub pairs : List (ℕ × ℕ)
  pairs = zip xs (drop 1 xs)

  many : length pairs ≡ length xs - 1
  many = omega (arith, length-zip xs (drop 1 xs), length-drop 1 xs)

  pair-at : (i : ℕ) → suc i < length xs → get_or pairs i (0, 0) ≡ (get_or xs i 0, get_or xs (suc i) 0)
  pair-at i l =
      let next : 1 + i ≡ suc i = omega arith in
      get_or-zip xs (drop 1 xs) i (0, 0) (omega (arith, l)) (omega (arith, l, length-drop 1 xs))
      ∙ ap (λ (y : ℕ). (get_or xs i 0, y)) (get_or-drop 1 xs i 0 ∙ ap (λ (k : ℕ). get_or xs k 0) next)

  pub found_none : AllWithin (λ (p : ℕ × ℕ). p.0 ≤ p.1) pairs 0 (length pairs) → None ≡ fall_in xs
  found_none all =
      let none : first_fall xs ≡ 0
      = (no_fall_iff xs).1 (λ i l. rw (pair-at i l) at (all i (0, 0) (omega arith) (omega (arith, many, l)))) in
      rw none refl

  pub found-at : (i : ℕ) → (i < length pairs) × HoldsAt (λ (p : ℕ × ℕ). p.1 < p.0) pairs i × AllWithin (λ (p : ℕ × ℕ). p.0 ≤ p.1) pairs 0 i
      → Some (i + 2) ≡ fall_in xs
  found-at i h =
      let inside : suc i < length xs = omega (arith, many, h.0) in
      let place : first_fall xs ≡ i + 2
      = (first_fall_iff xs i).1 (record {
        inside = inside;
        falls = rw (pair-at i inside) at (h.1 (0, 0));
        rises = λ j l. rw (pair-at j (omega (arith, l, inside))) at (h.2 j (0, 0) (omega arith) l);
      }) in
      rw (place, ne_eqb (i + 2) 0 (λ e. absurd (omega (arith, e)))) refl
