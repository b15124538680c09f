-- What the theory uses of cuts within `most`: there is one for each bound, none is 0 or above its bound, and cuts of which none is made larger,
-- and none 0, are still within. Fitting cuts are those within the most slabs of each dimension (`fits_iff_within`), so what is said of cuts within
-- bounds holds of them.
use mathlib.Core.Path.{◌≡◌, refl, ap, subst}
use mathlib.Core.Logic.{◌↔◌}
use mathlib.Core.List.{List, [], ◌∷◌}
use Prim.Native.Nat.{ℕ, zero, suc, ◌*◌, ◌/◌, ◌≤◌, ◌<◌}
use native.Mathlib.Nat.{not-suc-le-zero, zero-lt-suc, le_of_suc-le-suc, le_trans, mul-one, mul-le-mul_left, div-one, le-div_iff_mul-le}
use native.Mathlib.Omega.{arith}
use lib.ListN.{length, get_or, replicate}
use Rattle.multipartition.specs.Cuts.{Within, Thick, Fits, most_of}
use Rattle.multipartition.proofs.MixedRadix.{Positive}
use Rattle.multipartition.proofs.Order.{AtMost}

pub within-length : (most cuts : List ℕ) → Within most cuts → length cuts ≡ length most
within-length [] [] h = refl
within-length [] (b ∷ cuts) h = absurd h
within-length (n ∷ most) [] h = absurd h
within-length (n ∷ most) (b ∷ cuts) h = ap suc (within-length most cuts h.2)

pub within_positive : (most cuts : List ℕ) → Within most cuts → Positive cuts
unfolding Positive
within_positive [] [] h = tt
within_positive [] (b ∷ cuts) h = absurd h
within_positive (n ∷ most) [] h = absurd h
within_positive (n ∷ most) (b ∷ cuts) h = (h.0, within_positive most cuts h.2)

pub within-le : (most cuts : List ℕ) → Within most cuts → (k : ℕ) → k < length cuts → get_or cuts k 0 ≤ get_or most k 0
within-le [] [] h k l = absurd (not-suc-le-zero l)
within-le [] (b ∷ cuts) h k l = absurd h
within-le (n ∷ most) [] h k l = absurd h
within-le (n ∷ most) (b ∷ cuts) h zero l = h.1
within-le (n ∷ most) (b ∷ cuts) h (suc k) l = within-le most cuts h.2 k (le_of_suc-le-suc l)

pub within_of_at_most : (most cuts lower : List ℕ) → Within most cuts → AtMost lower cuts → Positive lower → Within most lower
unfolding Positive
within_of_at_most [] [] [] h m z = tt
within_of_at_most [] [] (c ∷ lower) h m z = absurd m
within_of_at_most [] (b ∷ cuts) lower h m z = absurd h
within_of_at_most (n ∷ most) [] lower h m z = absurd h
within_of_at_most (n ∷ most) (b ∷ cuts) [] h m z = absurd m
within_of_at_most (n ∷ most) (b ∷ cuts) (c ∷ lower) h m z = (z.0, le_trans m.0 h.1, within_of_at_most most cuts lower h.2 m.1 z.1)

-- ---- cuts that fit

pub thick_of_places : (extents least : List ℕ) → length least ≡ length extents → ((k : ℕ) → k < length least → 1 ≤ get_or least k 0) → Thick extents least
thick_of_places [] [] e h = tt
thick_of_places [] (t ∷ least) e h = absurd (omega arith)
thick_of_places (n ∷ extents) [] e h = absurd (omega arith)
thick_of_places (n ∷ extents) (t ∷ least) e h = (h 0 (zero-lt-suc (length least)), thick_of_places extents least (omega arith) (λ k l. h (suc k) (omega arith)))

pub thick-length : (extents least : List ℕ) → Thick extents least → length least ≡ length extents
thick-length [] [] h = refl
thick-length [] (t ∷ least) h = absurd h
thick-length (n ∷ extents) [] h = absurd h
thick-length (n ∷ extents) (t ∷ least) h = ap suc (thick-length extents least h.1)

pub thick_low : (extents least : List ℕ) → Thick extents least → (k : ℕ) → k < length extents → 1 ≤ get_or least k 0
thick_low [] [] h k l = absurd (not-suc-le-zero l)
thick_low [] (t ∷ least) h k l = absurd h
thick_low (n ∷ extents) [] h k l = absurd h
thick_low (n ∷ extents) (t ∷ least) h zero l = h.0
thick_low (n ∷ extents) (t ∷ least) h (suc k) l = thick_low extents least h.1 k (le_of_suc-le-suc l)

pub length-most_of : (extents least : List ℕ) → Thick extents least → length (most_of extents least) ≡ length extents
unfolding most_of
length-most_of [] [] h = refl
length-most_of [] (t ∷ least) h = absurd h
length-most_of (n ∷ extents) [] h = absurd h
length-most_of (n ∷ extents) (t ∷ least) h = ap suc (length-most_of extents least h.1)

pub most_of-at : (extents least : List ℕ) → Thick extents least → (k : ℕ) → k < length extents
    → get_or (most_of extents least) k 0 ≡ get_or extents k 0 / get_or least k 0
unfolding most_of
most_of-at [] [] h k l = absurd (not-suc-le-zero l)
most_of-at [] (t ∷ least) h k l = absurd h
most_of-at (n ∷ extents) [] h k l = absurd h
most_of-at (n ∷ extents) (t ∷ least) h zero l = refl
most_of-at (n ∷ extents) (t ∷ least) h (suc k) l = most_of-at extents least h.1 k (le_of_suc-le-suc l)

pub most_of-ones : (extents : List ℕ) → most_of extents (replicate (length extents) 1) ≡ extents
unfolding most_of
most_of-ones [] = refl
most_of-ones (n ∷ extents) = rw (div-one n, most_of-ones extents)

-- Cuts fit just if none is 0 or above the most slabs of its dimension: b · t ≤ n just if b ≤ n / t.
pub fits_iff_within : (extents least cuts : List ℕ) → Thick extents least → Fits extents least cuts ↔ Within (most_of extents least) cuts
unfolding most_of
fits_iff_within [] [] [] thick = ((λ h. h), λ h. h)
fits_iff_within [] [] (b ∷ cuts) thick = ((λ h. h), λ h. h)
fits_iff_within [] (t ∷ least) cuts thick = absurd thick
fits_iff_within (n ∷ extents) [] cuts thick = absurd thick
fits_iff_within (n ∷ extents) (t ∷ least) [] thick = ((λ h. h), λ h. h)
fits_iff_within (n ∷ extents) (t ∷ least) (b ∷ cuts) thick =
    let here = le-div_iff_mul-le {k = t} {x = b} {y = n} thick.0 in
    let later = fits_iff_within extents least cuts thick.1 in (
      (λ h. (h.0, here.1 h.1, later.0 h.2)),
      λ h. (h.0, here.0 h.1, later.1 h.2),
    )

pub fits-length : (extents least cuts : List ℕ) → Fits extents least cuts → length cuts ≡ length extents
fits-length [] [] [] h = refl
fits-length [] [] (b ∷ cuts) h = absurd h
fits-length [] (t ∷ least) cuts h = absurd h
fits-length (n ∷ extents) [] cuts h = absurd h
fits-length (n ∷ extents) (t ∷ least) [] h = absurd h
fits-length (n ∷ extents) (t ∷ least) (b ∷ cuts) h = ap suc (fits-length extents least cuts h.2)

pub fits_positive : (extents least cuts : List ℕ) → Fits extents least cuts → Positive cuts
unfolding Positive
fits_positive [] [] [] h = tt
fits_positive [] [] (b ∷ cuts) h = absurd h
fits_positive [] (t ∷ least) cuts h = absurd h
fits_positive (n ∷ extents) [] cuts h = absurd h
fits_positive (n ∷ extents) (t ∷ least) [] h = absurd h
fits_positive (n ∷ extents) (t ∷ least) (b ∷ cuts) h = (h.0, fits_positive extents least cuts h.2)

-- "bk times the least thickness of k is at most nk"
pub fits-thickness : (extents least cuts : List ℕ) → Fits extents least cuts → (k : ℕ) → k < length cuts
    → get_or cuts k 0 * get_or least k 0 ≤ get_or extents k 0
fits-thickness [] [] [] h k l = absurd (not-suc-le-zero l)
fits-thickness [] [] (b ∷ cuts) h k l = absurd h
fits-thickness [] (t ∷ least) cuts h k l = absurd h
fits-thickness (n ∷ extents) [] cuts h k l = absurd h
fits-thickness (n ∷ extents) (t ∷ least) [] h k l = absurd h
fits-thickness (n ∷ extents) (t ∷ least) (b ∷ cuts) h zero l = h.1
fits-thickness (n ∷ extents) (t ∷ least) (b ∷ cuts) h (suc k) l = fits-thickness extents least cuts h.2 k (le_of_suc-le-suc l)

-- a number times another that is not 0
pub le-mul_of_pos : (b t n : ℕ) → 1 ≤ t → b * t ≤ n → b ≤ n
le-mul_of_pos b t n pos l = le_trans (subst (λ (c : ℕ). c ≤ b * t) (mul-one b) (mul-le-mul_left b pos)) l
