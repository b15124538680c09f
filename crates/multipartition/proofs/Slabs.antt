-- The slabs of a dimension are non-empty, in order and cover its elements, and an element's slab is the one that holds it. All this rests on
-- three laws of slab_start: it starts at 0, ends at n, and rises. The third, and how thick the slabs are, rest on where a slab ends. Beside these
-- laws only an element's slab by one division and the examples open the definition here.
use mathlib.Core.Path.{◌≡◌, refl, ap}
use mathlib.Core.Bool.{Bool, true, false, cond}
use mathlib.Core.List.{[], ◌∷◌}
use mathlib.Core.Logic.{◌↔◌, ⊎_elim}
use Prim.Native.Nat.{ℕ, zero, suc, ◌+◌, ◌-◌, ◌*◌, ◌/◌, ◌%◌, ◌<◌, ◌≤◌}
use native.Mathlib.Nat.{le_refl, le_trans, mul-sub, min-le_left, min-le_right, min-eq_left, min-eq_right, mod-lt, div-add-mod, div-mul-le_self, lt-div-mul-add, le-div_iff_mul-le, div-lt_iff_lt-mul, mul-le-mul_right, eq-or-lt_of_le, le_of_eq, le_of_lt}
use native.Mathlib.Omega.{arith}
use lib.Dec.{ltb}
use borrow.Author.Tests.{ltb-true, ltb-false, le-ltb}
use Rattle.multipartition.specs.Lists.{list_of}
use Rattle.multipartition.specs.Slabs.{slab_start, slab_end, thickness, slab_from, slab_of, InSlab}
use Rattle.multipartition.proofs.Tests.{by_cond}

-- ---- the laws of slab_start

pub slab_start-zero : (n b : ℕ) → slab_start n b 0 ≡ 0
unfolding slab_start
slab_start-zero n b = omega (arith, min-le_left 0 (n % b))

pub slab_start_last : (n b : ℕ) → 1 ≤ b → slab_start n b b ≡ n
unfolding slab_start
slab_start_last n b low = omega (arith, div-add-mod n b, min-eq_right (le_of_lt (mod-lt n low)))

-- where a slab ends: "the first (n modulo b) slabs have one element more than the others"
pub slab_end_is : (n b s : ℕ) → slab_end n b s ≡ slab_start n b s + (n / b + cond (ltb s (n % b)) 1 0)
unfolding slab_start
slab_end_is n b s =
    by_cond (λ (more : ℕ). slab_end n b s ≡ slab_start n b s + (n / b + more)) (ltb s (n % b)) 1 0
    (λ first. let l = ltb-true s (n % b) first in omega (arith, min-eq_left (le_of_lt l), min-eq_left l))
    (λ behind. let l = ltb-false s (n % b) behind in omega (arith, min-eq_right l, min-eq_right {n = n % b} {m = suc s} (omega arith)))

-- the others have an element too
pub thin_low : (n b : ℕ) → 1 ≤ b → b ≤ n → 1 ≤ n / b
thin_low n b low high = (le-div_iff_mul-le low).1 (omega arith)

pub slab_start_rises : (n b s : ℕ) → 1 ≤ b → b ≤ n → s < b → slab_start n b s < slab_start n b (suc s)
slab_start_rises n b s low high l = omega (arith, slab_end_is n b s, thin_low n b low high)

-- ---- how thick the slabs are

-- one or none
more-le : (t : Bool) → cond t 1 0 ≤ 1
more-le true = le_refl 1
more-le false = omega arith

more_falls : (r s t : ℕ) → s ≤ t → cond (ltb t r) 1 0 ≤ cond (ltb s r) 1 0
more_falls r s t l =
    by_cond (λ (more : ℕ). cond (ltb t r) 1 0 ≤ more) (ltb s r) 1 0
    (λ first. more-le (ltb t r))
    (λ behind. rw (le-ltb t r (le_trans (ltb-false s r behind) l)) (le_refl 0))

module _ (n b : ℕ) where
  pub thickness_least : (s : ℕ) → n / b ≤ thickness n b s
  thickness_least s = omega (arith, slab_end_is n b s)

  pub thickness_never_rises : (s t : ℕ) → s ≤ t → thickness n b t ≤ thickness n b s
  thickness_never_rises s t l = omega (arith, slab_end_is n b s, slab_end_is n b t, more_falls (n % b) s t l)

  pub thickness_differs_by-one : (s t : ℕ) → thickness n b s ≤ thickness n b t + 1
  thickness_differs_by-one s t = omega (arith, slab_end_is n b s, slab_end_is n b t, more-le (ltb s (n % b)))

  -- where b slabs of t elements fit, every slab has at least t
  pub slab-at_least : (s t : ℕ) → 1 ≤ b → b * t ≤ n → slab_start n b s + t ≤ slab_end n b s
  slab-at_least s t low fit =
      let thin : t ≤ n / b = (le-div_iff_mul-le low).1 (omega arith) in
      omega (arith, slab_end_is n b s)

-- ---- what follows from where slabs start: at 0, at n, and rising

module _ (n b : ℕ) (low : 1 ≤ b) (high : b ≤ n) where
  pub slab_nonempty : (s : ℕ) → s < b → slab_start n b s < slab_end n b s
  slab_nonempty s l = slab_start_rises n b s low high l

  -- the slabs are in order
  pub slabs_in_order : (s t : ℕ) → s ≤ t → t ≤ b → slab_start n b s ≤ slab_start n b t
  slabs_in_order s zero l m = let same : s ≡ 0 = omega arith in le_of_eq (ap (slab_start n b) same)
  slabs_in_order s (suc t) l m =
      ⊎_elim
      (λ same. le_of_eq (ap (slab_start n b) same))
      (λ lower.
      let before : slab_start n b s ≤ slab_start n b t = slabs_in_order s t (omega arith) (omega arith) in
      omega (arith, slab_start_rises n b t low high (omega arith)))
      (eq-or-lt_of_le l)

  slab_ends_before : (s t element : ℕ) → t < b → InSlab n b s element → InSlab n b t element → ¬ (s < t)
  slab_ends_before s t element m hs ht l = absurd (omega (arith, slabs_in_order (suc s) t l (omega arith)))

  -- no element is in two slabs
  pub slabs-disjoint : (s t element : ℕ) → s < b → t < b → InSlab n b s element → InSlab n b t element → s ≡ t
  slabs-disjoint s t element l m hs ht = omega (arith, slab_ends_before s t element m hs ht, slab_ends_before t s element l ht hs)

  slab_from_holds : (element s count : ℕ) → element < n → s + count ≡ b → slab_start n b s ≤ element
      → (slab_from n b element s count < b) × InSlab n b (slab_from n b element s count) element
  unfolding slab_from
  slab_from_holds element s zero l e h =
      let end : s ≡ b = omega arith in
      absurd (omega (arith, slab_start_last n b low, ap (slab_start n b) end))
  slab_from_holds element s (suc count) l e h =
      by_cond (λ (r : ℕ). (r < b) × InSlab n b r element) (ltb element (slab_end n b s)) s (slab_from n b element (suc s) count)
      (λ past. (omega arith, (h, ltb-true element (slab_end n b s) past)))
      (λ later. slab_from_holds element (suc s) count l (omega arith) (ltb-false element (slab_end n b s) later))

  -- every element is in a slab: "the slab of an element"
  pub slab_of_holds : (element : ℕ) → element < n → (slab_of n b element < b) × InSlab n b (slab_of n b element) element
  unfolding slab_of
  slab_of_holds element l = slab_from_holds element 0 b l (omega arith) (omega (arith, slab_start-zero n b))

  pub slab_of_iff : (s element : ℕ) → s < b → element < n → (slab_of n b element ≡ s) ↔ InSlab n b s element
  slab_of_iff s element ls le = (
    λ e. rw e at (slab_of_holds element le).1,
    λ h. slabs-disjoint (slab_of n b element) s element (slab_of_holds element le).0 ls (slab_of_holds element le).1 h,
  )

  -- the slab of an element by one division: among the first n modulo b slabs by their thickness
  pub slab_of_thick : (element : ℕ) → element < n % b * (n / b + 1) → slab_of n b element ≡ element / (n / b + 1)
  unfolding slab_start
  slab_of_thick element l = (slab_of_iff s element (omega (arith, first, mod-lt n low)) within).1 (starts, ends)
    where
      thick : ℕ
      thick = n / b + 1

      s : ℕ
      s = element / thick

      some : zero < thick
      some = omega arith

      first : s < n % b
      first = (div-lt_iff_lt-mul some).1 l

      within : element < n
      within = omega (arith, div-add-mod n b, mul-le-mul_right (n / b) (le_of_lt (mod-lt n low)))

      starts : slab_start n b s ≤ element
      starts = omega (arith, min-le_left s (n % b), div-mul-le_self element thick)

      ends : element < slab_end n b s
      ends = omega (arith, min-eq_left first, lt-div-mul-add {a = element} some)

  -- and behind these by that of the others
  pub slab_of_thin : (element : ℕ) → n % b * (n / b + 1) ≤ element → element < n → slab_of n b element ≡ n % b + (element - n % b * (n / b + 1)) / (n / b)
  unfolding slab_start
  slab_of_thin element behind l = (slab_of_iff s element inside l).1 (starts, ends)
    where
      thin : ℕ
      thin = n / b

      past : ℕ
      past = element - n % b * (n / b + 1)

      s : ℕ
      s = n % b + past / thin

      some : zero < thin
      some = thin_low n b low high

      few : past < (b - n % b) * thin
      few = omega (arith, div-add-mod n b, mul-sub thin b (n % b))

      inside : s < b
      inside = omega (arith, mod-lt n low, (div-lt_iff_lt-mul some).1 few)

      starts : slab_start n b s ≤ element
      starts = omega (arith, min-le_right s (n % b), div-mul-le_self past thin)

      ends : element < slab_end n b s
      ends = omega (arith, min-eq_right {n = n % b} {m = suc s} (omega arith), lt-div-mul-add {a = past} some)

-- "Ten elements in 4 slabs now start at 0, 3, 6, 8, and element 5 moves to slab 1"; 5 elements in 4 slabs leave none empty
pub slab_examples : (list_of 0 4 (slab_start 10 4) ≡ 0 ∷ 3 ∷ 6 ∷ 8 ∷ [])
    × (list_of 0 10 (slab_of 10 4) ≡ 0 ∷ 0 ∷ 0 ∷ 1 ∷ 1 ∷ 1 ∷ 2 ∷ 2 ∷ 3 ∷ 3 ∷ [])
    × (list_of 0 5 (slab_start 5 4) ≡ 0 ∷ 2 ∷ 3 ∷ 4 ∷ 5 ∷ [])
unfolding list_of slab_start slab_from slab_of
slab_examples = (refl, refl, refl)
