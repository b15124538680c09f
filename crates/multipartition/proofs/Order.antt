-- The order among cuts is a total order, and the test `precedes` decides it. Others use the order by the laws that begin with `precedes`, so that
-- only this file depends on what decides among equal costs. Of what a dimension costs it uses that a larger cut costs no less.
use mathlib.Core.Path.{◌≡◌, refl, ◌∙◌, ap, ap₂}
use mathlib.Core.Logic.{◌⊎◌, inl, inr, ⊎_elim, ◌↔◌}
use mathlib.Core.Bool.{Bool, true, false, ◌&&◌, ◌||◌}
use mathlib.Core.List.{List, [], ◌∷◌}
use Prim.Native.Nat.{ℕ, ◌+◌, ◌*◌, ◌≤◌, ◌<◌}
use native.Mathlib.Nat.{zero-mul, le_refl, le_of_lt, mul-le-mul, mul-le-mul_right, mul-lt-mul_of_pos_left, eq-or-lt_of_le}
use native.Mathlib.Omega.{arith}
use lib.Dec.{ltb, eqb}
use borrow.Author.Tests.{ltb-true, ltb-false, eqb-true, lt-ltb, eq-eqb}
use Rattle.numbers.specs.Products.{product}
use Rattle.multipartition.specs.Cuts.{cut_cost, cost_of, NotLater, not_later, NotMore, not_more, Precedes, precedes}
use Rattle.multipartition.proofs.Tests.{and-true_iff, or-true_iff}

-- ---- the cost of a dimension

-- a larger cut costs no less
pub cut_cost_mono : (b c w : ℕ) → b ≤ c → cut_cost b w ≤ cut_cost c w
unfolding cut_cost
cut_cost_mono b c w h = mul-le-mul_right w (omega (arith, h))

-- a dimension that is not cut costs nothing
pub cut_cost-one : (w : ℕ) → cut_cost 1 w ≡ 0
unfolding cut_cost
cut_cost-one w = zero-mul w

-- a dimension costs at most the product of a bound of its cut and a bound of its weight
pub cut_cost-le : (b w c v : ℕ) → b ≤ c → w ≤ v → cut_cost b w ≤ c * v
unfolding cut_cost
cut_cost-le b w c v h k = mul-le-mul (omega (arith, h)) k

-- ---- the smaller cut at the first dimension where they differ

-- a test by two numbers, and another test among equals
smaller_or_equal : (m n : ℕ) (t : Bool) (T : Type 0) → (t ≡ true) ↔ T → (ltb m n || (eqb m n && t) ≡ true) ↔ ((m < n) ⊎ ((m ≡ n) × T))
smaller_or_equal m n t T i = (
  (λ e. ⊎_elim (λ l. inl (ltb-true m n l)) (λ q. let both = (and-true_iff (eqb m n) t).0 q in inr (eqb-true m n both.0, i.0 both.1))
      ((or-true_iff (ltb m n) (eqb m n && t)).0 e)),
  λ h. (or-true_iff (ltb m n) (eqb m n && t)).1
      (⊎_elim (λ l. inl (lt-ltb m n l)) (λ q. inr ((and-true_iff (eqb m n) t).1 (eq-eqb m n q.0, i.1 q.1))) h),
)

pub not_later-true : (u v : List ℕ) → (not_later u v ≡ true) ↔ NotLater u v
unfolding not_later
not_later-true [] v = ((λ e. tt), λ h. refl)
not_later-true (b ∷ u) [] = ((λ e. let clash : ◌≡◌ {A = ℕ} 0 1 = cc in omega arith), λ h. absurd h)
not_later-true (b ∷ u) (c ∷ v) = smaller_or_equal b c (not_later u v) (NotLater u v) (not_later-true u v)

pub not_later_refl : (u : List ℕ) → NotLater u u
not_later_refl [] = tt
not_later_refl (b ∷ u) = inr (refl, not_later_refl u)

pub not_later_antisymm : (u v : List ℕ) → NotLater u v → NotLater v u → u ≡ v
not_later_antisymm [] [] h k = refl
not_later_antisymm [] (c ∷ v) h k = absurd k
not_later_antisymm (b ∷ u) [] h k = absurd h
not_later_antisymm (b ∷ u) (c ∷ v) (inl h) (inl k) = absurd (omega arith)
not_later_antisymm (b ∷ u) (c ∷ v) (inl h) (inr k) = absurd (omega arith)
not_later_antisymm (b ∷ u) (c ∷ v) (inr h) (inl k) = absurd (omega arith)
not_later_antisymm (b ∷ u) (c ∷ v) (inr h) (inr k) = ap₂ ◌∷◌ h.0 (not_later_antisymm u v h.1 k.1)

pub not_later_trans : (u v x : List ℕ) → NotLater u v → NotLater v x → NotLater u x
not_later_trans [] v x h k = tt
not_later_trans (b ∷ u) [] x h k = absurd h
not_later_trans (b ∷ u) (c ∷ v) [] h k = absurd k
not_later_trans (b ∷ u) (c ∷ v) (e ∷ x) (inl h) (inl k) = inl (omega arith)
not_later_trans (b ∷ u) (c ∷ v) (e ∷ x) (inl h) (inr k) = inl (omega arith)
not_later_trans (b ∷ u) (c ∷ v) (e ∷ x) (inr h) (inl k) = inl (omega arith)
not_later_trans (b ∷ u) (c ∷ v) (e ∷ x) (inr h) (inr k) = inr (h.0 ∙ k.0, not_later_trans u v x h.1 k.1)

-- two numbers and two orders among equals: one of them holds
one-first : (m n : ℕ) (T S : Type 0) → T ⊎ S → ((m < n) ⊎ ((m ≡ n) × T)) ⊎ ((n < m) ⊎ ((n ≡ m) × S))
one-first m n T S h = go (ltb m n) (ltb n m) refl refl h
  where
    go : (s t : Bool) → ltb m n ≡ s → ltb n m ≡ t → T ⊎ S → ((m < n) ⊎ ((m ≡ n) × T)) ⊎ ((n < m) ⊎ ((n ≡ m) × S))
    go true t p q h = inl (inl (ltb-true m n p))
    go false true p q h = inr (inl (ltb-true n m q))
    go false false p q (inl h) = inl (inr (omega (arith, ltb-false m n p, ltb-false n m q), h))
    go false false p q (inr h) = inr (inr (omega (arith, ltb-false m n p, ltb-false n m q), h))

pub not_later_total : (u v : List ℕ) → NotLater u v ⊎ NotLater v u
not_later_total [] v = inl tt
not_later_total (b ∷ u) [] = inr tt
not_later_total (b ∷ u) (c ∷ v) = one-first b c (NotLater u v) (NotLater v u) (not_later_total u v)

-- ---- fewer tiles, or as many and not later

not_more-true : (u v : List ℕ) → (not_more u v ≡ true) ↔ NotMore u v
unfolding not_more
not_more-true u v = smaller_or_equal (product u) (product v) (not_later u v) (NotLater u v) (not_later-true u v)

not_more_refl : (u : List ℕ) → NotMore u u
not_more_refl u = inr (refl, not_later_refl u)

not_more_antisymm : (u v : List ℕ) → NotMore u v → NotMore v u → u ≡ v
not_more_antisymm u v (inl h) (inl k) = absurd (omega arith)
not_more_antisymm u v (inl h) (inr k) = absurd (omega arith)
not_more_antisymm u v (inr h) (inl k) = absurd (omega arith)
not_more_antisymm u v (inr h) (inr k) = not_later_antisymm u v h.1 k.1

not_more_trans : (u v x : List ℕ) → NotMore u v → NotMore v x → NotMore u x
not_more_trans u v x (inl h) (inl k) = inl (omega arith)
not_more_trans u v x (inl h) (inr k) = inl (omega arith)
not_more_trans u v x (inr h) (inl k) = inl (omega arith)
not_more_trans u v x (inr h) (inr k) = inr (h.0 ∙ k.0, not_later_trans u v x h.1 k.1)

not_more_total : (u v : List ℕ) → NotMore u v ⊎ NotMore v u
not_more_total u v = one-first (product u) (product v) (NotLater u v) (NotLater v u) (not_later_total u v)

not_more-le : (u v : List ℕ) → NotMore u v → product u ≤ product v
not_more-le u v (inl h) = le_of_lt h
not_more-le u v (inr h) = omega arith

not_more-cons : (b : ℕ) (u v : List ℕ) → 0 < b → NotMore u v → NotMore (b ∷ u) (b ∷ v)
not_more-cons b u v pos (inl h) = inl (mul-lt-mul_of_pos_left h pos)
not_more-cons b u v pos (inr h) = inr (ap (λ (n : ℕ). b * n) h.0, inr (refl, h.1))

-- ---- the order among cuts

pub precedes-true : (weights u v : List ℕ) → (precedes weights u v ≡ true) ↔ Precedes weights u v
unfolding precedes Precedes
precedes-true weights u v = smaller_or_equal (cost_of weights u) (cost_of weights v) (not_more u v) (NotMore u v) (not_more-true u v)

pub precedes_refl : (weights u : List ℕ) → Precedes weights u u
unfolding Precedes
precedes_refl weights u = inr (refl, not_more_refl u)

pub precedes_antisymm : (weights u v : List ℕ) → Precedes weights u v → Precedes weights v u → u ≡ v
unfolding Precedes
precedes_antisymm weights u v (inl h) (inl k) = absurd (omega arith)
precedes_antisymm weights u v (inl h) (inr k) = absurd (omega arith)
precedes_antisymm weights u v (inr h) (inl k) = absurd (omega arith)
precedes_antisymm weights u v (inr h) (inr k) = not_more_antisymm u v h.1 k.1

pub precedes_trans : (weights u v x : List ℕ) → Precedes weights u v → Precedes weights v x → Precedes weights u x
unfolding Precedes
precedes_trans weights u v x (inl h) (inl k) = inl (omega arith)
precedes_trans weights u v x (inl h) (inr k) = inl (omega arith)
precedes_trans weights u v x (inr h) (inl k) = inl (omega arith)
precedes_trans weights u v x (inr h) (inr k) = inr (h.0 ∙ k.0, not_more_trans u v x h.1 k.1)

pub precedes_total : (weights u v : List ℕ) → Precedes weights u v ⊎ Precedes weights v u
unfolding Precedes
precedes_total weights u v = one-first (cost_of weights u) (cost_of weights v) (NotMore u v) (NotMore v u) (not_more_total u v)

-- what is chosen first is not dearer
pub precedes-le : (weights u v : List ℕ) → Precedes weights u v → cost_of weights u ≤ cost_of weights v
unfolding Precedes
precedes-le weights u v (inl h) = le_of_lt h
precedes-le weights u v (inr h) = omega arith

-- what is cheaper is chosen first
pub precedes_of-lt : (weights u v : List ℕ) → cost_of weights u < cost_of weights v → Precedes weights u v
unfolding Precedes
precedes_of-lt weights u v h = inl h

-- and among equal costs, what has fewer tiles
pub precedes_of_fewer : (weights u v : List ℕ) → cost_of weights u ≡ cost_of weights v → product u < product v → Precedes weights u v
unfolding Precedes
precedes_of_fewer weights u v e h = inr (e, inl h)

-- what is chosen first has, among equal costs, no more tiles
pub precedes_tiles-le : (weights u v : List ℕ) → Precedes weights u v → cost_of weights u ≡ cost_of weights v → product u ≤ product v
unfolding Precedes
precedes_tiles-le weights u v (inl h) e = absurd (omega arith)
precedes_tiles-le weights u v (inr h) e = not_more-le u v h.1

-- the same cut in front of both
pub precedes-cons : (w b : ℕ) (weights u v : List ℕ) → 0 < b → Precedes weights u v → Precedes (w ∷ weights) (b ∷ u) (b ∷ v)
unfolding Precedes
precedes-cons w b weights u v pos (inl h) = inl (omega arith)
precedes-cons w b weights u v pos (inr h) = inr (ap (λ (n : ℕ). cut_cost b w + n) h.0, not_more-cons b u v pos h.1)

-- a smaller first cut, at no more cost and with no more tiles
pub precedes_of-first : (weights u v : List ℕ) (b c : ℕ) → b < c → cost_of weights (b ∷ u) ≤ cost_of weights (c ∷ v) → product (b ∷ u) ≤ product (c ∷ v)
    → Precedes weights (b ∷ u) (c ∷ v)
unfolding Precedes
precedes_of-first weights u v b c l h k = ⊎_elim (λ e. inr (e, ⊎_elim (λ f. inr (f, inl l)) inl (eq-or-lt_of_le k))) inl (eq-or-lt_of_le h)

-- ---- another cost

-- the same order by another cost
unfoldable pub PrecedesBy : (List ℕ → ℕ) → List ℕ → List ℕ → Type 0
PrecedesBy cost u v = (cost u < cost v) ⊎ ((cost u ≡ cost v) × NotMore u v)

-- a cost that is larger by the same amount for both leaves them in their order
pub precedes_iff_shifted : (cost : List ℕ → ℕ) (weights u v : List ℕ) (more : ℕ) → cost u ≡ cost_of weights u + more → cost v ≡ cost_of weights v + more
    → Precedes weights u v ↔ PrecedesBy cost u v
unfolding Precedes PrecedesBy
precedes_iff_shifted cost weights u v more e f = (
  ⊎_elim (λ h. inl (omega (arith, e, f, h))) (λ h. inr (omega (arith, e, f, h.0), h.1)),
  ⊎_elim (λ h. inl (omega (arith, e, f, h))) (λ h. inr (omega (arith, e, f, h.0), h.1)),
)

-- ---- no cut larger

-- u has as many cuts as v, and none larger
abbrev pub AtMost : List ℕ → List ℕ → Type 0
AtMost [] [] = Unit {0}
AtMost [] (c ∷ v) = ⊥
AtMost (b ∷ u) [] = ⊥
AtMost (b ∷ u) (c ∷ v) = (b ≤ c) × AtMost u v

pub at_most_refl : (u : List ℕ) → AtMost u u
at_most_refl [] = tt
at_most_refl (b ∷ u) = (le_refl b, at_most_refl u)

pub cost_of_at_most : (weights u v : List ℕ) → AtMost u v → cost_of weights u ≤ cost_of weights v
cost_of_at_most [] u v h = le_refl 0
cost_of_at_most (w ∷ weights) [] [] h = le_refl 0
cost_of_at_most (w ∷ weights) [] (c ∷ v) h = absurd h
cost_of_at_most (w ∷ weights) (b ∷ u) [] h = absurd h
cost_of_at_most (w ∷ weights) (b ∷ u) (c ∷ v) h =
    let here = cut_cost_mono b c w h.0 in
    let later = cost_of_at_most weights u v h.1 in
    omega arith

not_later_of_at_most : (u v : List ℕ) → AtMost u v → NotLater u v
not_later_of_at_most [] v h = tt
not_later_of_at_most (b ∷ u) [] h = absurd h
not_later_of_at_most (b ∷ u) (c ∷ v) h = ⊎_elim (λ e. inr (e, not_later_of_at_most u v h.1)) inl (eq-or-lt_of_le h.0)

product_at_most : (u v : List ℕ) → AtMost u v → product u ≤ product v
product_at_most [] [] h = le_refl 1
product_at_most [] (c ∷ v) h = absurd h
product_at_most (b ∷ u) [] h = absurd h
product_at_most (b ∷ u) (c ∷ v) h = mul-le-mul h.0 (product_at_most u v h.1)

not_more_of_at_most : (u v : List ℕ) → AtMost u v → NotMore u v
not_more_of_at_most u v h = ⊎_elim (λ e. inr (e, not_later_of_at_most u v h)) inl (eq-or-lt_of_le (product_at_most u v h))

-- cuts of which none is larger are chosen first
pub precedes_of_at_most : (weights u v : List ℕ) → AtMost u v → Precedes weights u v
unfolding Precedes
precedes_of_at_most weights u v h = ⊎_elim (λ e. inr (e, not_more_of_at_most u v h)) inl (eq-or-lt_of_le (cost_of_at_most weights u v h))
