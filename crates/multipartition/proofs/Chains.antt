-- The chain lists: from a processor's place in the first list on, the second list leads through that processor's tiles, each once, in rising
-- order, and then to zero. Every tile is on its owner's chain and on no other.
use mathlib.Core.Path.{◌≡◌, refl, sym, ap, ap₂, ◌∙◌}
use mathlib.Core.Bool.{Bool, true, false, cond}
use mathlib.Core.List.Memᴰ
use mathlib.Core.List.{List, [], ◌∷◌, Memᴰ}
use mathlib.Core.Logic.{◌↔◌, ⊎_elim}
use Prim.Native.Nat.{ℕ, zero, suc, ◌+◌, ◌-◌, ◌<◌, ◌≤◌}
use native.Mathlib.Nat.{eq-or-lt_of_le}
use native.Mathlib.Omega.{arith}
use lib.Dec.{eqb}
use lib.ListN.{length, get_or}
use borrow.Author.Tests.{eqb-true, eqb-false}
use Rattle.multipartition.specs.Lists.{list_of}
use Rattle.multipartition.specs.Chains.{lowest, next_higher, heads_of, nexts_of, Chain, ends, goes_on, Rising}
use Rattle.multipartition.proofs.Tests.{by_cond}

pub length-list_of : (from n : ℕ) (f : ℕ → ℕ) → length (list_of from n f) ≡ n
unfolding list_of
length-list_of from zero f = refl
length-list_of from (suc n) f = ap suc (length-list_of (suc from) n f)

pub get_d-list_of : (from n : ℕ) (f : ℕ → ℕ) (i : ℕ) → i < n → get_or (list_of from n f) i 0 ≡ f (from + i)
unfolding list_of
get_d-list_of from zero f i l = absurd (omega arith)
get_d-list_of from (suc n) f zero l = let e : from ≡ from + 0 = omega arith in ap f e
get_d-list_of from (suc n) f (suc i) l =
    let e : suc from + i ≡ from + suc i = omega arith in get_d-list_of (suc from) n f i (omega arith) ∙ ap f e

module _ (own : ℕ → ℕ) (q : ℕ) where
  -- ---- the lowest tile of a processor

  -- if there is any among the tiles, it is one of them, and q owns it
  pub lowest_owned : (from count : ℕ) → 1 ≤ lowest own q from count
      → (from ≤ lowest own q from count) × (lowest own q from count < from + count) × (own (lowest own q from count) ≡ q)
  unfolding lowest
  lowest_owned from zero = λ l. absurd (omega arith)
  lowest_owned from (suc count) =
      by_cond (λ (t : ℕ). 1 ≤ t → (from ≤ t) × (t < from + suc count) × (own t ≡ q)) (eqb (own from) q) from (lowest own q (suc from) count)
      (λ e l. (omega arith, omega arith, eqb-true (own from) q e))
      (λ e l. let there = lowest_owned (suc from) count l in (omega (arith, there.0), omega (arith, there.1), there.2))

  -- and no lower one is q's
  pub lowest_least : (from count tile : ℕ) → 1 ≤ from → from ≤ tile → tile < from + count → own tile ≡ q
      → (1 ≤ lowest own q from count) × (lowest own q from count ≤ tile)
  unfolding lowest
  lowest_least from zero tile pos l m e = absurd (omega arith)
  lowest_least from (suc count) tile pos l m e =
      by_cond (λ (t : ℕ). (1 ≤ t) × (t ≤ tile)) (eqb (own from) q) from (lowest own q (suc from) count)
      (λ mine. (pos, l))
      (λ other. ⊎_elim
      (λ same. absurd (eqb-false (own from) q other (ap own same ∙ e)))
      (λ above. lowest_least (suc from) count tile (omega arith) above (omega arith) e)
      (eq-or-lt_of_le l))

  -- ---- the tiles of a processor

  -- those of `count` tiles, the first of them `from`, that q owns, in rising order
  unfoldable pub tiles_owned : ℕ → ℕ → List ℕ
  tiles_owned from zero = []
  tiles_owned from (suc count) = cond (eqb (own from) q) (from ∷ tiles_owned (suc from) count) (tiles_owned (suc from) count)

  pub owned-rising : (low from count : ℕ) → low ≤ from → Rising low (tiles_owned from count)
  unfolding tiles_owned
  owned-rising low from zero l = tt
  owned-rising low from (suc count) l =
      by_cond (Rising low) (eqb (own from) q) (from ∷ tiles_owned (suc from) count) (tiles_owned (suc from) count)
      (λ mine. (l, owned-rising (suc from) (suc from) count (omega arith)))
      (λ other. owned-rising low (suc from) count (omega arith))

  owned_are : (tile from count : ℕ) → Memᴰ tile (tiles_owned from count) → (from ≤ tile) × (tile < from + count) × (own tile ≡ q)
  unfolding tiles_owned
  owned_are tile from zero = λ m. absurd (Memᴰ.not-nil m)
  owned_are tile from (suc count) =
      by_cond (λ (tiles : List ℕ). Memᴰ tile tiles → (from ≤ tile) × (tile < from + suc count) × (own tile ≡ q))
      (eqb (own from) q) (from ∷ tiles_owned (suc from) count) (tiles_owned (suc from) count)
      (λ mine m. ⊎_elim (λ e. (omega arith, omega arith, ap own e ∙ eqb-true (own from) q mine)) (λ m. later (owned_are tile (suc from) count m)) (Memᴰ.cases_cons m))
      (λ other m. later (owned_are tile (suc from) count m))
    where
      later : (suc from ≤ tile) × (tile < suc from + count) × (own tile ≡ q) → (from ≤ tile) × (tile < from + suc count) × (own tile ≡ q)
      later h = (omega (arith, h.0), omega (arith, h.1), h.2)

  owned_all : (tile from count : ℕ) → from ≤ tile → tile < from + count → own tile ≡ q → Memᴰ tile (tiles_owned from count)
  unfolding tiles_owned
  owned_all tile from zero l m e = absurd (omega arith)
  owned_all tile from (suc count) l m e =
      by_cond (Memᴰ tile) (eqb (own from) q) (from ∷ tiles_owned (suc from) count) (tiles_owned (suc from) count)
      (λ mine. ⊎_elim
      (λ same. Memᴰ.head (sym same))
      (λ above. Memᴰ.tail (owned_all tile (suc from) count above (omega arith) e))
      (eq-or-lt_of_le l))
      (λ other. ⊎_elim
      (λ same. absurd (eqb-false (own from) q other (ap own same ∙ e)))
      (λ above. owned_all tile (suc from) count above (omega arith) e)
      (eq-or-lt_of_le l))

  -- a number is one of them exactly if it is one of those tiles and q owns it
  pub owned_iff : (tile from count : ℕ) → Memᴰ tile (tiles_owned from count) ↔ (from ≤ tile) × (tile < from + count) × (own tile ≡ q)
  owned_iff tile from count = (owned_are tile from count, λ h. owned_all tile from count h.0 h.1 h.2)

  -- ---- the chain of a processor

  pub heads_hold : (n p : ℕ) → q < p → get_or (heads_of own n p) q 0 ≡ lowest own q 1 n
  unfolding heads_of
  heads_hold n p l = let e : 0 + q ≡ q = omega arith in get_d-list_of 0 p (λ r. lowest own r 1 n) q l ∙ ap (λ (r : ℕ). lowest own r 1 n) e

  pub nexts_hold : (n tile : ℕ) → 1 ≤ tile → tile ≤ n → get_or (nexts_of own n) (tile - 1) 0 ≡ next_higher own n tile
  unfolding nexts_of
  nexts_hold n tile l m =
      let e : 1 + (tile - 1) ≡ tile = omega arith in get_d-list_of 1 n (next_higher own n) (tile - 1) (omega arith) ∙ ap (next_higher own n) e

  chain_from : (n from count : ℕ) → 1 ≤ from → from + count ≡ suc n → Chain (nexts_of own n) (lowest own q from count) (tiles_owned from count)
  unfolding lowest tiles_owned
  chain_from n from zero pos e = ends
  chain_from n from (suc count) pos e = step (eqb (own from) q) refl (chain_from n (suc from) count (omega arith) (omega arith))
    where
      step : (t : Bool) → eqb (own from) q ≡ t → Chain (nexts_of own n) (lowest own q (suc from) count) (tiles_owned (suc from) count)
          → Chain (nexts_of own n) (cond t from (lowest own q (suc from) count))
          (cond t (from ∷ tiles_owned (suc from) count) (tiles_owned (suc from) count))
      step true mine rest =
          let left : n - from ≡ count = omega arith in
          let next : next_higher own n from ≡ lowest own q (suc from) count
          = ap₂ (λ (r c : ℕ). lowest own r (suc from) c) (eqb-true (own from) q mine) left in
          goes_on from (tiles_owned (suc from) count) pos (rw (nexts_hold n from pos (omega arith), next) rest)
      step false other rest = rest

  -- from q's place in the first list on, the second leads through q's tiles and ends
  pub chain_of : (n p : ℕ) → q < p → Chain (nexts_of own n) (get_or (heads_of own n p) q 0) (tiles_owned 1 n)
  chain_of n p l = rw (heads_hold n p l) (chain_from n 1 n (omega arith) (omega arith))

  -- the chain rises
  pub chain_rises : (n : ℕ) → Rising 1 (tiles_owned 1 n)
  chain_rises n = owned-rising 1 1 n (omega arith)
