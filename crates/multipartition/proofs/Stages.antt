-- The stages of the walk over the tiles from the highest down (document 02, request e): no tile is visited, one more is, all are.
use mathlib.Core.Path.{◌≡◌, refl, sym, ap, ◌∙◌}
use mathlib.Core.Bool.{Bool, true, false, cond}
use mathlib.Core.List.{List, ◌∷◌, ◌++◌, append-nil}
use Prim.Native.Nat.{ℕ, suc, ◌+◌, ◌-◌, ◌≤◌, ◌<◌}
use native.Mathlib.Numerals.{add-one}
use native.Mathlib.Omega.{arith}
use lib.Dec.{eqb}
use lib.ListN.{length, get_or, set, take, replicate, length-set, length-append, length-replicate, get_or-replicate}
use lib.Seq.{length-take-le, take_all, take-suc, take-append-le, take-take, append_snoc, get_or-set_same, get_or-set_other, set_at, ext_get_or}
use borrow.Author.Tests.{eqb-true, eqb-false}
use Rattle.multipartition.specs.Lists.{list_of}
use Rattle.multipartition.specs.Chains.{lowest, next_higher, heads_of, nexts_of, heads_at, nexts_at, Stage}
use Rattle.multipartition.specs.Plans.{Layout, tiles_of}
use Rattle.multipartition.specs.Questions.{tile_owner, chains_answer, stage_answer}
use Rattle.multipartition.proofs.Chains.{length-list_of, get_d-list_of}

-- ---- the first list

module _ (own : ℕ → ℕ) (n p : ℕ) where
  length-heads_at : (t : ℕ) → length (heads_at own n p t) ≡ p
  unfolding heads_at
  length-heads_at t = length-list_of 0 p _

  head_at : (t q : ℕ) → q < p → get_or (heads_at own n p t) q 0 ≡ lowest own q (suc t) (n - t)
  unfolding heads_at
  head_at t q l =
      let e : 0 + q ≡ q = omega arith in
      get_d-list_of 0 p (λ r. lowest own r (suc t) (n - t)) q l ∙ ap (λ (r : ℕ). lowest own r (suc t) (n - t)) e

  heads_start : replicate p 0 ≡ heads_at own n p n
  unfolding lowest
  heads_start =
      ext_get_or 0 (replicate p 0) (heads_at own n p n) (length-replicate {A = ℕ} p 0 ∙ sym (length-heads_at n))
      (λ q l.
      let within : q < p = omega (arith, length-replicate {A = ℕ} p 0) in
      let none : n - n ≡ 0 = omega arith in
      get_or-replicate p q 0 0 within ∙ sym (head_at n q within ∙ rw none))

  -- one tile more in front
  lowest_front : (q t : ℕ) → suc t ≤ n → lowest own q (suc t) (n - t) ≡ cond (eqb (own (suc t)) q) (suc t) (lowest own q (suc (suc t)) (n - suc t))
  unfolding lowest
  lowest_front q t l = let count : n - t ≡ suc (n - suc t) = omega arith in rw count

  head_step : (t q rest : ℕ) (heads : List ℕ) → own (suc t) < length heads → get_or heads q 0 ≡ rest → (b : Bool) → eqb (own (suc t)) q ≡ b
      → get_or (set heads (own (suc t)) (suc t)) q 0 ≡ cond b (suc t) rest
  head_step t q rest heads l h true e = rw (← eqb-true (own (suc t)) q e) (get_or-set_same heads (own (suc t)) (suc t) 0 l)
  head_step t q rest heads l h false e =
      get_or-set_other heads (own (suc t)) q (suc t) 0 (λ same. eqb-false (own (suc t)) q e (sym same)) ∙ h

  heads-step : (t : ℕ) → suc t ≤ n → own (suc t) < p → set (heads_at own n p (suc t)) (own (suc t)) (suc t) ≡ heads_at own n p t
  heads-step t high mine =
      let heads : List ℕ = heads_at own n p (suc t) in
      let long : length (set heads (own (suc t)) (suc t)) ≡ p = length-set heads (own (suc t)) (suc t) ∙ length-heads_at (suc t) in
      ext_get_or 0 (set heads (own (suc t)) (suc t)) (heads_at own n p t) (long ∙ sym (length-heads_at t))
      (λ q l.
      let within : q < p = omega (arith, long) in
      head_step t q _ heads (omega (arith, length-heads_at (suc t))) (head_at (suc t) q within) (eqb (own (suc t)) q) refl
      ∙ sym (head_at t q within ∙ lowest_front q t high))

-- ---- the second list

module _ (own : ℕ → ℕ) (n : ℕ) where
  length-nexts_at : (lent : List ℕ) (t : ℕ) → length lent ≡ n → t ≤ n → length (nexts_at own n lent t) ≡ n
  unfolding nexts_at
  length-nexts_at lent t long within =
      length-append (take t lent) (list_of (suc t) (n - t) (next_higher own n))
      ∙ rw (length-take-le t lent (omega (arith, long)), length-list_of (suc t) (n - t) (next_higher own n)) (omega arith)

  -- the places of tiles not yet visited are as lent
  pub unvisited : (lent : List ℕ) (t u : ℕ) → length lent ≡ n → u ≤ t → t ≤ n → take u (nexts_at own n lent t) ≡ take u lent
  unfolding nexts_at
  unvisited lent t u long l within =
      take-append-le u (take t lent) (list_of (suc t) (n - t) (next_higher own n)) (omega (arith, length-take-le t lent (omega (arith, long))))
      ∙ take-take u t lent l

  nexts_start : (lent : List ℕ) → length lent ≡ n → lent ≡ nexts_at own n lent n
  unfolding nexts_at list_of
  nexts_start lent long =
      let none : n - n ≡ 0 = omega arith in rw none (sym (append-nil (take n lent) ∙ take_all n lent (omega (arith, long))))

  nexts-step : (lent : List ℕ) (t : ℕ) → length lent ≡ n → suc t ≤ n → set (nexts_at own n lent (suc t)) t (next_higher own n (suc t)) ≡ nexts_at own n lent t
  unfolding nexts_at list_of
  nexts-step lent t long high =
      let visited : List ℕ = list_of (suc (suc t)) (n - suc t) (next_higher own n) in
      let more : n - t ≡ suc (n - suc t) = omega arith in
      let parts : take (suc t) lent ++ visited ≡ take t lent ++ get_or lent t 0 ∷ visited
      = ap (λ (xs : List ℕ). xs ++ visited) (take-suc lent t 0 (omega (arith, long))) ∙ append_snoc (take t lent) (get_or lent t 0) visited in
      rw (more, parts) (set_at (take t lent) (get_or lent t 0) visited (next_higher own n (suc t)) t (length-take-le t lent (omega (arith, long))))

-- ---- the walk

module _ (own : ℕ → ℕ) (n p : ℕ) where
  -- no tile is visited
  pub stage_start : (lent : List ℕ) → length lent ≡ n → Stage own n p n lent (replicate p 0) lent
  stage_start lent long =
      record { within = omega arith; lent_length = long; heads_are = heads_start own n p; nexts_are = nexts_start own n lent long }

  -- a tile, which q owns, is visited, and t tiles are left: its next is q's lowest so far, and it becomes q's lowest
  pub stage-step : (tile t q : ℕ) (lent heads nexts : List ℕ) → tile ≡ t + 1 → q ≡ own tile → q < p → Stage own n p tile lent heads nexts
      → Stage own n p t lent (set heads q tile) (set nexts t (get_or heads q 0))
  stage-step tile t q lent heads nexts tile_is owner mine s =
      let next : tile ≡ suc t = tile_is ∙ add-one t in
      rw (owner, next) (step (rw (owner, next) at mine) (rw next at s))
    where
      step : own (suc t) < p → Stage own n p (suc t) lent heads nexts
          → Stage own n p t lent (set heads (own (suc t)) (suc t)) (set nexts t (get_or heads (own (suc t)) 0))
      step mine s =
          let next : get_or heads (own (suc t)) 0 ≡ next_higher own n (suc t)
          = ap (λ (xs : List ℕ). get_or xs (own (suc t)) 0) s.heads_are ∙ head_at own n p (suc t) (own (suc t)) mine in
          record {
            within = omega (arith, s.within);
            lent_length = s.lent_length;
            heads_are = rw s.heads_are (heads-step own n p t s.within mine);
            nexts_are = rw (next, s.nexts_are) (nexts-step own n lent t s.lent_length s.within);
          }

  -- all tiles are visited: the lists are those of document 01
  pub stage_end : (lent : List ℕ) → (heads_at own n p 0 ≡ heads_of own n p) × (nexts_at own n lent 0 ≡ nexts_of own n)
  unfolding heads_of nexts_of heads_at nexts_at
  stage_end lent = let all : n - 0 ≡ n = omega arith in (rw all, rw all)

-- stopped at stage 0, the answer is that of the chain call
pub stage_answer_end : (plan : Layout) (heads : ℕ) (lent : List ℕ) → stage_answer plan 0 heads lent ≡ chains_answer plan heads (length lent)
unfolding stage_answer chains_answer
stage_answer_end plan heads lent = let end = stage_end (tile_owner plan) (tiles_of plan) plan.p lent in rw (end.0, end.1)

-- ---- the lengths of the lists

module _ {own : ℕ → ℕ} {n p t : ℕ} {lent heads nexts : List ℕ} (s : Stage own n p t lent heads nexts) where
  pub heads-length : length heads ≡ p
  heads-length = ap length s.heads_are ∙ length-heads_at own n p t

  pub nexts-length : length nexts ≡ n
  nexts-length = ap length s.nexts_are ∙ length-nexts_at own n lent t s.lent_length s.within
