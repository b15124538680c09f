-- What it takes for each question to be answered, and what it then answers. The questions agree both ways: tile numbers and positions, steps and
-- steps back, elements and slabs, owners and chains, said of what the calls answer about any plan.
use mathlib.Core.Path.{◌≡◌, refl, ap, ◌∙◌, subst, subst⁻¹}
use mathlib.Core.Logic.{◌↔◌}
use mathlib.Core.Bool.{Bool, true, not, cond}
use mathlib.Core.List.{List, [], ◌∷◌, Memᴰ}
use mathlib.Core.Option.{Option, some}
use Prim.Native.Nat.{ℕ, suc, ◌+◌, ◌-◌, ◌/◌, ◌%◌, ◌≤◌, ◌<◌}
use native.Mathlib.Omega.{arith}
use borrow.Author.Tests.{ltb-true, lt-ltb, not-false}
use lib.Dec.{ltb}
use lib.ListN.{get_or}
use Rattle.multipartition.specs.Answers.{answered, Check}
use Rattle.multipartition.specs.Owners.{owner_at}
use Rattle.multipartition.specs.Neighbours.{neighbour_at}
use Rattle.multipartition.specs.Tiles.{Inside, is_inside, tile_number, position_of, one_step_on}
use Rattle.multipartition.specs.Slabs.{slab_start, slab_end, thickness, slab_of}
use Rattle.multipartition.specs.Chains.{heads_of, nexts_of, Chain, Rising}
use Rattle.multipartition.specs.Plans.{Layout, tiles_of, between, in_shape}
use Rattle.multipartition.specs.Questions.{shape_check, dimension_check, range_check, chain_checks, extent_of, cut_of, least_thickness, tile_owner, owner_answer, neighbour_answer, number_answer, step_answer, position_answer, slab_answer, slab_of_answer, chains_answer}
use Rattle.multipartition.proofs.Tests.{between-true_iff}
use Rattle.multipartition.proofs.Answers.{answers_iff}
use Rattle.multipartition.proofs.Plans.{in_shape_iff}
use Rattle.multipartition.proofs.Tiles.{inside_of_test, test_of_inside, number_low, number_high, position_inside, position_of_number, number_of_position, one_step_on_inside, step_back}
use Rattle.multipartition.proofs.Slabs.{slab_start_last, slab_end_is, slab-at_least, thickness_least, thickness_never_rises, thickness_differs_by-one, slabs_in_order, slab_of_holds, slab_of_iff}
use Rattle.multipartition.proofs.Chains.{tiles_owned, owned_iff, chain_of, chain_rises}

module _ (plan : Layout) where
  -- ---- tile numbers and positions

  pub number_answered : (x : List ℕ) (t : ℕ) → (number_answer plan x ≡ answered t) ↔ ((in_shape plan ≡ true) × Inside plan.cuts x × (tile_number plan.cuts x ≡ t))
  unfolding number_answer
  number_answered x t = (
    (λ e. let h = (answers_iff (shape_check plan ∷ range_check (is_inside plan.cuts x) ∷ []) (tile_number plan.cuts x) t).0 e in
        (not-false (in_shape plan) h.0.0, inside_of_test plan.cuts x (not-false (is_inside plan.cuts x) h.0.1.0), h.1)),
    λ h. rw (h.0, test_of_inside plan.cuts x h.1) (ap answered h.2),
  )

  pub position_answered : (t : ℕ) (x : List ℕ) → (position_answer plan t ≡ answered x) ↔ ((in_shape plan ≡ true) × ((1 ≤ t) × (t ≤ tiles_of plan)) × (position_of plan.cuts t ≡ x))
  unfolding position_answer
  position_answered t x = (
    (λ e. let h = (answers_iff (shape_check plan ∷ range_check (between 1 (tiles_of plan) t) ∷ []) (position_of plan.cuts t) x).0 e in
        (not-false (in_shape plan) h.0.0, (between-true_iff 1 (tiles_of plan) t).0 (not-false (between 1 (tiles_of plan) t) h.0.1.0), h.1)),
    λ h. rw (h.0, (between-true_iff 1 (tiles_of plan) t).1 h.1) (ap answered h.2),
  )

  -- t is the number of the tile at x exactly if x is the position of tile t
  pub number_iff_position : (x : List ℕ) (t : ℕ) → (number_answer plan x ≡ answered t) ↔ (position_answer plan t ≡ answered x)
  number_iff_position x t = (there, back)
    where
      there : number_answer plan x ≡ answered t → position_answer plan t ≡ answered x
      there e =
          let h = (number_answered x t).0 e in
          subst (λ (n : ℕ). position_answer plan n ≡ answered x) h.2
          ((position_answered (tile_number plan.cuts x) x).1
          (h.0, (number_low plan.cuts x, number_high plan.cuts x h.1), position_of_number plan.cuts x h.1))

      back : position_answer plan t ≡ answered x → number_answer plan x ≡ answered t
      back e =
          let h = (position_answered t x).0 e in
          subst (λ (y : List ℕ). number_answer plan y ≡ answered t) h.2
          ((number_answered (position_of plan.cuts t) t).1
          (h.0, position_inside plan.cuts t h.1.0 h.1.1, number_of_position plan.cuts t h.1.0 h.1.1))

  -- ---- steps

  pub step_answered : (x : List ℕ) (k : ℕ) (up : Bool) (next : Option (List ℕ)) → (step_answer plan x k up ≡ answered next)
      ↔ ((in_shape plan ≡ true) × (between 1 plan.d k ≡ true) × Inside plan.cuts x × (one_step_on plan.cuts (k - 1) up x ≡ next))
  unfolding step_answer
  step_answered x k up next = (
    (λ e.
        let h = (answers_iff (shape_check plan ∷ dimension_check plan k ∷ range_check (is_inside plan.cuts x) ∷ []) (one_step_on plan.cuts (k - 1) up x) next).0 e in
        let inside = inside_of_test plan.cuts x (not-false (is_inside plan.cuts x) h.0.1.1.0) in
        (not-false (in_shape plan) h.0.0, not-false (between 1 plan.d k) h.0.1.0, inside, h.1)),
    λ h. rw (h.0, h.1, test_of_inside plan.cuts x h.2) (ap answered h.3),
  )

  -- a step that stays inside comes back by the step in the other direction
  pub step_comes_back : (x y : List ℕ) (k : ℕ) (up : Bool) → step_answer plan x k up ≡ answered (some y) → step_answer plan y k (not up) ≡ answered (some x)
  step_comes_back x y k up e =
      let h = (step_answered x k up (some y)).0 e in
      (step_answered y k (not up) (some x)).1
      (h.0, h.1, one_step_on_inside plan.cuts x y (k - 1) up h.2 h.3, step_back plan.cuts x y (k - 1) up h.2 h.3)

  -- ---- slabs and elements

  -- a cut of a plan in shape is from 1 to its extent
  cut-in_shape : (k : ℕ) → in_shape plan ≡ true → between 1 plan.d k ≡ true → (1 ≤ cut_of plan k) × (cut_of plan k ≤ extent_of plan k)
  cut-in_shape k shape dimension =
      let range = (between-true_iff 1 plan.d k).0 dimension in
      let cut = ((in_shape_iff plan).0 shape).cut_range (k - 1) (omega (arith, range.0, range.1)) in
      (cut.0, cut.1)

  pub slab_answered : (k s : ℕ) (ends : ℕ × ℕ) → (slab_answer plan k s ≡ answered ends)
      ↔ ((in_shape plan ≡ true) × (between 1 plan.d k ≡ true) × (s < cut_of plan k)
      × ((slab_start (extent_of plan k) (cut_of plan k) s, slab_end (extent_of plan k) (cut_of plan k) s) ≡ ends))
  unfolding slab_answer
  slab_answered k s ends = (
    (λ e.
        let both : ℕ × ℕ = (slab_start (extent_of plan k) (cut_of plan k) s, slab_end (extent_of plan k) (cut_of plan k) s) in
        let h = (answers_iff (shape_check plan ∷ dimension_check plan k ∷ range_check (ltb s (cut_of plan k)) ∷ []) both ends).0 e in
        let below = ltb-true s (cut_of plan k) (not-false (ltb s (cut_of plan k)) h.0.1.1.0) in
        (not-false (in_shape plan) h.0.0, not-false (between 1 plan.d k) h.0.1.0, below, h.1)),
    λ h. rw (h.0, h.1, lt-ltb s (cut_of plan k) h.2) (ap answered h.3),
  )

  pub slab_of_answered : (k element s : ℕ) → (slab_of_answer plan k element ≡ answered s)
      ↔ ((in_shape plan ≡ true) × (between 1 plan.d k ≡ true) × (element < extent_of plan k) × (slab_of (extent_of plan k) (cut_of plan k) element ≡ s))
  unfolding slab_of_answer
  slab_of_answered k element s = (
    (λ e.
        let checks : List Check = shape_check plan ∷ dimension_check plan k ∷ range_check (ltb element (extent_of plan k)) ∷ [] in
        let h = (answers_iff checks (slab_of (extent_of plan k) (cut_of plan k) element) s).0 e in
        let below = ltb-true element (extent_of plan k) (not-false (ltb element (extent_of plan k)) h.0.1.1.0) in
        (not-false (in_shape plan) h.0.0, not-false (between 1 plan.d k) h.0.1.0, below, h.1)),
    λ h. rw (h.0, h.1, lt-ltb element (extent_of plan k) h.2) (ap answered h.3),
  )

  -- an element's slab is s exactly if the element lies between the ends of slab s
  pub slab_iff_elements : (k element s : ℕ) → (slab_of_answer plan k element ≡ answered s)
      ↔ ((ends : ℕ × ℕ) × (slab_answer plan k s ≡ answered ends) × (ends.0 ≤ element) × (element < ends.1))
  slab_iff_elements k element s = (there, back)
    where
      there : slab_of_answer plan k element ≡ answered s → (ends : ℕ × ℕ) × (slab_answer plan k s ≡ answered ends) × (ends.0 ≤ element) × (element < ends.1)
      there e =
          let h = (slab_of_answered k element s).0 e in
          let cut = cut-in_shape k h.0 h.1 in
          let holds = slab_of_holds (extent_of plan k) (cut_of plan k) cut.0 cut.1 element h.2 in
          let below : s < cut_of plan k = subst (λ (n : ℕ). n < cut_of plan k) h.3 holds.0 in
          let inside = (slab_of_iff (extent_of plan k) (cut_of plan k) cut.0 cut.1 s element below h.2).0 h.3 in (
            (slab_start (extent_of plan k) (cut_of plan k) s, slab_end (extent_of plan k) (cut_of plan k) s),
            (slab_answered k s (slab_start (extent_of plan k) (cut_of plan k) s, slab_end (extent_of plan k) (cut_of plan k) s)).1 (h.0, h.1, below, refl),
            inside.0,
            inside.1,
          )

      back : (ends : ℕ × ℕ) × (slab_answer plan k s ≡ answered ends) × (ends.0 ≤ element) × (element < ends.1) → slab_of_answer plan k element ≡ answered s
      back (ends, e, low, high) =
          let h = (slab_answered k s ends).0 e in
          let cut = cut-in_shape k h.0 h.1 in
          let start : slab_start (extent_of plan k) (cut_of plan k) s ≤ element = subst⁻¹ (λ (n : ℕ). n ≤ element) (ap (λ (b : ℕ × ℕ). b.0) h.3) low in
          let end : element < slab_end (extent_of plan k) (cut_of plan k) s = subst⁻¹ (λ (n : ℕ). element < n) (ap (λ (b : ℕ × ℕ). b.1) h.3) high in
          let last = slabs_in_order (extent_of plan k) (cut_of plan k) cut.0 cut.1 (suc s) (cut_of plan k) h.2 (omega arith) in
          let within : element < extent_of plan k = omega (arith, slab_start_last (extent_of plan k) (cut_of plan k) cut.0, last, end) in
          (slab_of_answered k element s).1
          (h.0, h.1, within, (slab_of_iff (extent_of plan k) (cut_of plan k) cut.0 cut.1 s element h.2 within).1 (start, end))

  -- "the first (n modulo b) slabs have one element more than the others" (document 02, request d)
  pub slab_end_answered : (k s : ℕ) (ends : ℕ × ℕ) → slab_answer plan k s ≡ answered ends
      → ends.1 ≡ ends.0 + (extent_of plan k / cut_of plan k + cond (ltb s (extent_of plan k % cut_of plan k)) 1 0)
  slab_end_answered k s ends e =
      subst (λ (x : ℕ × ℕ). x.1 ≡ x.0 + (extent_of plan k / cut_of plan k + cond (ltb s (extent_of plan k % cut_of plan k)) 1 0))
      ((slab_answered k s ends).0 e).3
      (slab_end_is (extent_of plan k) (cut_of plan k) s)

  -- a slab is at least ⌊n / b⌋ thick, no thicker than one before it, and at most one thinner
  pub slab-thicknesses : (k s t : ℕ) (before after : ℕ × ℕ) → s ≤ t → slab_answer plan k s ≡ answered before → slab_answer plan k t ≡ answered after
      → (extent_of plan k / cut_of plan k ≤ after.1 - after.0) × (after.1 - after.0 ≤ before.1 - before.0) × (before.1 - before.0 ≤ after.1 - after.0 + 1)
  slab-thicknesses k s t before after l e f =
      let here : thickness n b s ≡ before.1 - before.0 = ap (λ (x : ℕ × ℕ). x.1 - x.0) ((slab_answered k s before).0 e).3 in
      let there : thickness n b t ≡ after.1 - after.0 = ap (λ (x : ℕ × ℕ). x.1 - x.0) ((slab_answered k t after).0 f).3 in (
        omega (arith, there, thickness_least n b t),
        omega (arith, here, there, thickness_never_rises n b s t l),
        omega (arith, here, there, thickness_differs_by-one n b s t),
      )
    where
      n : ℕ
      n = extent_of plan k

      b : ℕ
      b = cut_of plan k

  -- "Slabs no thinner than the stencil" (document 02, request g): every slab of every plan in shape has at least the least thickness of its dimension
  pub slab_no_thinner : (k s : ℕ) (ends : ℕ × ℕ) → slab_answer plan k s ≡ answered ends → ends.0 + least_thickness plan k ≤ ends.1
  slab_no_thinner k s ends e =
      let h = (slab_answered k s ends).0 e in
      let range = (between-true_iff 1 plan.d k).0 h.1 in
      let rule = ((in_shape_iff plan).0 h.0).least_fits (k - 1) (omega (arith, range.0, range.1)) in
      subst (λ (x : ℕ × ℕ). x.0 + least_thickness plan k ≤ x.1) h.3
      (slab-at_least (extent_of plan k) (cut_of plan k) s (least_thickness plan k) (cut-in_shape k h.0 h.1).0 rule)

  -- ---- owners, neighbours and chains

  pub owner_answered : (x : List ℕ) (q : ℕ)
      → (owner_answer plan x ≡ answered q) ↔ ((in_shape plan ≡ true) × Inside plan.cuts x × (owner_at plan.moduli plan.matrix x ≡ q))
  unfolding owner_answer
  owner_answered x q = (
    (λ e. let h = (answers_iff (shape_check plan ∷ range_check (is_inside plan.cuts x) ∷ []) (owner_at plan.moduli plan.matrix x) q).0 e in
        (not-false (in_shape plan) h.0.0, inside_of_test plan.cuts x (not-false (is_inside plan.cuts x) h.0.1.0), h.1)),
    λ h. rw (h.0, test_of_inside plan.cuts x h.1) (ap answered h.2),
  )

  pub neighbour_answered : (q k : ℕ) (up : Bool) (r : Option ℕ) → (neighbour_answer plan q k up ≡ answered r)
      ↔ ((in_shape plan ≡ true) × (between 1 plan.d k ≡ true) × (q < plan.p) × (neighbour_at plan.cuts plan.moduli plan.matrix (k - 1) up q ≡ r))
  unfolding neighbour_answer
  neighbour_answered q k up r = (
    (λ e.
        let checks : List Check = shape_check plan ∷ dimension_check plan k ∷ range_check (ltb q plan.p) ∷ [] in
        let h = (answers_iff checks (neighbour_at plan.cuts plan.moduli plan.matrix (k - 1) up q) r).0 e in
        let below = ltb-true q plan.p (not-false (ltb q plan.p) h.0.1.1.0) in
        (not-false (in_shape plan) h.0.0, not-false (between 1 plan.d k) h.0.1.0, below, h.1)),
    λ h. rw (h.0, h.1, lt-ltb q plan.p h.2) (ap answered h.3),
  )

  pub chains_answered : (h n : ℕ) (heads nexts : List ℕ) → chains_answer plan h n ≡ answered (heads, nexts)
      → (in_shape plan ≡ true) × (heads_of (tile_owner plan) (tiles_of plan) plan.p ≡ heads) × (nexts_of (tile_owner plan) (tiles_of plan) ≡ nexts)
  unfolding chains_answer
  chains_answered h n heads nexts e =
      let asked = (answers_iff {A = List ℕ × List ℕ} (chain_checks plan h n) (heads_of (tile_owner plan) (tiles_of plan) plan.p, nexts_of (tile_owner plan) (tiles_of plan)) (heads, nexts)).0 e in
      (not-false (in_shape plan) asked.0.0, ap (λ (b : List ℕ × List ℕ). b.0) asked.1, ap (λ (b : List ℕ × List ℕ). b.1) asked.1)

  -- from a processor's place in the first list the second leads through some numbers, rising, and ends; a number is one of them exactly if it is
  -- the number of a tile and the processor owns that tile
  pub chain_iff_owner : (h n : ℕ) (heads nexts : List ℕ) → chains_answer plan h n ≡ answered (heads, nexts) → (q : ℕ) → q < plan.p
      → (tiles : List ℕ) × Chain nexts (get_or heads q 0) tiles × Rising 1 tiles
      × ((t : ℕ) → Memᴰ t tiles ↔ ((x : List ℕ) × (position_answer plan t ≡ answered x) × (owner_answer plan x ≡ answered q)))
  chain_iff_owner h n heads nexts e q l = (
    owned,
    subst (λ (next : List ℕ). Chain next (get_or heads q 0) owned) lists.2
        (subst (λ (head : List ℕ). Chain (nexts_of (tile_owner plan) (tiles_of plan)) (get_or head q 0) owned) lists.1
        (chain_of (tile_owner plan) q (tiles_of plan) plan.p l)),
    chain_rises (tile_owner plan) q (tiles_of plan),
    λ t. (there t, back t),
  )
    where
      owned : List ℕ
      owned = tiles_owned (tile_owner plan) q 1 (tiles_of plan)

      lists : (in_shape plan ≡ true) × (heads_of (tile_owner plan) (tiles_of plan) plan.p ≡ heads) × (nexts_of (tile_owner plan) (tiles_of plan) ≡ nexts)
      lists = chains_answered h n heads nexts e

      there : (t : ℕ) → Memᴰ t owned → (x : List ℕ) × (position_answer plan t ≡ answered x) × (owner_answer plan x ≡ answered q)
      there t on =
          let h = (owned_iff (tile_owner plan) q t 1 (tiles_of plan)).0 on in
          let high : t ≤ tiles_of plan = omega (arith, h.1) in (
            position_of plan.cuts t,
            (position_answered t (position_of plan.cuts t)).1 (lists.0, (h.0, high), refl),
            (owner_answered (position_of plan.cuts t) q).1 (lists.0, position_inside plan.cuts t h.0 high, h.2),
          )

      back : (t : ℕ) → (x : List ℕ) × (position_answer plan t ≡ answered x) × (owner_answer plan x ≡ answered q) → Memᴰ t owned
      back t (x, f, a) =
          let place = (position_answered t x).0 f in
          let owner : tile_owner plan t ≡ owner_at plan.moduli plan.matrix x = ap (owner_at plan.moduli plan.matrix) place.2 in
          (owned_iff (tile_owner plan) q t 1 (tiles_of plan)).1
          (place.1.0, omega (arith, place.1.1), owner ∙ ((owner_answered x q).0 a).2)
