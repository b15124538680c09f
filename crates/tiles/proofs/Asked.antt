-- What the questions answer once `Slabs::of` or `Plan::lent` has turned them back, and once it has passed them.
use mathlib.Core.Path.{◌≡◌, refl, ap, ◌∙◌}
use mathlib.Core.Bool.{Bool, true, false}
use mathlib.Core.List.{List, [], ◌∷◌}
use Prim.Native.Nat.{ℕ, ◌-◌}
use lib.Dec.{ltb}
use Rattle.multipartition.specs.Answers.{answered, refused, Check, checked}
use Rattle.multipartition.specs.Plans.{tiles_of, between}
use Rattle.multipartition.specs.Slabs.{slab_start, slab_end, slab_of}
use Rattle.multipartition.specs.Tiles.{is_inside, tile_number, position_of, one_step_on}
use Rattle.multipartition.specs.Questions.{extent_of, cut_of, shape_check, dimension_check, range_check, slab_answer, slab_of_answer, number_answer, step_answer, position_answer}
use Rattle.refusals.proofs.Laws.{turned_back-on, passed-on}
use Rattle.layout.specs.declared.Plan.{Plan}
use Rattle.layout.specs.Plans.{layout_of}
use Rattle.layout.specs.Checked.{axis_checks, shape_answer}
use Rattle.tiles.specs.Answers.{slabs_answer}

-- ---- slabs

module _ (plan : Plan) (k s : ℕ) where
  abbrev n : ℕ
  n = extent_of (layout_of plan) k

  abbrev b : ℕ
  b = cut_of (layout_of plan) k

  pub slab-turned_back : {number place : ℕ} → refused number place ≡ slabs_answer plan k → refused number place ≡ slab_answer (layout_of plan) k s
  unfolding slab_answer
  slab-turned_back e = turned_back-on (axis_checks plan k) (range_check (ltb s b) ∷ []) (n, b) (answered (slab_start n b s, slab_end n b s)) e

  pub slab_of-turned_back : {number place : ℕ} → refused number place ≡ slabs_answer plan k → refused number place ≡ slab_of_answer (layout_of plan) k s
  unfolding slab_of_answer
  slab_of-turned_back e = turned_back-on (axis_checks plan k) (range_check (ltb s n) ∷ []) (n, b) (answered (slab_of n b s)) e

  module _ (extent cut : ℕ) (e : answered (extent, cut) ≡ slabs_answer plan k) where
    pub slab_passed : slab_answer (layout_of plan) k s ≡ checked (range_check (ltb s cut) ∷ []) (answered (slab_start extent cut s, slab_end extent cut s))
    unfolding slab_answer
    slab_passed =
        let h = passed-on (axis_checks plan k) (range_check (ltb s b) ∷ []) (n, b) (extent, cut) (answered (slab_start n b s, slab_end n b s)) e in
        let extent_is : extent ≡ n = ap (λ (ends : ℕ × ℕ). ends.0) h.0 in
        let cut_is : cut ≡ b = ap (λ (ends : ℕ × ℕ). ends.1) h.0 in
        rw (extent_is, cut_is) h.1

    pub slab_of_passed : slab_of_answer (layout_of plan) k s ≡ checked (range_check (ltb s extent) ∷ []) (answered (slab_of extent cut s))
    unfolding slab_of_answer
    slab_of_passed =
        let h = passed-on (axis_checks plan k) (range_check (ltb s n) ∷ []) (n, b) (extent, cut) (answered (slab_of n b s)) e in
        let extent_is : extent ≡ n = ap (λ (ends : ℕ × ℕ). ends.0) h.0 in
        let cut_is : cut ≡ b = ap (λ (ends : ℕ × ℕ). ends.1) h.0 in
        rw (extent_is, cut_is) h.1

-- ---- positions

module _ (plan : Plan) (position : List ℕ) where
  abbrev inside : List Check
  inside = range_check (is_inside (layout_of plan).cuts position) ∷ []

  pub number-turned_back : {number place : ℕ} → refused number place ≡ shape_answer plan → refused number place ≡ number_answer (layout_of plan) position
  unfolding number_answer
  number-turned_back e = turned_back-on (shape_check (layout_of plan) ∷ []) inside plan (answered (tile_number (layout_of plan).cuts position)) e

  pub number_passed : (shaped : Plan) → answered shaped ≡ shape_answer plan
      → number_answer (layout_of plan) position
      ≡ checked (range_check (is_inside (layout_of shaped).cuts position) ∷ []) (answered (tile_number (layout_of shaped).cuts position))
  unfolding number_answer
  number_passed shaped e =
      let h = passed-on (shape_check (layout_of plan) ∷ []) inside plan shaped (answered (tile_number (layout_of plan).cuts position)) e in
      rw h.0 h.1

  module _ (k : ℕ) (up : Bool) where
    -- the checks behind that of the shape
    abbrev stepped : List Check
    stepped = dimension_check (layout_of plan) k ∷ inside

    pub step-turned_back : {number place : ℕ} → refused number place ≡ shape_answer plan → refused number place ≡ step_answer (layout_of plan) position k up
    unfolding step_answer
    step-turned_back e = turned_back-on (shape_check (layout_of plan) ∷ []) stepped plan (answered (one_step_on (layout_of plan).cuts (k - 1) up position)) e

    module _ (shaped : Plan) (e : answered shaped ≡ shape_answer plan) where
      pub step_no-dimension : between 1 (layout_of plan).d k ≡ false → step_answer (layout_of plan) position k up ≡ refused 7 0
      unfolding step_answer
      step_no-dimension outside =
          (passed-on (shape_check (layout_of plan) ∷ []) stepped plan shaped (answered (one_step_on (layout_of plan).cuts (k - 1) up position)) e).1 ∙ rw outside refl

      pub step_passed : between 1 (layout_of plan).d k ≡ true
          → step_answer (layout_of plan) position k up
          ≡ checked (range_check (is_inside (layout_of shaped).cuts position) ∷ []) (answered (one_step_on (layout_of shaped).cuts (k - 1) up position))
      unfolding step_answer
      step_passed within =
          let h = passed-on (shape_check (layout_of plan) ∷ []) stepped plan shaped (answered (one_step_on (layout_of plan).cuts (k - 1) up position)) e in
          h.1 ∙ rw (within, h.0) refl

module _ (plan : Plan) (tile : ℕ) where
  abbrev numbered : List Check
  numbered = range_check (between 1 (tiles_of (layout_of plan)) tile) ∷ []

  pub position-turned_back : {number place : ℕ} → refused number place ≡ shape_answer plan → refused number place ≡ position_answer (layout_of plan) tile
  unfolding position_answer
  position-turned_back e = turned_back-on (shape_check (layout_of plan) ∷ []) numbered plan (answered (position_of (layout_of plan).cuts tile)) e

  pub position_passed : (shaped : Plan) → answered shaped ≡ shape_answer plan
      → position_answer (layout_of plan) tile
      ≡ checked (range_check (between 1 (tiles_of (layout_of shaped)) tile) ∷ []) (answered (position_of (layout_of shaped).cuts tile))
  unfolding position_answer
  position_passed shaped e =
      let h = passed-on (shape_check (layout_of plan) ∷ []) numbered plan shaped (answered (position_of (layout_of plan).cuts tile)) e in
      rw h.0 h.1

-- a plan that is lent in shape is the plan
pub shaped_same : (plan shaped : Plan) → answered shaped ≡ shape_answer plan → shaped ≡ plan
shaped_same plan shaped e = (passed-on (shape_check (layout_of plan) ∷ []) [] plan shaped (answered plan) e).0
