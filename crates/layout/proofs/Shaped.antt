-- A layout is in shape exactly if its plan is `Shaped`. The checks of a dimension and of a row are turned into bounds and back, and a plan
-- whose dimensions and rows have the bounds is shaped if the two products are right.
use mathlib.Core.Path.{◌≡◌, refl, sym, ◌∙◌}
use mathlib.Core.Bool.{Bool, true, false, not, ◌&&◌}
use mathlib.Core.List.{List}
use mathlib.Core.Logic.{◌↔◌}
use Prim.Native.Nat.{ℕ, ◌+◌, ◌*◌, ◌^◌, ◌≤◌, ◌<◌}
use native.Mathlib.Nat.{le_trans}
use native.Mathlib.Omega.{arith}
use lib.Dec.{leb, ltb, eqb}
use lib.ListN.{length, get_or, take}
use borrow.Author.Tests.{not-true, not-false, leb-true, eqb-true, le-leb, eq-eqb}
use Rattle.numbers.specs.Products.{product}
use Rattle.multipartition.specs.Lists.{all_below}
use Rattle.multipartition.specs.Plans.{between, dimension_ok, least_ok, in_shape, InShape}
use Rattle.multipartition.proofs.Plans.{dimension_iff, least_ok_iff, in_shape_iff}
use Rattle.multipartition.proofs.Tests.{and-true_iff, and_iff, all_iff, ltb_iff, between-true_iff}
use Rattle.layout.specs.declared.Plan.{Plan}
use Rattle.layout.specs.Plans.{layout_of}
use Rattle.layout.specs.Shaped.{entry_of, row_fits, place_fits, Ranges, Factors, Shaped}
use Rattle.layout.proofs.Lists.{both, le-length, all_none, all-add-one, all-at, product-next, product_fits, factor-le}
use Rattle.layout.proofs.Places.{entry_at_lem, extent-at, cut_at, least_at, modulus-at}

-- ---- a place: the checks of its dimension and of its row

abbrev Place : ℕ → List ℕ → List ℕ → List ℕ → List ℕ → List ℕ → ℕ → Type 0
Place d extents cuts moduli matrix least k =
    (((((1 ≤ get_or extents k 0) × (get_or extents k 0 ≤ 1000000)) × ((1 ≤ get_or cuts k 0) × (get_or cuts k 0 ≤ get_or extents k 0))) × (get_or cuts k 0 ≤ 4096))
    × ((1 ≤ get_or least k 0) × (get_or cuts k 0 * get_or least k 0 ≤ get_or extents k 0)))
    × (((1 ≤ get_or moduli k 0) × (get_or moduli k 0 ≤ 4096)) × ((j : ℕ) → j < d → entry_of matrix k j < get_or moduli k 0))

place_iff : (d : ℕ) (extents cuts moduli matrix least : List ℕ) (k : ℕ) → (place_fits d extents cuts moduli matrix least k ≡ true) ↔ Place d extents cuts moduli matrix least k
place_iff d extents cuts moduli matrix least k =
    and_iff (dimension_ok extents cuts k && least_ok extents least cuts k) (row_fits d moduli matrix k)
    (and_iff (dimension_ok extents cuts k) (least_ok extents least cuts k) (dimension_iff extents cuts k) (least_ok_iff extents least cuts k))
    (and_iff (between 1 4096 m) (all_below d (λ j. ltb (entry_of matrix k j) m)) (between-true_iff 1 4096 m)
    (all_iff d (λ j. ltb (entry_of matrix k j) m) (λ j. ltb_iff (entry_of matrix k j) m)))
  where
    m : ℕ
    m = get_or moduli k 0

-- ---- the plan: its layout's facts are those of its own places

module _ (plan : Plan) where
  shaped_of : InShape (layout_of plan) → Shaped plan
  unfolding layout_of
  shaped_of s =
      let moduli_long : plan.d ≤ length plan.moduli = le-length plan.d plan.moduli modulus in
      record {
        d_low = s.d_range.0;
        d_high = s.d_range.1;
        p_low = s.p_range.0;
        p_high = s.p_range.1;
        kind_high = s.kind_high;
        extent_low = λ k l. (extent k l).0;
        extent_high = λ k l. (extent k l).1;
        cut_low = λ k l. (cut k l).0;
        cut_high = λ k l. (cut k l).2;
        cut_fits = λ k l. (cut k l).1;
        least_low = λ k l. rw (least_at plan k l) at (s.least_low k l);
        least_fits = λ k l. rw (extent-at plan k l, cut_at plan k l, least_at plan k l) at (s.least_fits k l);
        tiles_high = s.tiles_high;
        modulus_low = modulus;
        modulus_high = λ i l. rw s.moduli_product at (factor-le plan.moduli plan.d moduli_long modulus i l);
        entry_below = λ i j li lj.
            rw (entry_at_lem plan.d plan.matrix i j li lj, modulus-at plan i li) at (s.entry_below i j li lj);
        moduli_product = s.moduli_product;
        extents_long = le-length plan.d plan.extents (λ k l. (extent k l).0);
        cuts_long = le-length plan.d plan.cuts (λ k l. (cut k l).0);
        moduli_long = moduli_long;
      }
    where
      extent : (k : ℕ) → k < plan.d → (1 ≤ get_or plan.extents k 0) × (get_or plan.extents k 0 ≤ 1000000)
      extent k l = rw (extent-at plan k l) at (s.extent_range k l)

      cut : (k : ℕ) → k < plan.d → (1 ≤ get_or plan.cuts k 0) × (get_or plan.cuts k 0 ≤ get_or plan.extents k 0) × (get_or plan.cuts k 0 ≤ 4096)
      cut k l = rw (extent-at plan k l, cut_at plan k l) at (s.cut_range k l)

      modulus : (i : ℕ) → i < plan.d → 1 ≤ get_or plan.moduli i 0
      modulus i l = rw (modulus-at plan i l) at (s.modulus_low i l)

  in_shape_of_places : Ranges plan.d plan.p plan.kind
      → ((k : ℕ) → k < plan.d → place_fits plan.d plan.extents plan.cuts plan.moduli plan.matrix plan.least k ≡ true)
      → product (take plan.d plan.cuts) ≤ 16777216 → product (take plan.d plan.moduli) ≡ plan.p → InShape (layout_of plan)
  unfolding layout_of
  in_shape_of_places ranges fits tiles moduli =
      record {
        d_range = (ranges.d_low, ranges.d_high);
        p_range = (ranges.p_low, ranges.p_high);
        extent_range = λ k l. rw (extent-at plan k l) (place k l).0.0.0.0;
        cut_range = λ k l. rw (extent-at plan k l, cut_at plan k l) ((place k l).0.0.0.1.0, (place k l).0.0.0.1.1, (place k l).0.0.1);
        tiles_high = tiles;
        modulus_low = λ i l. rw (modulus-at plan i l) (place i l).1.0.0;
        moduli_product = moduli;
        entry_below = λ i j li lj. rw (entry_at_lem plan.d plan.matrix i j li lj, modulus-at plan i li) ((place i li).1.1 j lj);
        kind_high = ranges.kind_high;
        least_low = λ k l. rw (least_at plan k l) (place k l).0.1.0;
        least_fits = λ k l. rw (extent-at plan k l, cut_at plan k l, least_at plan k l) (place k l).0.1.1;
      }
    where
      place : (k : ℕ) → k < plan.d → Place plan.d plan.extents plan.cuts plan.moduli plan.matrix plan.least k
      place k l = (place_iff plan.d plan.extents plan.cuts plan.moduli plan.matrix plan.least k).0 (fits k l)

  pub shaped : in_shape (layout_of plan) ≡ true → Shaped plan
  shaped e = shaped_of ((in_shape_iff (layout_of plan)).0 e)

  -- ---- the checks on a shaped plan

  pub place_of_shaped : Shaped plan → (k : ℕ) → k < plan.d
      → place_fits plan.d plan.extents plan.cuts plan.moduli plan.matrix plan.least k ≡ true
  place_of_shaped s k l =
      (place_iff plan.d plan.extents plan.cuts plan.moduli plan.matrix plan.least k).1 (
        ((((s.extent_low k l, s.extent_high k l), (s.cut_low k l, s.cut_fits k l)), s.cut_high k l), (s.least_low k l, s.least_fits k l)),
        ((s.modulus_low k l, le_trans (s.modulus_high k l) s.p_high), λ j m. s.entry_below k j l m),
      )

  pub in_shape_of_shaped : Shaped plan → in_shape (layout_of plan) ≡ true
  in_shape_of_shaped s =
      (in_shape_iff (layout_of plan)).1
      (in_shape_of_places (record { d_low = s.d_low; d_high = s.d_high; p_low = s.p_low; p_high = s.p_high; kind_high = s.kind_high }) (place_of_shaped s) s.tiles_high s.moduli_product)

-- a test that tells whether the plan is shaped tells whether it is in shape
pub in_shape_if : (plan : Plan) (b : Bool) → (b ≡ true → Shaped plan) → (Shaped plan → b ≡ true) → b ≡ in_shape (layout_of plan)
in_shape_if plan true fwd bwd = sym (in_shape_of_shaped plan (fwd refl))
in_shape_if plan false fwd bwd = go (in_shape (layout_of plan)) refl
  where
    go : (b : Bool) → in_shape (layout_of plan) ≡ b → false ≡ b
    go true e = bwd (shaped plan e)
    go false e = refl

pub not-in_shape : (plan : Plan) → (Shaped plan → ⊥) → false ≡ in_shape (layout_of plan)
not-in_shape plan h = in_shape_if plan false (λ e. let z : ◌≡◌ {A = ℕ} 0 1 = cc in absurd (omega arith)) (λ s. absurd (h s))

-- a check that a shaped plan passes did not
pub failed_check : (plan : Plan) (b t : Bool) → b ≡ t → (Shaped plan → t ≡ true) → not b ≡ true → false ≡ in_shape (layout_of plan)
failed_check plan b t e h n =
    not-in_shape plan (λ s. let clash : false ≡ true = sym (not-true b n) ∙ e ∙ h s in let z : ◌≡◌ {A = ℕ} 0 1 = cc in omega arith)

-- ---- what the loop over the dimensions shows

-- the first n dimensions have passed
module _ (d : ℕ) (extents cuts moduli matrix least : List ℕ) (n : ℕ) (few : n ≤ 5) (h : all_below n (place_fits d extents cuts moduli matrix least) ≡ true) where
  cut_factors : Factors n cuts
  cut_factors =
      record {
        few = few;
        low = λ k l. ((place_iff d extents cuts moduli matrix least k).0 (all-at n _ h k l)).0.0.0.1.0;
        high = λ k l. ((place_iff d extents cuts moduli matrix least k).0 (all-at n _ h k l)).0.0.1;
      }

  modulus_factors : Factors n moduli
  modulus_factors =
      record {
        few = few;
        low = λ i l. ((place_iff d extents cuts moduli matrix least i).0 (all-at n _ h i l)).1.0.0;
        high = λ i l. ((place_iff d extents cuts moduli matrix least i).0 (all-at n _ h i l)).1.0.1;
      }

-- the loop's state at dimension k: those before have passed, and the products are theirs
pub record Passed (d : ℕ) (extents cuts moduli matrix least : List ℕ) (k tiles processors : ℕ) : Type 0 where
  pub places : all_below k (place_fits d extents cuts moduli matrix least) ≡ true
  pub tiles_is : tiles ≡ product (take k cuts)
  pub processors_is : processors ≡ product (take k moduli)

pub passed_none : (d : ℕ) (extents cuts moduli matrix least : List ℕ) → Passed d extents cuts moduli matrix least 0 1 1
passed_none d extents cuts moduli matrix least = record { places = all_none _; tiles_is = refl; processors_is = refl }

module _ (d : ℕ) (extents cuts moduli matrix least : List ℕ) (k tiles processors : ℕ) (few : d ≤ 5) (l : k < d)
    (h : Passed d extents cuts moduli matrix least k tiles processors) (b : Bool) (e : b ≡ place_fits d extents cuts moduli matrix least k) (passes : not b ≡ false) where
  places-next : all_below (k + 1) (place_fits d extents cuts moduli matrix least) ≡ true
  places-next = rw (all-add-one k (place_fits d extents cuts moduli matrix least), h.places, ← e) (not-false b passes)

  within : k < k + 1
  within = omega arith

  cuts_so_far : Factors (k + 1) cuts
  cuts_so_far = cut_factors d extents cuts moduli matrix least (k + 1) (omega arith) places-next

  moduli_so_far : Factors (k + 1) moduli
  moduli_so_far = modulus_factors d extents cuts moduli matrix least (k + 1) (omega arith) places-next

  pub tiles_fit : tiles * get_or cuts k 0 < 2 ^ 64
  tiles_fit = rw h.tiles_is (product_fits cuts (k + 1) k cuts_so_far within)

  pub processors_fit : processors * get_or moduli k 0 < 2 ^ 64
  processors_fit = rw h.processors_is (product_fits moduli (k + 1) k moduli_so_far within)

  pub passed-next : Passed d extents cuts moduli matrix least (k + 1) (tiles * get_or cuts k 0) (processors * get_or moduli k 0)
  passed-next =
      record {
        places = places-next;
        tiles_is = rw h.tiles_is (sym (product-next cuts (k + 1) k cuts_so_far within));
        processors_is = rw h.processors_is (sym (product-next moduli (k + 1) k moduli_so_far within));
      }

-- where all have passed, the two products decide
pub passed_all : (plan : Plan) → Ranges plan.d plan.p plan.kind → (k tiles processors : ℕ) → plan.d ≤ k → k ≤ plan.d
    → Passed plan.d plan.extents plan.cuts plan.moduli plan.matrix plan.least k tiles processors
    → (leb tiles 16777216 && eqb processors plan.p) ≡ in_shape (layout_of plan)
passed_all plan ranges k tiles processors low high h =
    let all : k ≡ plan.d = omega arith in
    let places : all_below plan.d (place_fits plan.d plan.extents plan.cuts plan.moduli plan.matrix plan.least) ≡ true = rw all at h.places in
    let tiles_is : tiles ≡ product (take plan.d plan.cuts) = rw all at h.tiles_is in
    let processors_is : processors ≡ product (take plan.d plan.moduli) = rw all at h.processors_is in
    in_shape_if plan (leb tiles 16777216 && eqb processors plan.p)
    (λ e.
    let t = both (leb tiles 16777216) (eqb processors plan.p) e in
    shaped plan ((in_shape_iff (layout_of plan)).1
    (in_shape_of_places plan ranges (all-at plan.d _ places) (rw tiles_is at (leb-true tiles 16777216 t.0)) (sym processors_is ∙ eqb-true _ _ t.1))))
    (λ s. rw (le-leb tiles 16777216 (rw (← tiles_is) at s.tiles_high)) (eq-eqb _ _ (processors_is ∙ s.moduli_product)))

-- ---- d, p and the kind as one test

pub ranges_iff : (d p kind : ℕ) → (between 2 5 d && between 1 4096 p && leb kind 1 ≡ true) ↔ Ranges d p kind
ranges_iff d p kind = (
  (λ e.
      let two = (and-true_iff (between 2 5 d && between 1 4096 p) (leb kind 1)).0 e in
      let one = (and-true_iff (between 2 5 d) (between 1 4096 p)).0 two.0 in
      let dims = (between-true_iff 2 5 d).0 one.0 in
      let processors = (between-true_iff 1 4096 p).0 one.1 in
      record { d_low = dims.0; d_high = dims.1; p_low = processors.0; p_high = processors.1; kind_high = leb-true _ _ two.1 }),
  λ r.
      (and-true_iff (between 2 5 d && between 1 4096 p) (leb kind 1)).1 (
        (and-true_iff (between 2 5 d) (between 1 4096 p)).1
            ((between-true_iff 2 5 d).1 (r.d_low, r.d_high), (between-true_iff 1 4096 p).1 (r.p_low, r.p_high)),
        le-leb _ _ r.kind_high,
      ),
)

pub ranges_of_shaped : (plan : Plan) → Shaped plan → Ranges plan.d plan.p plan.kind
ranges_of_shaped plan s = record { d_low = s.d_low; d_high = s.d_high; p_low = s.p_low; p_high = s.p_high; kind_high = s.kind_high }
