-- Plans in shape (document 01, "Where each call turns back"). Each has one neighbour in each direction, since its moduli multiply to p and so
-- are not 0. The planner's plans are in shape: their cuts are small because they are minimal, and their moduli multiply to p because they are even.
use mathlib.Core.Path.{◌≡◌, subst, subst⁻¹}
use mathlib.Core.Logic.{◌↔◌, ◌≢◌}
use mathlib.Core.Bool.{Bool, true, not, ◌&&◌}
use mathlib.Core.List.{List}
use mathlib.Core.Option.{some}
use Prim.Native.Nat.{ℕ, zero, ◌*◌, ◌≤◌, ◌<◌}
use native.Mathlib.Omega.{arith}
use lib.Dec.{leb, ltb, eqb}
use lib.ListN.{length, get_or}
use Rattle.numbers.specs.Products.{product}
use Rattle.multipartition.specs.Lists.{all_below}
use Rattle.multipartition.specs.Cuts.{Fits}
use Rattle.multipartition.specs.Moduli.{moduli_of}
use Rattle.multipartition.specs.Owners.{owner_at}
use Rattle.multipartition.specs.Neighbours.{neighbour_at}
use Rattle.multipartition.specs.Tiles.{Inside, one_step_on}
use Rattle.multipartition.specs.Jobs.{InRange, Passed, cheapest_for}
use Rattle.multipartition.specs.Plans.{Job, Layout, layout_with, tiles_of, between, dimension_ok, least_ok, entry_at, row_ok, in_shape, InShape}
use Rattle.multipartition.proofs.Tests.{and_iff, all_iff, leb_iff, ltb_iff, eqb_iff, between-true_iff}
use Rattle.multipartition.proofs.MixedRadix.{Positive}
use Rattle.multipartition.proofs.Tiles.{positive_of-product}
use Rattle.multipartition.proofs.Moduli.{length_moduli, moduli_positive, moduli_product}
use Rattle.multipartition.proofs.Matrix.{matrix_entry_below}
use Rattle.multipartition.proofs.Owners.{owner_below-product}
use Rattle.multipartition.proofs.Neighbours.{neighbour_owns, neighbour-returns, neighbour_injective}
use Rattle.multipartition.proofs.Fitting.{fits_positive, fits-thickness, le-mul_of_pos}
use Rattle.multipartition.proofs.Minimal.{positive-at}
use Rattle.multipartition.proofs.Chosen.{chosen_fits, chosen-length, chosen_even, chosen_cut-le, chosen_tiles-le}

-- ---- in shape

-- the checks of a dimension and of a row
pub dimension_iff : (extents cuts : List ℕ) (k : ℕ) → (dimension_ok extents cuts k ≡ true)
    ↔ ((((1 ≤ get_or extents k 0) × (get_or extents k 0 ≤ 1000000)) × ((1 ≤ get_or cuts k 0) × (get_or cuts k 0 ≤ get_or extents k 0))) × (get_or cuts k 0 ≤ 4096))
dimension_iff extents cuts k =
    and_iff (between 1 1000000 n && between 1 n b) (leb b 4096)
    (and_iff (between 1 1000000 n) (between 1 n b) (between-true_iff 1 1000000 n) (between-true_iff 1 n b)) (leb_iff b 4096)
  where
    n : ℕ
    n = get_or extents k 0

    b : ℕ
    b = get_or cuts k 0

pub least_ok_iff : (extents least cuts : List ℕ) (k : ℕ) → (least_ok extents least cuts k ≡ true)
    ↔ ((1 ≤ get_or least k 0) × (get_or cuts k 0 * get_or least k 0 ≤ get_or extents k 0))
least_ok_iff extents least cuts k =
    and_iff (leb 1 (get_or least k 0)) (leb (get_or cuts k 0 * get_or least k 0) (get_or extents k 0)) (leb_iff 1 (get_or least k 0))
    (leb_iff (get_or cuts k 0 * get_or least k 0) (get_or extents k 0))

row_iff : (d : ℕ) (moduli : List ℕ) (matrix : List (List ℕ)) (i : ℕ) → (row_ok d moduli matrix i ≡ true)
    ↔ ((1 ≤ get_or moduli i 0) × ((j : ℕ) → j < d → entry_at matrix i j < get_or moduli i 0))
row_iff d moduli matrix i =
    and_iff (leb 1 (get_or moduli i 0)) (all_below d (λ j. ltb (entry_at matrix i j) (get_or moduli i 0))) (leb_iff 1 (get_or moduli i 0))
    (all_iff d (λ j. ltb (entry_at matrix i j) (get_or moduli i 0)) (λ j. ltb_iff (entry_at matrix i j) (get_or moduli i 0)))

-- the test decides the facts
pub in_shape_iff : (plan : Layout) → (in_shape plan ≡ true) ↔ InShape plan
unfolding in_shape
in_shape_iff plan =
    let D : Bool = between 2 5 plan.d in
    let P : Bool = between 1 4096 plan.p in
    let C : Bool = all_below plan.d (dimension_ok plan.extents plan.cuts) in
    let T : Bool = leb (tiles_of plan) 16777216 in
    let R : Bool = all_below plan.d (row_ok plan.d plan.moduli plan.matrix) in
    let ranges = and_iff D P (between-true_iff 2 5 plan.d) (between-true_iff 1 4096 plan.p) in
    let dimensions = and_iff (D && P) C ranges (all_iff plan.d (dimension_ok plan.extents plan.cuts) (dimension_iff plan.extents plan.cuts)) in
    let tiles = and_iff (D && P && C) T dimensions (leb_iff (tiles_of plan) 16777216) in
    let rows = and_iff (D && P && C && T) R tiles
    (all_iff plan.d (row_ok plan.d plan.moduli plan.matrix) (row_iff plan.d plan.moduli plan.matrix)) in
    let M : Bool = eqb (product plan.moduli) plan.p in
    let moduli = and_iff (D && P && C && T && R) M rows (eqb_iff (product plan.moduli) plan.p) in
    let K : Bool = leb plan.kind 1 in
    let kinds = and_iff (D && P && C && T && R && M) K moduli (leb_iff plan.kind 1) in
    let all = and_iff (D && P && C && T && R && M && K) (all_below plan.d (least_ok plan.extents plan.least plan.cuts)) kinds
    (all_iff plan.d (least_ok plan.extents plan.least plan.cuts) (least_ok_iff plan.extents plan.least plan.cuts)) in (
      (λ e. let h = all.0 e in
          record {
            d_range = h.0.0.0.0.0.0.0;
            p_range = h.0.0.0.0.0.0.1;
            extent_range = λ k l. (h.0.0.0.0.0.1 k l).0.0;
            cut_range = λ k l. let cut = h.0.0.0.0.0.1 k l in (cut.0.1.0, cut.0.1.1, cut.1);
            tiles_high = h.0.0.0.0.1;
            modulus_low = λ i l. (h.0.0.0.1 i l).0;
            moduli_product = h.0.0.1;
            entry_below = λ i j l m. (h.0.0.0.1 i l).1 j m;
            kind_high = h.0.1;
            least_low = λ k l. (h.1 k l).0;
            least_fits = λ k l. (h.1 k l).1;
          }),
      λ s. all.1 (
        (
          (
            (
              (
                ((s.d_range, s.p_range), λ k l. ((s.extent_range k l, ((s.cut_range k l).0, (s.cut_range k l).1)), (s.cut_range k l).2)),
                s.tiles_high,
              ),
              λ i l. (s.modulus_low i l, λ j m. s.entry_below i j l m),
            ),
            s.moduli_product,
          ),
          s.kind_high,
        ),
        λ k l. (s.least_low k l, s.least_fits k l),
      ),
    )

-- ---- any plan in shape

module _ (plan : Layout) (shape : in_shape plan ≡ true) where
  -- "the moduli multiply to p", and p is not 0
  pub moduli-checked : (1 ≤ plan.p) × (product plan.moduli ≡ plan.p)
  moduli-checked = let s = (in_shape_iff plan).0 shape in (s.p_range.0, s.moduli_product)

  -- so no modulus is 0
  pub in_shape_moduli_positive : Positive plan.moduli
  in_shape_moduli_positive = positive_of-product plan.moduli (subst⁻¹ (λ (n : ℕ). zero < n) moduli-checked.1 moduli-checked.0)

  -- every owner is a processor
  pub in_shape_owner_below : (x : List ℕ) → owner_at plan.moduli plan.matrix x < plan.p
  in_shape_owner_below x =
      subst (λ (n : ℕ). owner_at plan.moduli plan.matrix x < n) moduli-checked.1
      (owner_below-product plan.moduli plan.matrix x in_shape_moduli_positive)

  processor_below : (q : ℕ) → q < plan.p → q < product plan.moduli
  processor_below q l = subst⁻¹ (λ (n : ℕ). q < n) moduli-checked.1 l

  module _ (k : ℕ) (up : Bool) where
    -- "Where the tile one step up or down along k from a tile of processor q is inside the grid, its owner is the neighbour question's answer"
    pub in_shape_neighbour_owns : (x y : List ℕ) → k < length plan.cuts → Inside plan.cuts x → one_step_on plan.cuts k up x ≡ some y
        → neighbour_at plan.cuts plan.moduli plan.matrix k up (owner_at plan.moduli plan.matrix x) ≡ some (owner_at plan.moduli plan.matrix y)
    in_shape_neighbour_owns = neighbour_owns plan.cuts plan.moduli plan.matrix in_shape_moduli_positive k up

    -- up then down comes back
    pub in_shape_neighbour-returns : (q r : ℕ) → q < plan.p → neighbour_at plan.cuts plan.moduli plan.matrix k up q ≡ some r
        → neighbour_at plan.cuts plan.moduli plan.matrix k (not up) r ≡ some q
    in_shape_neighbour-returns q r l =
        neighbour-returns plan.cuts plan.moduli plan.matrix in_shape_moduli_positive k up q r (processor_below q l)

    -- along a cut dimension different processors have different neighbours
    pub in_shape_neighbour_injective : (q r : ℕ) → get_or plan.cuts k 0 ≢ 1 → q < plan.p → r < plan.p → q ≢ r
        → neighbour_at plan.cuts plan.moduli plan.matrix k up q ≢ neighbour_at plan.cuts plan.moduli plan.matrix k up r
    in_shape_neighbour_injective q r cut lq lr =
        neighbour_injective plan.cuts plan.moduli plan.matrix in_shape_moduli_positive k up q r cut (processor_below q lq) (processor_below r lr)

-- ---- the planner's plans

-- The planner's plan is in shape.
pub layout-in_shape : (job : Job) (cuts : List ℕ) → Passed job → cheapest_for job ≡ some cuts → in_shape (layout_with job cuts) ≡ true
layout-in_shape job cuts passed e =
    (in_shape_iff (layout_with job cuts)).1
    (record {
      d_range = (omega (arith, passed.extents_many, range.d_low), omega (arith, passed.extents_many, range.d_high));
      p_range = (range.p_low, range.p_high);
      extent_range = λ k l. (range.extent_low k (extent k l), range.extent_high k (extent k l));
      cut_range = λ k l. (
        positive-at cuts (fits_positive job.extents job.least cuts fits) k (inside k l),
        le-mul_of_pos (get_or cuts k 0) (get_or job.least k 0) (get_or job.extents k 0) (thick k l) (fits-thickness job.extents job.least cuts fits k (inside k l)),
        chosen_cut-le job passed cuts e k (inside k l),
      );
      tiles_high = chosen_tiles-le job passed cuts e;
      modulus_low = λ i l.
          positive-at (moduli_of job.p cuts) (moduli_positive job.p cuts range.p_low) i
          (subst⁻¹ (λ (n : ℕ). i < n) (length_moduli job.p cuts) (inside i l));
      moduli_product = moduli_product job.p cuts (omega (arith, same_length, range.d_low)) (chosen_even job passed cuts e);
      entry_below = λ i j l m. matrix_entry_below job.p cuts range.p_low i j (inside i l);
      kind_high = omega arith;
      least_low = thick;
      least_fits = λ k l. fits-thickness job.extents job.least cuts fits k (inside k l);
    })
  where
    range : InRange job.p job.extents
    range = passed.range

    fits : Fits job.extents job.least cuts
    fits = chosen_fits job passed cuts e

    thick : (k : ℕ) → k < job.d → 1 ≤ get_or job.least k 0
    thick k l = passed.least_low k (subst⁻¹ (λ (n : ℕ). k < n) passed.least_many l)

    same_length : length cuts ≡ length job.extents
    same_length = chosen-length job passed cuts e

    extent : (k : ℕ) → k < job.d → k < length job.extents
    extent k l = subst⁻¹ (λ (n : ℕ). k < n) passed.extents_many l

    inside : (k : ℕ) → k < job.d → k < length cuts
    inside k l = subst⁻¹ (λ (n : ℕ). k < n) same_length (extent k l)
