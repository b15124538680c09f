-- What the loops over thicknesses, elements and lines keep: products of thicknesses stay within those of the extents, and elements within one extent.
use mathlib.Core.Path.{◌≡◌, refl, sym, ap, ap₂, ◌∙◌, subst, subst⁻¹}
use mathlib.Core.List.{List, [], ◌∷◌}
use mathlib.Core.Bool.{false}
use Prim.Native.Nat.{ℕ, zero, suc, ◌+◌, ◌-◌, ◌*◌, ◌≤◌, ◌<◌}
use native.Mathlib.Nat.{not-suc-le-zero, le_of_suc-le-suc, le_refl, mul-le-mul, one-mul, mul-one}
use native.Mathlib.Decide.{ℕ_discrete}
use native.Mathlib.Numerals.{add-one}
use native.Mathlib.Omega.{arith}
use lib.LanesLaws.{map-replicate}
use lib.ListN.{length, get_or, set, take, replicate, length-set, length-replicate, length-map, get_or-map}
use lib.Seq.{get_or-set_same, get_or-set_other, map-set}
use Rattle.numbers.specs.Products.{product}
use Rattle.numbers.specs.Sums.{sum, same}
use Rattle.numbers.proofs.Sums.{same_yes, same_no}
use Rattle.multipartition.specs.Lists.{rest}
use Rattle.multipartition.specs.Rivals.{held}
use Rattle.multipartition.specs.Slabs.{slab_start, thickness}
use Rattle.multipartition.specs.Tiles.{Inside}
use Rattle.multipartition.proofs.GridSums.{held_total}
use Rattle.multipartition.proofs.MixedRadix.{first-at, rest_at}
use Rattle.multipartition.proofs.SlabSums.{slab_sum_total, slab_sum-ext}
use Rattle.multipartition.proofs.Slabs.{slab_start_last, slab_start_rises, slabs_in_order}
use Rattle.layout.specs.declared.Plan.{Plan}
use Rattle.layout.specs.Plans.{layout_of}
use Rattle.layout.specs.Shaped.{Shaped}
use Rattle.layout.proofs.Lists.{product-add-one}
use Rattle.walks.specs.declared.Coordinated.{Coordinated}
use Rattle.walks.specs.declared.Stride.{Stride}
use Rattle.walks.specs.Walks.{Strides, Steps}
use Rattle.timetable.specs.Faces.{thicknesses, face_of, faces_held}
use Rattle.timetable.specs.declared.slab_faces.Tally.{Tally}
use Rattle.timetable.specs.Rows.{steps_on, elements_of, RowTable, one_each, elements_in, tiles_in, no_tally, plus, Fits, Shares}
use Rattle.timetable.proofs.Faces.{Cut, sum-thickness, held_faces}
use Rattle.timetable.proofs.Rows.{length-thicknesses}
use Rattle.timetable.proofs.Walks.{Walk, walk_small, walk_more}

-- ---- products of thicknesses

thickness-at : (extents cuts x : List ℕ) (k : ℕ) → k < length cuts
    → get_or (thicknesses extents cuts x) k 0 ≡ thickness (get_or extents k 0) (get_or cuts k 0) (get_or x k 0)
unfolding thicknesses
thickness-at extents [] x k l = absurd (not-suc-le-zero l)
thickness-at extents (b ∷ cuts) x zero l = ap₂ (λ (n i : ℕ). thickness n b i) (first-at extents) (first-at x)
thickness-at extents (b ∷ cuts) x (suc k) l =
    thickness-at (rest extents) cuts (rest x) k (le_of_suc-le-suc l)
    ∙ ap₂ (λ (n i : ℕ). thickness n (get_or cuts k 0) i) (rest_at extents k) (rest_at x k)

-- a slab is no thicker than its extent
pub thickness-le : (n b s : ℕ) → 1 ≤ b → b ≤ n → s < b → thickness n b s ≤ n
thickness-le n b s low high l = omega (arith, slabs_in_order n b low high (suc s) b l (le_refl b), slab_start_last n b low)

-- no slab is empty
thickness_low : (n b s : ℕ) → 1 ≤ b → b ≤ n → s < b → 1 ≤ thickness n b s
thickness_low n b s low high l = omega (arith, slab_start_rises n b s low high l)

-- b slabs of b elements start one after the other: they rise, from 0 to b
start_at_least : (b s : ℕ) → 1 ≤ b → s ≤ b → s ≤ slab_start b b s
start_at_least b zero low l = omega arith
start_at_least b (suc s) low l = omega (arith, start_at_least b s low (omega arith), slab_start_rises b b s low (le_refl b) l)

start_at_most : (b m s : ℕ) → 1 ≤ b → s + m ≡ b → slab_start b b s + m ≤ b
start_at_most b zero s low e = let last : s ≡ b = omega arith in omega (arith, ap (slab_start b b) last, slab_start_last b b low)
start_at_most b (suc m) s low e = omega (arith, start_at_most b m (suc s) low (omega arith), slab_start_rises b b s low (le_refl b) (omega arith))

pub thickness_of-one : (b s : ℕ) → s < b → thickness b b s ≡ 1
thickness_of-one b s l =
    let low : 1 ≤ b = omega arith in
    omega (
      arith,
      start_at_least b s low (omega arith),
      start_at_most b (b - s) s low (omega arith),
      start_at_least b (suc s) low l,
      start_at_most b (b - suc s) (suc s) low (omega arith),
    )

-- one factor more
pub volume_more : (extents cuts x : List ℕ) (k : ℕ) → k < length cuts
    → product (take (k + 1) (thicknesses extents cuts x)) ≡ product (take k (thicknesses extents cuts x)) * thickness (get_or extents k 0) (get_or cuts k 0) (get_or x k 0)
volume_more extents cuts x k l =
    product-add-one (thicknesses extents cuts x) k (subst⁻¹ (λ (n : ℕ). k < n) (length-thicknesses extents cuts x) l)
    ∙ ap (λ (n : ℕ). product (take k (thicknesses extents cuts x)) * n) (thickness-at extents cuts x k l)

-- a volume is at most the product of the extents, and not 0
pub volume-le : (extents cuts x : List ℕ) (k : ℕ) → k ≤ length cuts → k ≤ length extents
    → ((i : ℕ) → i < k → thickness (get_or extents i 0) (get_or cuts i 0) (get_or x i 0) ≤ get_or extents i 0)
    → product (take k (thicknesses extents cuts x)) ≤ product (take k extents)
volume-le extents cuts x zero l m h = le_refl 1
volume-le extents cuts x (suc k) l m h =
    rw (← add-one k, volume_more extents cuts x k l, product-add-one extents k m)
    (mul-le-mul (volume-le extents cuts x k (omega arith) (omega arith) (λ i n. h i (omega arith))) (h k (omega arith)))

pub volume_low : (extents cuts x : List ℕ) → length extents ≡ length cuts → Cut extents cuts → Inside cuts x → 1 ≤ product (thicknesses extents cuts x)
unfolding thicknesses Inside
volume_low [] [] x e h inside = le_refl 1
volume_low [] (b ∷ cuts) x e h inside = absurd (omega arith)
volume_low (n ∷ extents) [] x e h inside = absurd (omega arith)
volume_low (n ∷ extents) (b ∷ cuts) [] e h inside = absurd inside
volume_low (n ∷ extents) (b ∷ cuts) (i ∷ x) e h inside =
    mul-le-mul (thickness_low n b i (h 0 (omega arith)).0 (h 0 (omega arith)).1 inside.0)
    (volume_low extents cuts x (omega arith) (λ j m. h (suc j) (omega arith)) inside.1)

-- with one element in every slab it is 1, with a dimension left out or not
pub volume_of-ones : (cuts x : List ℕ) → Inside cuts x → product (thicknesses cuts cuts x) ≡ 1
unfolding thicknesses Inside
volume_of-ones [] x h = refl
volume_of-ones (b ∷ cuts) [] h = absurd h
volume_of-ones (b ∷ cuts) (i ∷ x) h = ap₂ ◌*◌ (thickness_of-one b i h.0) (volume_of-ones cuts x h.1)

face_of-ones : (cuts x : List ℕ) (k : ℕ) → Inside cuts x → face_of cuts cuts k x ≡ 1
unfolding face_of thicknesses Inside
face_of-ones [] x k h = refl
face_of-ones (b ∷ cuts) [] k h = absurd h
face_of-ones (b ∷ cuts) (i ∷ x) zero h = volume_of-ones cuts x h.1
face_of-ones (b ∷ cuts) (i ∷ x) (suc k) h = ap₂ ◌*◌ (thickness_of-one b i h.0) (face_of-ones cuts x k h.1)

-- then faces are tiles
pub faces_are_tiles : (cuts : List ℕ) (owner : List ℕ → ℕ) (k v q : ℕ) → v < get_or cuts k 0 → faces_held cuts cuts owner k v q ≡ held cuts owner k v q
faces_are_tiles cuts owner k v q l =
    held_faces cuts cuts owner k v q l
    ∙ slab_sum-ext k v cuts (λ x. same (owner x) q * face_of cuts cuts k x) (λ x. same (owner x) q) l
    (λ x w. ap (λ (n : ℕ). same (owner x) q * n) (face_of-ones cuts x k w) ∙ mul-one (same (owner x) q))
    ∙ sym (slab_sum_total k v cuts (λ x. same (owner x) q) l)
    ∙ sym (held_total cuts owner k v q)

-- ---- elements

same-mul-le : (x y n : ℕ) → same x y * n ≤ n
same-mul-le x y n = go (ℕ_discrete x y)
  where
    go : Dec (x ≡ y) → same x y * n ≤ n
    go (yes e) = subst⁻¹ (λ (m : ℕ). m * n ≤ n) (same_yes x y e) (omega arith)
    go (no f) = subst⁻¹ (λ (m : ℕ). m * n ≤ n) (same_no x y f) (omega arith)

entry-le : (moduli : List ℕ) (matrix : List (List ℕ)) (j n b q m o : ℕ) → elements_of moduli matrix j n b q m o ≤ sum m (thickness n b)
unfolding sum
entry-le moduli matrix j n b q zero o = le_refl 0
entry-le moduli matrix j n b q (suc m) o =
    omega (arith, entry-le moduli matrix j n b q m o, same-mul-le (steps_on moduli matrix j false m q) o (thickness n b m))

-- with one slab more an entry is at most the extent
entry_fits : (moduli : List ℕ) (matrix : List (List ℕ)) (j n b q m o : ℕ) → 1 ≤ b → b ≤ n → m < b
    → elements_of moduli matrix j n b q m o + thickness n b m ≤ n
entry_fits moduli matrix j n b q m o low high l =
    omega (
      arith,
      entry-le moduli matrix j n b q m o,
      sum-thickness n b m low high (omega arith),
      slab_start_rises n b m low high l,
      slabs_in_order n b low high (suc m) b l (le_refl b),
      slab_start_last n b low,
    )

module _ (plan : Plan) (j q : ℕ) where
  zeros : (n o : ℕ) → get_or {A = ℕ} (replicate n 0) o 0 ≡ 0
  zeros zero o = refl
  zeros (suc n) zero = refl
  zeros (suc n) (suc o) = zeros n o

  table_none : RowTable plan j q 0 (replicate 4096 0)
  unfolding sum
  table_none = record { places = length-replicate {A = ℕ} 4096 0; entry = λ o l. zeros 4096 o }

  table_more : (m o t : ℕ) (table : List ℕ) → o ≡ steps_on (layout_of plan).moduli (layout_of plan).matrix j false m q → o < 4096
      → t ≡ thickness (get_or plan.extents j 0) (get_or plan.cuts j 0) m → RowTable plan j q m table
      → RowTable plan j q (m + 1) (set table o (get_or table o 0 + t))
  unfolding sum
  table_more m o t table e l et w = record {
    places = length-set table o (get_or table o 0 + t) ∙ w.places;
    entry = λ a h. subst⁻¹ (λ (n : ℕ). get_or (set table o (get_or table o 0 + t)) a 0 ≡ elements n a) (add-one m) (go a h (ℕ_discrete o a));
  }
    where
      elements : ℕ → ℕ → ℕ
      elements = elements_of (layout_of plan).moduli (layout_of plan).matrix j (get_or plan.extents j 0) (get_or plan.cuts j 0) q

      step : ℕ
      step = thickness (get_or plan.extents j 0) (get_or plan.cuts j 0) m

      go : (a : ℕ) → a < 4096 → Dec (o ≡ a) → get_or (set table o (get_or table o 0 + t)) a 0 ≡ elements m a + same (steps_on (layout_of plan).moduli (layout_of plan).matrix j false m q) a * step
      go a h (yes z) =
          ap (λ (n : ℕ). get_or (set table o (get_or table o 0 + t)) n 0) (sym z)
          ∙ get_or-set_same table o (get_or table o 0 + t) 0 (subst⁻¹ (λ (n : ℕ). o < n) w.places l)
          ∙ ap₂ ◌+◌ (ap (λ (n : ℕ). get_or table n 0) z ∙ w.entry a h)
          (et ∙ sym (one-mul step) ∙ ap (λ (n : ℕ). n * step) (sym (same_yes (steps_on (layout_of plan).moduli (layout_of plan).matrix j false m q) a (sym e ∙ z))))
      go a h (no f) =
          get_or-set_other table o a (get_or table o 0 + t) 0 (λ z. f (sym z))
          ∙ w.entry a h
          ∙ nothing (elements m a)
          ∙ ap (λ (n : ℕ). elements m a + n * step) (sym (same_no (steps_on (layout_of plan).moduli (layout_of plan).matrix j false m q) a (λ z. f (e ∙ z))))
        where
          nothing : (n : ℕ) → n ≡ n + 0 * step
          nothing n = omega arith

-- ---- a table of counts: the elements with one element in every slab

module _ (plan : Plan) (j q m o : ℕ) (table : List ℕ) (small : o < 4096) (more : m < get_or plan.cuts j 0) where
  counted_fits : RowTable (one_each plan) j q m table → get_or table o 0 + 1 ≤ get_or plan.cuts j 0
  unfolding one_each
  counted_fits w =
      omega (
        arith,
        w.entry o small,
        entry_fits (layout_of (one_each plan)).moduli (layout_of (one_each plan)).matrix j (get_or plan.cuts j 0) (get_or plan.cuts j 0) q m o (omega arith) (le_refl _) more,
        thickness_of-one (get_or plan.cuts j 0) m more,
      )

  counted_more : o ≡ steps_on (layout_of plan).moduli (layout_of plan).matrix j false m q → RowTable (one_each plan) j q m table
      → RowTable (one_each plan) j q (m + 1) (set table o (get_or table o 0 + 1))
  unfolding one_each layout_of
  counted_more e w = table_more (one_each plan) j q m o 1 table e small (sym (thickness_of-one (get_or plan.cuts j 0) m more)) w

-- ---- the table as it is filled

-- a tally of two zeros
pub nothing : (tally : Tally) → (tally.elements ≡ 0) × (tally.tiles ≡ 0) → tally ≡ no_tally
nothing tally e = ap₂ (λ (m n : ℕ). record { elements = m; tiles = n }) e.0 e.1

pub shares_none : (plan : Plan) (j q : ℕ) → Shares plan j q 0 (replicate 4096 no_tally)
shares_none plan j q = record {
  elements = subst⁻¹ (RowTable plan j q 0) (map-replicate (λ tally. tally.elements) 4096 no_tally) (table_none plan j q);
  tiles = subst⁻¹ (RowTable (one_each plan) j q 0) (map-replicate (λ tally. tally.tiles) 4096 no_tally) (table_none (one_each plan) j q);
}

-- the walk down from q with the table of the first t slabs
pub record Sharing (plan : Plan) (j q t : ℕ) (table : List Tally) (at : Coordinated) : Type 0 where
  pub walk : Walk plan j false q t at
  pub shares : Shares plan j q t table

-- one turn: n elements in b slabs along the row, and slab t's share
module _ (plan : Plan) (s : Shaped plan) (j : ℕ) (lj : j < plan.d) (q t : ℕ) (table : List Tally) (at : Coordinated) (w : Sharing plan j q t table at)
    (n b : ℕ) (en : n ≡ get_or plan.extents j 0) (eb : b ≡ get_or plan.cuts j 0) (below : t < b)
    (thick : ℕ) (e : thick ≡ thickness n b t) where
  l : t < get_or plan.cuts j 0
  l = subst (λ (m : ℕ). t < m) eb below

  small : at.number < 4096
  small = walk_small plan s j lj false q t at w.walk

  pub within_table : at.number < length table
  within_table = subst⁻¹ (λ (n : ℕ). at.number < n) (sym (length-map table (λ tally. tally.elements)) ∙ w.shares.elements.places) small

  side : thick ≡ thickness (get_or plan.extents j 0) (get_or plan.cuts j 0) t
  side = e ∙ ap₂ (λ (m n : ℕ). thickness m n t) en eb

  abbrev share : Tally
  share = record { elements = thick; tiles = 1 }

  pub share_fits : Fits (plus (get_or table at.number no_tally) share)
  share_fits = record {
    elements =
        omega (
          arith,
          side,
          get_or-map (λ tally. tally.elements) table at.number no_tally,
          w.shares.elements.entry at.number small,
          entry_fits (layout_of plan).moduli (layout_of plan).matrix j (get_or plan.extents j 0) (get_or plan.cuts j 0) q t at.number (s.cut_low j lj) (s.cut_fits j lj) l,
          s.extent_high j lj,
        );
    tiles =
        omega (
          arith,
          get_or-map (λ tally. tally.tiles) table at.number no_tally,
          counted_fits plan j q t at.number (tiles_in table) small l w.shares.tiles,
          s.cut_high j lj,
        );
  }

  pub sharing_more : (sum : Tally) → sum ≡ plus (get_or table at.number no_tally) share → (down : Stride) (to : Coordinated) → Strides plan j false down → Steps down at to
      → Sharing plan j q (t + 1) (set table at.number sum) to
  sharing_more sum es down to strides steps = record {
    walk = walk_more plan s j lj false q t at w.walk down to strides steps;
    shares = record {
      elements =
          subst⁻¹ (RowTable plan j q (t + 1)) columns.0
          (table_more plan j q t at.number thick (elements_in table) w.walk.stands.number_is small side w.shares.elements);
      tiles =
          subst⁻¹ (RowTable (one_each plan) j q (t + 1)) columns.1
          (counted_more plan j q t at.number (tiles_in table) small l w.walk.stands.number_is w.shares.tiles);
    };
  }
    where
      columns : (elements_in (set table at.number sum) ≡ set (elements_in table) at.number (get_or (elements_in table) at.number 0 + thick))
          × (tiles_in (set table at.number sum) ≡ set (tiles_in table) at.number (get_or (tiles_in table) at.number 0 + 1))
      columns = (
        map-set (λ tally. tally.elements) table at.number sum
            ∙ ap (λ (n : ℕ). set (elements_in table) at.number n)
            (ap (λ (a : Tally). a.elements) es ∙ ap (λ (n : ℕ). n + thick) (sym (get_or-map (λ tally. tally.elements) table at.number no_tally))),
        map-set (λ tally. tally.tiles) table at.number sum
            ∙ ap (λ (n : ℕ). set (tiles_in table) at.number n)
            (ap (λ (a : Tally). a.tiles) es ∙ ap (λ (n : ℕ). n + 1) (sym (get_or-map (λ tally. tally.tiles) table at.number no_tally))),
      )
