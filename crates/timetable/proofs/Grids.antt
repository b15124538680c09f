-- Plans by value: what the functions of the timetable need of their lists. A grid that is flat in some dimensions is a plan in shape, and so is the
-- plan with one element in every slab; the lines of the flat grid have the processor's faces, and those of the other its tiles.
use mathlib.Core.Path.{◌≡◌, sym, ap, ap₂, ◌∙◌, subst, subst⁻¹}
use mathlib.Core.Logic.{◌≢◌}
use mathlib.Core.List.{List}
use Prim.Native.Nat.{ℕ, ◌+◌, ◌-◌, ◌*◌, ◌≤◌, ◌<◌}
use native.Mathlib.Nat.{le_refl, le_trans, mul-le-mul_right, one-mul, mul-one}
use native.Mathlib.Decide.{ℕ_discrete}
use native.Mathlib.Omega.{arith}
use lib.ListN.{length, get_or, set, take, replicate, length-set, get_or-replicate}
use lib.Seq.{get_or-take, take-set-lt, length-take-le, get_or-set_same, get_or-set_other}
use Rattle.std.specs.List.{All}
use Rattle.std.proofs.lemmas.List.Elements.{All-from_get_or}
use Rattle.numbers.specs.Products.{product, without}
use Rattle.numbers.specs.Sums.{sum}
use Rattle.numbers.proofs.Products.{product-without}
use Rattle.numbers.proofs.Sums.{sum_term-le}
use Rattle.multipartition.specs.Questions.{owner_by}
use Rattle.multipartition.specs.Tiles.{Inside}
use Rattle.multipartition.proofs.MixedRadix.{positive_of_places}
use Rattle.layout.specs.declared.Plan.{Plan}
use Rattle.layout.specs.Plans.{layout_of}
use Rattle.layout.specs.Shaped.{Shaped}
use Rattle.layout.proofs.Lists.{le-length}
use Rattle.layout.proofs.Places.{extents_length, cuts_length, extent-at, cut_at}
use Rattle.layout.proofs.Shaped.{in_shape_of_shaped}
use Rattle.timetable.specs.Faces.{faces_held}
use Rattle.timetable.specs.Timetable.{other_extents}
use Rattle.timetable.specs.Rows.{places_of, elements_of, RowTable, line_in, slab_line, flattened, one_each}
use Rattle.timetable.proofs.Faces.{Cut, held_faces-add_up}
use Rattle.timetable.proofs.Rows.{flat, product-set, places_inside}
use Rattle.timetable.proofs.Steps.{faces_of_lines}
use Rattle.multipartition.proofs.Plans.{in_shape_owner_below}

-- ---- a list with 1 in one place

-- what holds of 1 and of the list's numbers holds of its numbers
one_at : (P : ℕ → Type 0) (xs : List ℕ) (k i : ℕ) → k < length xs → P 1 → P (get_or xs i 0) → P (get_or (set xs k 1) i 0)
one_at P xs k i l one other = go (ℕ_discrete i k)
  where
    go : Dec (i ≡ k) → P (get_or (set xs k 1) i 0)
    go (yes z) = subst⁻¹ P (ap (λ (n : ℕ). get_or (set xs k 1) n 0) z ∙ get_or-set_same xs k 1 0 l) one
    go (no f) = subst⁻¹ P (get_or-set_other xs k i 1 0 f) other

product-flat : (d : ℕ) (xs : List ℕ) (k : ℕ) → k < d → d ≤ length xs → product (take d (set xs k 1)) ≡ product (without k (take d xs))
product-flat d xs k l long =
    ap product (take-set-lt d xs k 1 l)
    ∙ product-set (take d xs) k 1 (subst⁻¹ (λ (n : ℕ). k < n) (length-take-le d xs long) l)
    ∙ one-mul (product (without k (take d xs)))

-- a factor of 1 makes no product larger
product-flat-le : (d : ℕ) (xs : List ℕ) (k : ℕ) → k < d → d ≤ length xs → 1 ≤ get_or xs k 0 → product (take d (set xs k 1)) ≤ product (take d xs)
product-flat-le d xs k l long low =
    rw (product-flat d xs k l long, product-without k (take d xs) (subst⁻¹ (λ (n : ℕ). k < n) (length-take-le d xs long) l))
    (subst (λ (n : ℕ). n ≤ get_or (take d xs) k 0 * product (without k (take d xs))) (one-mul (product (without k (take d xs))))
    (mul-le-mul_right (product (without k (take d xs))) (subst⁻¹ (λ (n : ℕ). 1 ≤ n) (get_or-take d xs k 0 l) low)))

-- the first d numbers, none of them 0
pub front_positive : (d : ℕ) (xs : List ℕ) → d ≤ length xs → ((i : ℕ) → i < d → 1 ≤ get_or xs i 0) → All (λ n. 1 ≤ n) (take d xs)
front_positive d xs long low =
    All-from_get_or (λ n. 1 ≤ n) (take d xs) 0
    (λ i l. let m : i < d = subst (λ (n : ℕ). i < n) (length-take-le d xs long) l in subst⁻¹ (λ (n : ℕ). 1 ≤ n) (get_or-take d xs i 0 m) (low i m))

module _ (plan : Plan) (k : ℕ) (s : Shaped plan) (lk : k < plan.d) where
  in_extents : k < length plan.extents
  in_extents = omega (arith, s.extents_long)

  in_cuts : k < length plan.cuts
  in_cuts = omega (arith, s.cuts_long)

  in_least : k < length plan.least
  in_least = omega (arith, le-length plan.d plan.least s.least_low)

  extent-one_low : (i : ℕ) → i < plan.d → 1 ≤ get_or (set plan.extents k 1) i 0
  extent-one_low i l = one_at (λ n. 1 ≤ n) plan.extents k i in_extents (le_refl 1) (s.extent_low i l)

  extent-one_high : (i : ℕ) → i < plan.d → get_or (set plan.extents k 1) i 0 ≤ 1000000
  extent-one_high i l = one_at (λ n. n ≤ 1000000) plan.extents k i in_extents (omega arith) (s.extent_high i l)

  extents-one_long : plan.d ≤ length (set plan.extents k 1)
  extents-one_long = subst⁻¹ (λ (n : ℕ). plan.d ≤ n) (length-set plan.extents k 1) s.extents_long

  -- the other extents, of which none is 0
  pub others_positive : All (λ extent. 1 ≤ extent) (take plan.d (set plan.extents k 1))
  others_positive = front_positive plan.d (set plan.extents k 1) extents-one_long extent-one_low

  pub other_extents-flat : product (take plan.d (set plan.extents k 1)) ≡ other_extents (layout_of plan) (k + 1)
  unfolding layout_of
  other_extents-flat =
      product-flat plan.d plan.extents k lk s.extents_long
      ∙ ap (λ (n : ℕ). product (without n (take plan.d plan.extents))) place
    where
      place : k ≡ k + 1 - 1
      place = omega arith

  -- ---- the plan with dimension k flat

  pub shaped-flat : Shaped (flattened k plan)
  unfolding flattened
  shaped-flat = record {
    d_low = s.d_low;
    d_high = s.d_high;
    p_low = s.p_low;
    p_high = s.p_high;
    kind_high = s.kind_high;
    extent_low = extent-one_low;
    extent_high = extent-one_high;
    cut_low = λ i l. one_at (λ n. 1 ≤ n) plan.cuts k i in_cuts (le_refl 1) (s.cut_low i l);
    cut_high = λ i l. one_at (λ n. n ≤ 4096) plan.cuts k i in_cuts (omega arith) (s.cut_high i l);
    cut_fits = λ i l. fits i l (ℕ_discrete i k);
    least_low = λ i l. one_at (λ n. 1 ≤ n) plan.least k i in_least (le_refl 1) (s.least_low i l);
    least_fits = λ i l. thick i l (ℕ_discrete i k);
    tiles_high = le_trans (product-flat-le plan.d plan.cuts k lk s.cuts_long (s.cut_low k lk)) s.tiles_high;
    modulus_low = s.modulus_low;
    modulus_high = s.modulus_high;
    entry_below = s.entry_below;
    moduli_product = s.moduli_product;
    extents_long = extents-one_long;
    cuts_long = subst⁻¹ (λ (n : ℕ). plan.d ≤ n) (length-set plan.cuts k 1) s.cuts_long;
    moduli_long = s.moduli_long;
  }
    where
      fits : (i : ℕ) → i < plan.d → Dec (i ≡ k) → get_or (set plan.cuts k 1) i 0 ≤ get_or (set plan.extents k 1) i 0
      fits i l (yes z) =
          rw (z, get_or-set_same plan.cuts k 1 0 in_cuts, get_or-set_same plan.extents k 1 0 in_extents) (le_refl 1)
      fits i l (no f) = rw (get_or-set_other plan.cuts k i 1 0 f, get_or-set_other plan.extents k i 1 0 f) (s.cut_fits i l)

      thick : (i : ℕ) → i < plan.d → Dec (i ≡ k) → get_or (set plan.cuts k 1) i 0 * get_or (set plan.least k 1) i 0 ≤ get_or (set plan.extents k 1) i 0
      thick i l (yes z) =
          rw (z, get_or-set_same plan.cuts k 1 0 in_cuts, get_or-set_same plan.least k 1 0 in_least, get_or-set_same plan.extents k 1 0 in_extents) (le_refl 1)
      thick i l (no f) =
          rw (get_or-set_other plan.cuts k i 1 0 f, get_or-set_other plan.least k i 1 0 f, get_or-set_other plan.extents k i 1 0 f) (s.least_fits i l)

  cuts-flat : (layout_of (flattened k plan)).cuts ≡ set (layout_of plan).cuts k 1
  unfolding flattened layout_of
  cuts-flat = take-set-lt plan.d plan.cuts k 1 lk

  extents-flat : (layout_of (flattened k plan)).extents ≡ set (layout_of plan).extents k 1
  unfolding flattened layout_of
  extents-flat = take-set-lt plan.d plan.extents k 1 lk

  -- its extents multiply to no more
  volume-flat-le : product (take plan.d (flattened k plan).extents) ≤ product (take plan.d plan.extents)
  unfolding flattened
  volume-flat-le = product-flat-le plan.d plan.extents k lk s.extents_long (s.extent_low k lk)

-- ---- the plan with one element in every slab

pub shaped-one_each : (plan : Plan) → Shaped plan → Shaped (one_each plan)
unfolding one_each
shaped-one_each plan s = record {
  d_low = s.d_low;
  d_high = s.d_high;
  p_low = s.p_low;
  p_high = s.p_high;
  kind_high = s.kind_high;
  extent_low = s.cut_low;
  extent_high = λ i l. le_trans (s.cut_high i l) (omega arith);
  cut_low = s.cut_low;
  cut_high = s.cut_high;
  cut_fits = λ i l. le_refl (get_or plan.cuts i 0);
  least_low = λ i l. subst⁻¹ (λ (n : ℕ). 1 ≤ n) (one i l) (le_refl 1);
  least_fits = λ i l. rw (one i l, mul-one (get_or plan.cuts i 0)) (le_refl (get_or plan.cuts i 0));
  tiles_high = s.tiles_high;
  modulus_low = s.modulus_low;
  modulus_high = s.modulus_high;
  entry_below = s.entry_below;
  moduli_product = s.moduli_product;
  extents_long = s.cuts_long;
  cuts_long = s.cuts_long;
  moduli_long = s.moduli_long;
}
  where
    one : (i : ℕ) → i < plan.d → get_or {A = ℕ} (replicate 5 1) i 0 ≡ 1
    one i l = get_or-replicate 5 i 1 0 (le_trans l s.d_high)

pub one_each_fits : (plan : Plan) (s : Shaped plan) (k : ℕ) → k < plan.d → other_extents (layout_of (one_each plan)) (k + 1) ≤ 4294967295
unfolding one_each
one_each_fits plan s k lk =
    subst (λ (n : ℕ). n ≤ 4294967295) (other_extents-flat (one_each plan) k (shaped-one_each plan s) lk)
    (le_trans (product-flat-le plan.d plan.cuts k lk s.cuts_long (s.cut_low k lk)) (le_trans s.tiles_high (omega arith)))

-- ---- lists of a layout

module _ (plan : Plan) (s : Shaped plan) where
  pub layout_cut : Cut (layout_of plan).extents (layout_of plan).cuts
  layout_cut i l =
      let h : i < plan.d = subst (λ (n : ℕ). i < n) (cuts_length plan s) l in
      rw (cut_at plan i h, extent-at plan i h) (s.cut_low i h, s.cut_fits i h)

  pub same_lengths : length (layout_of plan).extents ≡ length (layout_of plan).cuts
  same_lengths = extents_length plan s ∙ sym (cuts_length plan s)

  in_layout : (i : ℕ) → i < plan.d → i < length (layout_of plan).cuts
  in_layout i l = subst⁻¹ (λ (n : ℕ). i < n) (cuts_length plan s) l

  pub line_inside : (r : ℕ) → Inside (layout_of plan).cuts (places_of (layout_of plan).cuts r)
  line_inside r = places_inside (layout_of plan).cuts r (positive_of_places (layout_of plan).cuts (λ i l. (layout_cut i l).0))

  -- no processor has more than all faces
  pub plan_faces_fit : (k v q : ℕ) → k < plan.d → v < get_or plan.cuts k 0 → q < plan.p
      → faces_held (layout_of plan).extents (layout_of plan).cuts (owner_by (layout_of plan)) k v q ≤ other_extents (layout_of plan) (k + 1)
  unfolding layout_of
  plan_faces_fit k v q lk lv lq =
      subst (λ (n : ℕ). faces_held (layout_of plan).extents (layout_of plan).cuts (owner_by (layout_of plan)) k v q ≤ n)
      (held_faces-add_up (layout_of plan).extents (layout_of plan).cuts (owner_by (layout_of plan)) k plan.p v
      (λ x w. in_shape_owner_below (layout_of plan) (in_shape_of_shaped plan s) x) same_lengths layout_cut (in_layout k lk)
      (subst⁻¹ (λ (n : ℕ). v < n) (cut_at plan k lk) lv)
      ∙ ap (λ (n : ℕ). product (without n (layout_of plan).extents)) at)
      (sum_term-le plan.p q (faces_held (layout_of plan).extents (layout_of plan).cuts (owner_by (layout_of plan)) k v) lq)
    where
      at : k ≡ k + 1 - 1
      at = omega arith

-- ---- the lines of a slab

flat_d : (plan : Plan) (k i : ℕ) → i < plan.d → i < (flattened k plan).d
unfolding flattened
flat_d plan k i l = l

module _ (plan : Plan) (s : Shaped plan) (k j c v q : ℕ) (lk : k < plan.d) (lj : j < plan.d) (lc : c < plan.d) (j-apart : j ≢ k) (c-apart : c ≢ k)
    (lv : v < get_or plan.cuts k 0) (lq : q < plan.p) (table : List ℕ) (w : RowTable plan j q (get_or plan.cuts j 0) table) where
  -- the plan with dimensions k and j flat
  abbrev grid : Plan
  grid = flattened j (flattened k plan)

  once : Shaped (flattened k plan)
  once = shaped-flat plan k s lk

  twice : Shaped (flattened j (flattened k plan))
  twice = shaped-flat (flattened k plan) j once (flat_d plan k j lj)

  in_grid_lem : (i : ℕ) → i < plan.d → i < grid.d
  in_grid_lem i l = flat_d (flattened k plan) j i (flat_d plan k i l)

  grid_cuts : (layout_of grid).cuts ≡ flat k j (layout_of plan).cuts
  grid_cuts = cuts-flat (flattened k plan) j once (flat_d plan k j lj) ∙ ap (λ (l : List ℕ). set l j 1) (cuts-flat plan k s lk)

  grid_extents : (layout_of grid).extents ≡ flat k j (layout_of plan).extents
  grid_extents = extents-flat (flattened k plan) j once (flat_d plan k j lj) ∙ ap (λ (l : List ℕ). set l j 1) (extents-flat plan k s lk)

  -- the lines have q's faces
  pub slab_lines : faces_held (layout_of plan).extents (layout_of plan).cuts (owner_by (layout_of plan)) k v q
      ≡ sum (product (layout_of (flattened c grid)).cuts) (slab_line grid (flattened c grid) c k v table)
  unfolding layout_of flattened
  slab_lines =
      faces_of_lines (layout_of plan) (in_shape_of_shaped plan s) (same_lengths plan s) (cuts_length plan s) k j c v q table (in_layout plan s k lk)
      (in_layout plan s j lj) (in_layout plan s c lc) j-apart c-apart (subst⁻¹ (λ (n : ℕ). v < n) (cut_at plan k lk) lv) lq tabled
      ∙ lines_are
    where
      tabled : (o : ℕ) → o < 4096
          → get_or table o 0 ≡ elements_of (layout_of plan).moduli (layout_of plan).matrix j (get_or (layout_of plan).extents j 0) (get_or (layout_of plan).cuts j 0) q (get_or (layout_of plan).cuts j 0) o
      tabled o l = rw (extent-at plan j lj, cut_at plan j lj) (w.entry o l)

      n_is : get_or (flat k j (layout_of plan).extents) c 0 ≡ get_or grid.extents c 0
      n_is = ap (λ (l : List ℕ). get_or l c 0) (sym grid_extents) ∙ extent-at grid c (in_grid_lem c lc)

      b_is : get_or (flat k j (layout_of plan).cuts) c 0 ≡ get_or grid.cuts c 0
      b_is = ap (λ (l : List ℕ). get_or l c 0) (sym grid_cuts) ∙ cut_at grid c (in_grid_lem c lc)

      extents_are : set (flat k j (layout_of plan).extents) c 1 ≡ (layout_of (flattened c grid)).extents
      extents_are = sym (extents-flat grid c twice (in_grid_lem c lc) ∙ ap (λ (l : List ℕ). set l c 1) grid_extents)

      cuts_are : set (flat k j (layout_of plan).cuts) c 1 ≡ (layout_of (flattened c grid)).cuts
      cuts_are = sym (cuts-flat grid c twice (in_grid_lem c lc) ∙ ap (λ (l : List ℕ). set l c 1) grid_cuts)

      lines_are : sum (product (set (flat k j (layout_of plan).cuts) c 1))
          (line_in (set (flat k j (layout_of plan).extents) c 1) (set (flat k j (layout_of plan).cuts) c 1) (layout_of plan).moduli (layout_of plan).matrix c
          (get_or (flat k j (layout_of plan).extents) c 0) (get_or (flat k j (layout_of plan).cuts) c 0) table k v)
          ≡ sum (product (layout_of (flattened c grid)).cuts) (slab_line grid (flattened c grid) c k v table)
      lines_are =
          ap₂ (λ (n b : ℕ). sum (product (set (flat k j (layout_of plan).cuts) c 1))
          (line_in (set (flat k j (layout_of plan).extents) c 1) (set (flat k j (layout_of plan).cuts) c 1) (layout_of plan).moduli (layout_of plan).matrix c n b table k v)) n_is b_is
          ∙ ap₂ (λ (extents cuts : List ℕ). sum (product cuts)
          (line_in extents cuts (layout_of plan).moduli (layout_of plan).matrix c (get_or grid.extents c 0) (get_or grid.cuts c 0) table k v)) extents_are cuts_are

  -- the flat grid is no larger than a slab
  module _ (fits : other_extents (layout_of plan) (k + 1) ≤ 4294967295) where
    pub volume_fits : product (take (flattened c grid).d (flattened c grid).extents) ≤ 4294967295
    unfolding flattened
    volume_fits =
        le_trans (volume-flat-le grid c twice (in_grid_lem c lc))
        (le_trans (volume-flat-le (flattened k plan) j once (flat_d plan k j lj))
        (subst⁻¹ (λ (n : ℕ). n ≤ 4294967295) (other_extents-flat plan k s lk) fits))
