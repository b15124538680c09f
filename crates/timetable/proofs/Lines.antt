-- What the loops over lines keep, and one line of a slab as the functions put it together.
use mathlib.Core.Path.{◌≡◌, refl, sym, ap, ap₂, ◌∙◌, subst, subst⁻¹}
use mathlib.Core.Bool.{true}
use mathlib.Core.List.{List}
use Prim.Native.Nat.{ℕ, ◌+◌, ◌*◌, ◌≤◌, ◌<◌}
use native.Mathlib.Nat.{le_trans, mul-le-mul_right, one-mul}
use native.Mathlib.Decide.{ℕ_discrete}
use native.Mathlib.Omega.{arith}
use lib.ListN.{length, get_or, set, take, get_or-map}
use lib.Seq.{get_or-take, take-take, take-set-lt, take-length, length-take-le, get_or-set_same, get_or-set_other, ext_get_or}
use Rattle.numbers.specs.Products.{product}
use Rattle.numbers.specs.Sums.{sum}
use Rattle.numbers.proofs.Sums.{sum-add-one, sum_front-le, sum_term-le}
use Rattle.multipartition.specs.Owners.{owner_at}
use Rattle.multipartition.specs.Slabs.{thickness}
use Rattle.multipartition.specs.Tiles.{Inside}
use Rattle.multipartition.proofs.Tiles.{inside_below}
use Rattle.layout.specs.declared.Plan.{Plan}
use Rattle.layout.specs.Plans.{layout_of}
use Rattle.layout.specs.Shaped.{Shaped}
use Rattle.layout.proofs.Lists.{product_front}
use Rattle.layout.proofs.Places.{extents_length, cuts_length, extent-at, cut_at}
use Rattle.questions.specs.Bounds.{Small}
use Rattle.walks.specs.declared.Coordinated.{Coordinated}
use Rattle.walks.specs.declared.Stride.{Stride}
use Rattle.walks.specs.Walks.{Strides, Steps}
use Rattle.timetable.specs.Faces.{thicknesses}
use Rattle.timetable.specs.declared.slab_faces.Tally.{Tally}
use Rattle.timetable.specs.Rows.{places_of, steps_on, line_of, slab_line, HasPlaces, BelowCuts, LineAsked, one_each, elements_in, tiles_in, no_tally, plus, thick, Fits, line_tally, tally_of_line, tally_of_lines}
use Rattle.timetable.proofs.Grids.{shaped-one_each, layout_cut, same_lengths, line_inside}
use Rattle.timetable.proofs.Rows.{length-thicknesses, length_places}
use Rattle.timetable.proofs.Walks.{Walk, walk_more}
use Rattle.timetable.proofs.Tables.{thickness-le, thickness_of-one, volume_more, volume-le, volume_low, volume_of-ones}

-- ---- the volume of a tile

module _ (grid : Plan) (s : Shaped grid) (at : List ℕ) (w : BelowCuts grid at) (fits : product (take grid.d grid.extents) ≤ 4294967295) where
  abbrev pub sides : List ℕ
  sides = thicknesses (layout_of grid).extents (layout_of grid).cuts (take grid.d at)

  side-at : (i : ℕ) → i < grid.d → thickness (get_or (layout_of grid).extents i 0) (get_or (layout_of grid).cuts i 0) (get_or (take grid.d at) i 0)
      ≡ thickness (get_or grid.extents i 0) (get_or grid.cuts i 0) (get_or at i 0)
  side-at i l = rw (extent-at grid i l, cut_at grid i l, get_or-take grid.d at i 0 l)

  pub sides_more : (i : ℕ) → i < grid.d
      → product (take (i + 1) sides) ≡ product (take i sides) * thickness (get_or grid.extents i 0) (get_or grid.cuts i 0) (get_or at i 0)
  sides_more i l =
      volume_more (layout_of grid).extents (layout_of grid).cuts (take grid.d at) i (subst⁻¹ (λ (n : ℕ). i < n) (cuts_length grid s) l)
      ∙ ap (λ (n : ℕ). product (take i sides) * n) (side-at i l)

  pub sides_fit : (i : ℕ) → i ≤ grid.d → product (take i sides) ≤ 4294967295
  unfolding layout_of
  sides_fit i l =
      le_trans
      (volume-le (layout_of grid).extents (layout_of grid).cuts (take grid.d at) i (subst⁻¹ (λ (n : ℕ). i ≤ n) (cuts_length grid s) l)
      (subst⁻¹ (λ (n : ℕ). i ≤ n) (extents_length grid s) l) each)
      (subst⁻¹ (λ (xs : List ℕ). product xs ≤ 4294967295) (take-take i grid.d grid.extents l)
      (le_trans (product_front grid.extents grid.d s.extents_long s.extent_low i l) fits))
    where
      each : (j : ℕ) → j < i
          → thickness (get_or (layout_of grid).extents j 0) (get_or (layout_of grid).cuts j 0) (get_or (take grid.d at) j 0) ≤ get_or (layout_of grid).extents j 0
      each j m =
          let h : j < grid.d = omega arith in
          subst⁻¹ (λ (n : ℕ). n ≤ get_or (layout_of grid).extents j 0) (side-at j h)
          (subst⁻¹ (λ (n : ℕ). thickness (get_or grid.extents j 0) (get_or grid.cuts j 0) (get_or at j 0) ≤ n) (extent-at grid j h)
          (thickness-le (get_or grid.extents j 0) (get_or grid.cuts j 0) (get_or at j 0) (s.cut_low j h) (s.cut_fits j h) (w j h)))

  pub sides_all : product (take grid.d sides) ≡ product sides
  sides_all = ap product (ap (λ (n : ℕ). take n sides) (sym long) ∙ take-length sides)
    where
      long : length sides ≡ grid.d
      long = length-thicknesses (layout_of grid).extents (layout_of grid).cuts (take grid.d at) ∙ cuts_length grid s

-- ---- along a line

module _ (grid : Plan) (c : ℕ) (table : List ℕ) (o t : ℕ) where
  abbrev here : ℕ
  here = steps_on (layout_of grid).moduli (layout_of grid).matrix c true t o

  line_more : line_of grid c table (t + 1) o ≡ line_of grid c table t o + thickness (get_or grid.extents c 0) (get_or grid.cuts c 0) t * get_or table here 0
  line_more = sum-add-one t (λ u. thickness (get_or grid.extents c 0) (get_or grid.cuts c 0) u * get_or table (steps_on (layout_of grid).moduli (layout_of grid).matrix c true u o) 0)

  -- one slab more stays within the whole line
  line_within : t < get_or grid.cuts c 0 → line_of grid c table (t + 1) o ≤ line_of grid c table (get_or grid.cuts c 0) o
  line_within l =
      sum_front-le (t + 1) (get_or grid.cuts c 0)
      (λ u. thickness (get_or grid.extents c 0) (get_or grid.cuts c 0) u * get_or table (steps_on (layout_of grid).moduli (layout_of grid).matrix c true u o) 0) (omega arith)

-- with one element in every slab the line counts
count_more : (grid : Plan) (c : ℕ) (table : List ℕ) (o t : ℕ) → t < get_or grid.cuts c 0
    → line_of (one_each grid) c table (t + 1) o ≡ line_of (one_each grid) c table t o + get_or table (steps_on (layout_of grid).moduli (layout_of grid).matrix c true t o) 0
unfolding one_each layout_of
count_more grid c table o t l =
    line_more (one_each grid) c table o t
    ∙ ap (λ (n : ℕ). line_of (one_each grid) c table t o + n)
    (ap (λ (n : ℕ). n * get_or table (steps_on (layout_of grid).moduli (layout_of grid).matrix c true t o) 0) (thickness_of-one (get_or grid.cuts c 0) t l)
    ∙ one-mul (get_or table (steps_on (layout_of grid).moduli (layout_of grid).matrix c true t o) 0))

-- the columns of one of a table's tallies
element-at : (table : List Tally) (o : ℕ) → get_or (elements_in table) o 0 ≡ (get_or table o no_tally).elements
element-at table o = get_or-map (λ tally. tally.elements) table o no_tally

tile-at : (table : List Tally) (o : ℕ) → get_or (tiles_in table) o 0 ≡ (get_or table o no_tally).tiles
tile-at table o = get_or-map (λ tally. tally.tiles) table o no_tally

-- the walk along a line with the tally of its first t slabs
pub record Walked (grid : Plan) (c : ℕ) (table : List Tally) (o t : ℕ) (at : Coordinated) (tally : Tally) : Type 0 where
  pub walk : Walk grid c true o t at
  pub tally_is : tally ≡ line_tally grid c table t o

pub walked_none : (grid : Plan) (c : ℕ) (table : List Tally) (o : ℕ) (from : Coordinated) (tally : Tally) → tally ≡ no_tally → Walk grid c true o 0 from
    → Walked grid c table o 0 from tally
unfolding sum
walked_none grid c table o from tally e w = record { walk = w; tally_is = e }

-- one turn: n elements in b slabs along the line, the thickness of slab t, and what the row has, so thick
module _ (grid : Plan) (s : Shaped grid) (c : ℕ) (lc : c < grid.d) (table : List Tally) (o t : ℕ) (at : Coordinated) (tally : Tally)
    (w : Walked grid c table o t at tally) (n b : ℕ) (en : n ≡ get_or grid.extents c 0) (eb : b ≡ get_or grid.cuts c 0) (l : t < b)
    (side : ℕ) (e : side ≡ thickness n b t) where
  abbrev row : Tally
  row = get_or table at.number no_tally

  below : t < get_or grid.cuts c 0
  below = subst (λ (m : ℕ). t < m) eb l

  elements_more : tally.elements + side * row.elements ≡ line_of grid c (elements_in table) (t + 1) o
  elements_more =
      ap (λ (n : ℕ). tally.elements + side * n) (sym (element-at table at.number))
      ∙ ap₂ (λ (m n : ℕ). tally.elements + m * get_or (elements_in table) n 0) (e ∙ ap₂ (λ (m n : ℕ). thickness m n t) en eb) w.walk.stands.number_is
      ∙ ap (λ (a : Tally). a.elements + thickness (get_or grid.extents c 0) (get_or grid.cuts c 0) t * get_or (elements_in table) (steps_on (layout_of grid).moduli (layout_of grid).matrix c true t o) 0) w.tally_is
      ∙ sym (line_more grid c (elements_in table) o t)

  tiles_more : tally.tiles + row.tiles ≡ line_of (one_each grid) c (tiles_in table) (t + 1) o
  tiles_more =
      ap (λ (n : ℕ). tally.tiles + n) (sym (tile-at table at.number))
      ∙ ap₂ (λ (m n : ℕ). m + get_or (tiles_in table) n 0) (ap (λ (a : Tally). a.tiles) w.tally_is) w.walk.stands.number_is
      ∙ sym (count_more grid c (tiles_in table) o t below)

  more_is : plus tally (thick side row) ≡ line_tally grid c table (t + 1) o
  more_is = ap₂ (λ (m n : ℕ). record { elements = m; tiles = n }) elements_more tiles_more

  module _ (fits : Fits (line_tally grid c table (get_or grid.cuts c 0) o)) where
    more_fits : Fits (line_tally grid c table (t + 1) o)
    unfolding one_each
    more_fits = record {
      elements = le_trans (line_within grid c (elements_in table) o t below) fits.elements;
      tiles = le_trans (line_within (one_each grid) c (tiles_in table) o t below) fits.tiles;
    }

    pub row_fits : Fits (thick side row)
    row_fits = record { elements = omega (arith, elements_more, more_fits.elements); tiles = omega (arith, tiles_more, more_fits.tiles) }

    pub sum_fits : (term : Tally) → term ≡ thick side row → Fits (plus tally term)
    sum_fits term et = subst⁻¹ Fits (ap (plus tally) et ∙ more_is) more_fits

  pub walked_more : (term next : Tally) → term ≡ thick side row → next ≡ plus tally term → (up : Stride) (to : Coordinated) → Strides grid c true up → Steps up at to
      → Walked grid c table o (t + 1) to next
  walked_more term next et en up to strides steps = record {
    walk = walk_more grid s c lc true o t at w.walk up to strides steps;
    tally_is = en ∙ ap (plus tally) et ∙ more_is;
  }

-- ---- the first tile of a line, in five places

module _ (flat : Plan) (s : Shaped flat) (r : ℕ) (at : List ℕ) (long : length at ≡ 5) (placed : HasPlaces flat r at) where
  pub first_within : BelowCuts flat at
  first_within i l =
      subst⁻¹ (λ (n : ℕ). n < get_or flat.cuts i 0) (placed i l)
      (subst (λ (n : ℕ). get_or (places_of (layout_of flat).cuts r) i 0 < n) (cut_at flat i l)
      (inside_below (layout_of flat).cuts (places_of (layout_of flat).cuts r) (line_inside flat s r) i (subst⁻¹ (λ (n : ℕ). i < n) (cuts_length flat s) l)))

  first_is : take flat.d at ≡ places_of (layout_of flat).cuts r
  first_is =
      ext_get_or 0 (take flat.d at) (places_of (layout_of flat).cuts r)
      (length-take-le flat.d at (omega (arith, long, s.d_high)) ∙ sym (length_places (layout_of flat).cuts r ∙ cuts_length flat s))
      (λ i l. let m : i < flat.d = omega (arith, length-take-le flat.d at (omega (arith, long, s.d_high))) in get_or-take flat.d at i 0 m ∙ placed i m)

  module _ (k v : ℕ) where
    pub first_small : v < 4096 → k < flat.d → Small flat.d (set at k v)
    first_small lv lk = record { few = s.d_high; below = λ i l. go i l (ℕ_discrete i k) }
      where
        go : (i : ℕ) → i < flat.d → Dec (i ≡ k) → get_or (set at k v) i 0 < 4096
        go i l (yes z) =
            subst⁻¹ (λ (n : ℕ). n < 4096) (ap (λ (n : ℕ). get_or (set at k v) n 0) z ∙ get_or-set_same at k v 0 (omega (arith, long, s.d_high))) lv
        go i l (no f) = subst⁻¹ (λ (n : ℕ). n < 4096) (get_or-set_other at k i v 0 f) (le_trans (first_within i l) (s.cut_high i l))

    first_raised : k < flat.d → take flat.d (set at k v) ≡ set (places_of (layout_of flat).cuts r) k v
    first_raised lk = take-set-lt flat.d at k v lk ∙ ap (λ (x : List ℕ). set x k v) first_is

    -- ---- the line, with the owner of its first tile

    module _ (grid : Plan) (same_d : flat.d ≡ grid.d) (lk : k < grid.d) (c o : ℕ)
        (owns : o ≡ owner_at (layout_of grid).moduli (layout_of grid).matrix (take grid.d (set at k v))) where
      owner_is : o ≡ owner_at (layout_of grid).moduli (layout_of grid).matrix (set (places_of (layout_of flat).cuts r) k v)
      owner_is =
          owns
          ∙ ap (owner_at (layout_of grid).moduli (layout_of grid).matrix)
          (ap (λ (d : ℕ). take d (set at k v)) (sym same_d) ∙ first_raised (subst⁻¹ (λ (d : ℕ). k < d) same_d lk))

      pub line_is : (table : List ℕ) (shared line : ℕ)
          → shared ≡ product (thicknesses (layout_of flat).extents (layout_of flat).cuts (take flat.d at))
          → line ≡ line_of grid c table (get_or grid.cuts c 0) o → shared * line ≡ slab_line grid flat c k v table r
      line_is table shared line es el =
          ap₂ ◌*◌ (es ∙ ap (λ (x : List ℕ). product (thicknesses (layout_of flat).extents (layout_of flat).cuts x)) first_is)
          (el ∙ ap (line_of grid c table (get_or grid.cuts c 0)) owner_is)

      -- the line is at most its faces, as a volume is not 0
      pub line_fits : (table : List ℕ) → slab_line grid flat c k v table r ≤ 4294967295 → line_of grid c table (get_or grid.cuts c 0) o ≤ 4294967295
      line_fits table fits =
          le_trans (subst (λ (n : ℕ). n ≤ volume * line) (one-mul line) (mul-le-mul_right line low)) (subst⁻¹ (λ (n : ℕ). n ≤ 4294967295) whole fits)
        where
          line : ℕ
          line = line_of grid c table (get_or grid.cuts c 0) o

          volume : ℕ
          volume = product (thicknesses (layout_of flat).extents (layout_of flat).cuts (places_of (layout_of flat).cuts r))

          low : 1 ≤ volume
          low = volume_low (layout_of flat).extents (layout_of flat).cuts _ (same_lengths flat s) (layout_cut flat s) (line_inside flat s r)

          whole : volume * line ≡ slab_line grid flat c k v table r
          whole = ap (λ (n : ℕ). volume * line_of grid c table (get_or grid.cuts c 0) n) owner_is

-- the same with one element in every slab, where a line is its tiles, and of a tally
module _ (flat : Plan) (s : Shaped flat) (r : ℕ) (at : List ℕ) (long : length at ≡ 5) (placed : HasPlaces flat r at) (k v : ℕ)
    (grid : Plan) (same_d : flat.d ≡ grid.d) (lk : k < grid.d) (c o : ℕ)
    (owns : o ≡ owner_at (layout_of grid).moduli (layout_of grid).matrix (take grid.d (set at k v))) where
  count_is : (table : List ℕ) → line_of (one_each grid) c table (get_or grid.cuts c 0) o ≡ slab_line (one_each grid) (one_each flat) c k v table r
  unfolding one_each layout_of
  count_is table =
      sym (one-mul _)
      ∙ line_is (one_each flat) (shaped-one_each flat s) r at long placed k v (one_each grid) same_d lk c o owns table 1 _
      (sym (volume_of-ones (layout_of flat).cuts (take flat.d at)
      (subst⁻¹ (Inside (layout_of flat).cuts) (first_is flat s r at long placed) (line_inside flat s r)))) refl

  pub tally_is : (table : List Tally) (shared : ℕ) (line : Tally) → shared ≡ product (thicknesses (layout_of flat).extents (layout_of flat).cuts (take flat.d at))
      → line ≡ line_tally grid c table (get_or grid.cuts c 0) o → thick shared line ≡ tally_of_line grid flat c k v table r
  tally_is table shared line es el =
      ap₂ (λ (m n : ℕ). record { elements = m; tiles = n })
      (line_is flat s r at long placed k v grid same_d lk c o owns (elements_in table) shared line.elements es (ap (λ (a : Tally). a.elements) el))
      (ap (λ (a : Tally). a.tiles) el ∙ count_is (tiles_in table))

  pub line_asked : (table : List Tally) → Fits (tally_of_line grid flat c k v table r) → o < grid.p → LineAsked grid c table o
  line_asked table fits lo = record {
    processor = lo;
    fits = record {
      elements = line_fits flat s r at long placed k v grid same_d lk c o owns (elements_in table) fits.elements;
      tiles = subst⁻¹ (λ (n : ℕ). n ≤ 4294967295) (count_is (tiles_in table)) fits.tiles;
    };
  }

-- ---- the lines of a slab, one after the other

module _ (grid flat : Plan) (c k v : ℕ) (table : List Tally) (n : ℕ) (fits : Fits (tally_of_lines grid flat c k v table n)) (r : ℕ) (l : r < n) where
  -- where their sum fits, each does
  pub one_of_lines : Fits (tally_of_line grid flat c k v table r)
  one_of_lines = record {
    elements = le_trans (sum_term-le n r (slab_line grid flat c k v (elements_in table)) l) fits.elements;
    tiles = le_trans (sum_term-le n r (slab_line (one_each grid) (one_each flat) c k v (tiles_in table)) l) fits.tiles;
  }

  -- and so does the sum of the first
  lines_more : plus (tally_of_lines grid flat c k v table r) (tally_of_line grid flat c k v table r) ≡ tally_of_lines grid flat c k v table (r + 1)
  lines_more =
      ap₂ (λ (a b : ℕ). record { elements = a; tiles = b }) (sym (sum-add-one r (slab_line grid flat c k v (elements_in table))))
      (sym (sum-add-one r (slab_line (one_each grid) (one_each flat) c k v (tiles_in table))))

  module _ (tally line : Tally) (e : tally ≡ tally_of_lines grid flat c k v table r) (el : line ≡ tally_of_line grid flat c k v table r) where
    pub lines_next : plus tally line ≡ tally_of_lines grid flat c k v table (r + 1)
    lines_next = ap₂ plus e el ∙ lines_more

    pub lines_fit : Fits (plus tally line)
    lines_fit =
        subst⁻¹ Fits lines_next (record {
          elements = le_trans (sum_front-le (r + 1) n (slab_line grid flat c k v (elements_in table)) (omega arith)) fits.elements;
          tiles = le_trans (sum_front-le (r + 1) n (slab_line (one_each grid) (one_each flat) c k v (tiles_in table)) (omega arith)) fits.tiles;
        })
