-- A processor's faces and tiles in a slab, from the plans that the functions make: one with dimension k flat, then with j, then with c.
use mathlib.Core.Path.{◌≡◌, refl, sym, ap, ap₂, ◌∙◌, subst, subst⁻¹}
use mathlib.Core.Logic.{◌≢◌}
use mathlib.Core.List.{List, ◌∷◌}
use Prim.Native.Nat.{ℕ, zero, suc, ◌+◌, ◌≤◌, ◌<◌}
use native.Mathlib.Nat.{le_trans}
use native.Mathlib.Omega.{arith}
use lib.ListN.{get_or, set, take, replicate, length-map}
use Rattle.numbers.specs.Products.{product}
use Rattle.numbers.specs.Sums.{sum}
use Rattle.multipartition.specs.Questions.{owner_by}
use Rattle.multipartition.specs.Rivals.{held}
use Rattle.layout.specs.declared.Plan.{Plan}
use Rattle.layout.specs.Plans.{layout_of}
use Rattle.layout.specs.Shaped.{Shaped}
use Rattle.layout.proofs.Places.{cut_at}
use Rattle.timetable.specs.Faces.{faces_held}
use Rattle.timetable.specs.Timetable.{other_extents}
use Rattle.timetable.specs.declared.slab_faces.Tally.{Tally}
use Rattle.timetable.specs.Rows.{RowTable, slab_line, SlabAsked, flattened, one_each, elements_in, tiles_in, Shares, tally_of_lines, tally_held}
use Rattle.timetable.proofs.Grids.{shaped-one_each, one_each_fits, plan_faces_fit, slab_lines, volume_fits}
use Rattle.timetable.proofs.Tables.{faces_are_tiles}

-- a number set in a list of that number alone
set-replicate : (n k x : ℕ) → set (replicate n x) k x ≡ replicate n x
set-replicate zero k x = refl
set-replicate (suc n) zero x = refl
set-replicate (suc n) (suc k) x = ap (λ (l : List ℕ). x ∷ l) (set-replicate n k x)

-- the flat grids of the plan with one element in every slab
one_each-flat : (plan : Plan) (k : ℕ) → flattened k (one_each plan) ≡ one_each (flattened k plan)
unfolding flattened one_each
one_each-flat plan k = rw (set-replicate 5 k 1)

-- a dimension of the plan is one of the plan with another flat
pub once_d : (plan row once : Plan) (k j : ℕ) → row ≡ plan → once ≡ flattened k plan → j < row.d → j < once.d
unfolding flattened
once_d plan row once k j e f l = subst⁻¹ (λ (p : Plan). j < p.d) f (subst (λ (p : Plan). j < p.d) e l)

flat_d : (plan once grid : Plan) (k j c : ℕ) → once ≡ flattened k plan → grid ≡ flattened j once → c < grid.d → c < plan.d
unfolding flattened
flat_d plan once grid k j c e f l = subst (λ (g : Plan). c < g.d) (f ∙ ap (flattened j) e) l

module _ (plan : Plan) (s : Shaped plan) (k v q : ℕ) (lk : k < plan.d) (lv : v < get_or plan.cuts k 0) (lq : q < plan.p)
    (j : ℕ) (lj : j < plan.d) (j-apart : j ≢ k) (once grid : Plan) (e-once : once ≡ flattened k plan) (e-grid : grid ≡ flattened j once)
    (c : ℕ) (lc : c < grid.d) (c-apart : c ≢ k) (flat : Plan) (e-flat : flat ≡ flattened c grid) (table : List ℕ) where
  grid_is : grid ≡ flattened j (flattened k plan)
  grid_is = e-grid ∙ ap (flattened j) e-once

  flat_is : flat ≡ flattened c (flattened j (flattened k plan))
  flat_is = e-flat ∙ ap (flattened c) grid_is

  in-plan : c < plan.d
  in-plan = flat_d plan once grid k j c e-once e-grid lc

  module _ (w : RowTable plan j q (get_or plan.cuts j 0) table) where
    lines_held : sum (product (layout_of flat).cuts) (slab_line grid flat c k v table)
        ≡ faces_held (layout_of plan).extents (layout_of plan).cuts (owner_by (layout_of plan)) k v q
    lines_held =
        ap (λ (g : Plan). sum (product (layout_of flat).cuts) (slab_line g flat c k v table)) grid_is
        ∙ ap (λ (f : Plan). sum (product (layout_of f).cuts) (slab_line (flattened j (flattened k plan)) f c k v table)) flat_is
        ∙ sym (slab_lines plan s k j c v q lk lj in-plan j-apart c-apart lv lq table w)

    module _ (fits : other_extents (layout_of plan) (k + 1) ≤ 4294967295) where
      lines_held-fit : sum (product (layout_of flat).cuts) (slab_line grid flat c k v table) ≤ 4294967295
      lines_held-fit =
          subst⁻¹ (λ (n : ℕ). n ≤ 4294967295) lines_held (le_trans (plan_faces_fit plan s k v q lk lv lq) fits)

      flat_fits : product (take flat.d flat.extents) ≤ 4294967295
      flat_fits =
          subst⁻¹ (λ (f : Plan). product (take f.d f.extents) ≤ 4294967295) flat_is
          (volume_fits plan s k j c v q lk lj in-plan j-apart c-apart lv lq table w fits)

-- the tiles are the faces of the plan with one element in every slab
module _ (plan : Plan) (s : Shaped plan) (k v q : ℕ) (lk : k < plan.d) (lv : v < get_or plan.cuts k 0) (lq : q < plan.p)
    (j : ℕ) (lj : j < plan.d) (j-apart : j ≢ k) (once grid : Plan) (e-once : once ≡ flattened k plan) (e-grid : grid ≡ flattened j once)
    (c : ℕ) (lc : c < grid.d) (c-apart : c ≢ k) (flat : Plan) (e-flat : flat ≡ flattened c grid) where
  module _ (table : List ℕ) (w : RowTable (one_each plan) j q (get_or plan.cuts j 0) table) where
    counts_fit : sum (product (layout_of flat).cuts) (slab_line (one_each grid) (one_each flat) c k v table) ≤ 4294967295
    unfolding one_each layout_of
    counts_fit =
        lines_held-fit (one_each plan) (shaped-one_each plan s) k v q lk lv lq j lj j-apart (one_each once) (one_each grid)
        (ap one_each e-once ∙ sym (one_each-flat plan k)) (ap one_each e-grid ∙ sym (one_each-flat once j)) c lc c-apart (one_each flat)
        (ap one_each e-flat ∙ sym (one_each-flat grid c)) table w (one_each_fits plan s k lk)

    counts_held : sum (product (layout_of flat).cuts) (slab_line (one_each grid) (one_each flat) c k v table)
        ≡ held (layout_of plan).cuts (owner_by (layout_of plan)) k v q
    unfolding one_each layout_of
    counts_held =
        lines_held (one_each plan) (shaped-one_each plan s) k v q lk lv lq j lj j-apart (one_each once) (one_each grid)
        (ap one_each e-once ∙ sym (one_each-flat plan k)) (ap one_each e-grid ∙ sym (one_each-flat once j)) c lc c-apart (one_each flat)
        (ap one_each e-flat ∙ sym (one_each-flat grid c)) table w
        ∙ faces_are_tiles (layout_of plan).cuts (owner_by (layout_of plan)) k v q (subst⁻¹ (λ (n : ℕ). v < n) (cut_at plan k lk) lv)

  -- ---- both, from the table that was filled along row's dimension j

  module _ (row : Plan) (e-row : row ≡ plan) (table : List Tally) (filled : Shares row j q (get_or row.cuts j 0) table) where
    shares : Shares plan j q (get_or plan.cuts j 0) table
    shares = subst (λ (p : Plan). Shares p j q (get_or p.cuts j 0) table) e-row filled

    pub lines_tally : tally_of_lines grid flat c k v table (product (layout_of flat).cuts) ≡ tally_held plan k v q
    lines_tally =
        ap₂ (λ (m n : ℕ). record { elements = m; tiles = n })
        (lines_held plan s k v q lk lv lq j lj j-apart once grid e-once e-grid c lc c-apart flat e-flat (elements_in table) shares.elements)
        (counts_held (tiles_in table) shares.tiles)

    pub slab_asked : other_extents (layout_of plan) (k + 1) ≤ 4294967295 → SlabAsked grid flat c k v table
    unfolding flattened
    slab_asked fits = record {
      same_d = ap (λ (f : Plan). f.d) e-flat;
      dimension = subst⁻¹ (λ (g : Plan). k < g.d) (e-grid ∙ ap (flattened j) e-once) lk;
      slab_small = omega (arith, s.cut_high k lk);
      places = sym (length-map table (λ tally. tally.elements)) ∙ shares.elements.places;
      volume_fits = flat_fits plan s k v q lk lv lq j lj j-apart once grid e-once e-grid c lc c-apart flat e-flat (elements_in table) shares.elements fits;
      fits = record {
        elements = lines_held-fit plan s k v q lk lv lq j lj j-apart once grid e-once e-grid c lc c-apart flat e-flat (elements_in table) shares.elements fits;
        tiles = counts_fit (tiles_in table) shares.tiles;
      };
    }
