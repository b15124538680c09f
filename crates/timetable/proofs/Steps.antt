-- Steps from neighbour to neighbour, and the owners along a row of a plan in shape: t steps up the row the owner is t steps up from the first, so it
-- is q exactly if the first is t steps down from q. Dimensions are counted from 0.
use mathlib.Core.Path.{◌≡◌, refl, sym, ap, ◌∙◌, subst, subst⁻¹}
use mathlib.Core.Logic.{◌≢◌}
use mathlib.Core.Bool.{Bool, true, false, not}
use mathlib.Core.List.{List}
use mathlib.Core.Option.{some, some-injective}
use Prim.Native.Nat.{ℕ, zero, suc, ◌*◌, ◌≤◌, ◌<◌}
use native.Mathlib.Nat.{le_trans, mul_comm}
use native.Mathlib.Omega.{arith}
use lib.ListN.{length, get_or, set}
use lib.Seq.{get_or-set_same, set-get_or, set-set}
use Rattle.numbers.specs.Products.{product}
use Rattle.numbers.specs.Sums.{sum, same}
use Rattle.multipartition.specs.Neighbours.{next_owner}
use Rattle.multipartition.specs.Plans.{Layout, in_shape, InShape}
use Rattle.multipartition.specs.Questions.{owner_by}
use Rattle.multipartition.specs.Slabs.{thickness}
use Rattle.multipartition.specs.Tiles.{Inside, one_step_on}
use Rattle.multipartition.proofs.GridSums.{sum_cong, same_iff}
use Rattle.multipartition.proofs.MixedRadix.{Positive}
use Rattle.multipartition.proofs.Neighbours.{neighbour_some, next_owner_below, next_owner_back}
use Rattle.multipartition.proofs.Plans.{in_shape_iff, in_shape_moduli_positive, in_shape_owner_below, in_shape_neighbour_owns}
use Rattle.multipartition.proofs.Tiles.{inside-length, inside_below, inside-set, step_up}
use Rattle.timetable.specs.Faces.{faces_held}
use Rattle.timetable.specs.Rows.{steps_on, elements_of, line_over, line_in}
use Rattle.timetable.proofs.Rows.{flat, faces_by_lines}

-- ---- steps

module _ (moduli : List ℕ) (matrix : List (List ℕ)) (positive : Positive moduli) (j : ℕ) where
  steps_shift : (up : Bool) (t q : ℕ) → steps_on moduli matrix j up t (next_owner moduli matrix j up q) ≡ steps_on moduli matrix j up (suc t) q
  unfolding steps_on
  steps_shift up zero q = refl
  steps_shift up (suc t) q = ap (next_owner moduli matrix j up) (steps_shift up t q)

  steps_below : (up : Bool) (t q : ℕ) → q < product moduli → steps_on moduli matrix j up t q < product moduli
  unfolding steps_on
  steps_below up zero q l = l
  steps_below up (suc t) q l = next_owner_below moduli matrix positive j up (steps_on moduli matrix j up t q)

  -- as many steps back lead back
  steps_back : (up : Bool) (t q : ℕ) → q < product moduli → steps_on moduli matrix j (not up) t (steps_on moduli matrix j up t q) ≡ q
  unfolding steps_on
  steps_back up zero q l = refl
  steps_back up (suc t) q l =
      sym (steps_shift (not up) t (steps_on moduli matrix j up (suc t) q))
      ∙ ap (steps_on moduli matrix j (not up) t) (next_owner_back moduli matrix positive j up (steps_on moduli matrix j up t q) (steps_below up t q l))
      ∙ steps_back up t q l

  -- o is t steps up from q exactly if q is t steps down from o
  same_steps : (t o q : ℕ) → o < product moduli → q < product moduli
      → same (steps_on moduli matrix j true t o) q ≡ same (steps_on moduli matrix j false t q) o
  same_steps t o q lo lq =
      same_iff (steps_on moduli matrix j true t o) q (steps_on moduli matrix j false t q) o
      (λ e. ap (steps_on moduli matrix j false t) (sym e) ∙ steps_back true t o lo)
      (λ e. ap (steps_on moduli matrix j true t) (sym e) ∙ steps_back false t q lq)

-- ---- owners along a row

module _ (plan : Layout) (shape : in_shape plan ≡ true) where
  facts : InShape plan
  facts = (in_shape_iff plan).0 shape

  positive : Positive plan.moduli
  positive = in_shape_moduli_positive plan shape

  abbrev own : List ℕ → ℕ
  own = owner_by plan

  abbrev steps : ℕ → Bool → ℕ → ℕ → ℕ
  steps = steps_on plan.moduli plan.matrix

  processor : (q : ℕ) → q < plan.p → q < product plan.moduli
  processor q l = subst⁻¹ (λ (n : ℕ). q < n) facts.moduli_product l

  owner_steps : (j : ℕ) → j < length plan.cuts → (y : List ℕ) → Inside plan.cuts y → get_or y j 0 ≡ 0 → (t : ℕ) → t < get_or plan.cuts j 0
      → own (set y j t) ≡ steps j true t (own y)
  unfolding steps_on
  owner_steps j lj y inside z zero l = ap own (ap (set y j) (sym z) ∙ set-get_or y j 0)
  owner_steps j lj y inside z (suc t) l =
      some-injective (own next) (next_owner plan.moduli plan.matrix j true (own here))
      (sym (in_shape_neighbour_owns plan shape j true here next lj (inside-set plan.cuts y j t inside (omega arith)) step)
      ∙ neighbour_some plan.cuts plan.moduli plan.matrix j true (own here) (λ one. absurd (omega arith)))
      ∙ ap (next_owner plan.moduli plan.matrix j true) (owner_steps j lj y inside z t (omega arith))
    where
      here : List ℕ
      here = set y j t

      next : List ℕ
      next = set y j (suc t)

      step : one_step_on plan.cuts j true here ≡ some next
      step =
          step_up plan.cuts here j t (get_or-set_same y j t 0 (subst⁻¹ (λ (n : ℕ). j < n) (inside-length plan.cuts y inside) lj)) l
          ∙ ap some (set-set y j t (suc t))

  -- ---- the faces by rows and lines, with a table of rows

  module _ (same_length : length plan.extents ≡ length plan.cuts) (few : length plan.cuts ≡ plan.d) (k j c v q : ℕ) (table : List ℕ)
      (lk : k < length plan.cuts) (lj : j < length plan.cuts) (lc : c < length plan.cuts) (j-apart : j ≢ k) (c-apart : c ≢ k)
      (lv : v < get_or plan.cuts k 0) (lq : q < plan.p)
      (filled : (o : ℕ) → o < 4096
      → get_or table o 0 ≡ elements_of plan.moduli plan.matrix j (get_or plan.extents j 0) (get_or plan.cuts j 0) q (get_or plan.cuts j 0) o) where
    low : (i : ℕ) → i < length plan.cuts → 1 ≤ get_or plan.cuts i 0
    low i l = (facts.cut_range i (subst (λ (n : ℕ). i < n) few l)).0

    on_row : (y : List ℕ) → Inside plan.cuts y → get_or y j 0 ≡ 0
        → sum (get_or plan.cuts j 0) (λ t. thickness (get_or plan.extents j 0) (get_or plan.cuts j 0) t * same (own (set y j t)) q) ≡ get_or table (own y) 0
    on_row y inside z =
        sum_cong (get_or plan.cuts j 0) (λ t l.
        ap (λ (n : ℕ). thickness (get_or plan.extents j 0) (get_or plan.cuts j 0) t * n)
        (ap (λ (o : ℕ). same o q) (owner_steps j lj y inside z t l)
        ∙ same_steps plan.moduli plan.matrix positive j t (own y) q (processor (own y) (in_shape_owner_below plan shape y)) (processor q lq))
        ∙ mul_comm (thickness (get_or plan.extents j 0) (get_or plan.cuts j 0) t) (same (steps j false t q) (own y)))
        ∙ sym (filled (own y) (le_trans (in_shape_owner_below plan shape y) facts.p_range.1))

    abbrev n : ℕ
    n = get_or (flat k j plan.extents) c 0

    abbrev b : ℕ
    b = get_or (flat k j plan.cuts) c 0

    on_line : (y : List ℕ) → Inside plan.cuts y → get_or y c 0 ≡ 0 → ((t : ℕ) → t < b → Inside plan.cuts (set y c t))
        → sum b (λ t. thickness n b t * get_or table (own (set y c t)) 0) ≡ line_over plan.moduli plan.matrix c n b table b (own y)
    on_line y inside z along =
        sum_cong b (λ t l. ap (λ (o : ℕ). thickness n b t * get_or table o 0) (owner_steps c lc y inside z t (below y inside t (along t l))))
      where
        below : (y : List ℕ) → Inside plan.cuts y → (t : ℕ) → Inside plan.cuts (set y c t) → t < get_or plan.cuts c 0
        below y inside t h =
            subst (λ (m : ℕ). m < get_or plan.cuts c 0) (get_or-set_same y c t 0 (subst⁻¹ (λ (m : ℕ). c < m) (inside-length plan.cuts y inside) lc))
            (inside_below plan.cuts (set y c t) h c lc)

    pub faces_of_lines : faces_held plan.extents plan.cuts own k v q
        ≡ sum (product (set (flat k j plan.cuts) c 1))
        (line_in (set (flat k j plan.extents) c 1) (set (flat k j plan.cuts) c 1) plan.moduli plan.matrix c
        (get_or (flat k j plan.extents) c 0) (get_or (flat k j plan.cuts) c 0) table k v)
    faces_of_lines =
        faces_by_lines plan.extents plan.cuts k j c same_length lk lj lc j-apart c-apart low own v q (λ o. get_or table o 0)
        (line_over plan.moduli plan.matrix c n b table b) lv on_row on_line
