-- The lists of a plan's layout, read by places, counted from 0, in the plan's own arrays.
use mathlib.Core.Path.{◌≡◌, refl, ap, ◌∙◌}
use mathlib.Core.List.{List, []}
use Prim.Native.Nat.{ℕ, zero, suc, ◌+◌, ◌*◌, ◌≤◌, ◌<◌}
use native.Mathlib.Nat.{zero-add}
use native.Mathlib.Omega.{arith}
use lib.ListN.{length, get_or, take, drop, length-drop}
use lib.Seq.{get_or-take, get_or-drop, length-take-le}
use Rattle.multipartition.specs.Plans.{entry_at}
use Rattle.layout.specs.declared.Plan.{Plan}
use Rattle.layout.specs.Plans.{rows_from, layout_of}
use Rattle.layout.specs.Shaped.{entry_of, Shaped}
use Rattle.layout.specs.Sized.{Sized}

pub length-rows : (d i n : ℕ) (matrix : List ℕ) → length (rows_from d i n matrix) ≡ n
unfolding rows_from
length-rows d i zero matrix = refl
length-rows d i (suc n) matrix = ap suc (length-rows d (suc i) n matrix)

-- row r of those from row i on
pub row_from : (d i n : ℕ) (matrix : List ℕ) (r : ℕ) → r < n → get_or (rows_from d i n matrix) r [] ≡ take d (drop ((i + r) * 5) matrix)
unfolding rows_from
row_from d i zero matrix r h = absurd (omega arith)
row_from d i (suc n) matrix zero h = let e : i * 5 ≡ (i + 0) * 5 = omega arith in rw e
row_from d i (suc n) matrix (suc r) h =
    let e : (suc i + r) * 5 ≡ (i + suc r) * 5 = omega arith in
    row_from d (suc i) n matrix r (omega arith) ∙ ap (λ (at : ℕ). take d (drop at matrix)) e

-- row i of a layout's matrix
pub row_at : (d : ℕ) (matrix : List ℕ) (i : ℕ) → i < d → get_or (rows_from d 0 d matrix) i [] ≡ take d (drop (i * 5) matrix)
row_at d matrix i h = row_from d 0 d matrix i h ∙ ap (λ (r : ℕ). take d (drop (r * 5) matrix)) (zero-add i)

-- its entry in column j
pub entry_at_lem : (d : ℕ) (matrix : List ℕ) (i j : ℕ) → i < d → j < d → entry_at (rows_from d 0 d matrix) i j ≡ entry_of matrix i j
entry_at_lem d matrix i j hi hj = rw (row_at d matrix i hi, get_or-take d (drop (i * 5) matrix) j 0 hj) (get_or-drop (i * 5) matrix j 0)

-- ---- of a plan

-- the places of a plan's arrays: every plan by value has them
pub record Arrays (plan : Plan) : Type 0 where
  pub extents_places : length plan.extents ≡ 5
  pub weights_places : length plan.weights ≡ 5
  pub cuts_places : length plan.cuts ≡ 5
  pub moduli_places : length plan.moduli ≡ 5
  pub matrix_places : length plan.matrix ≡ 25
  pub least_places : length plan.least ≡ 5

-- every plan by value has a layout of d numbers a list, which "in shape" does not say of a layout
pub layout_sized : (plan : Plan) → Arrays plan → plan.d ≤ 5 → Sized (layout_of plan)
unfolding layout_of
layout_sized plan a few = record {
  few = few;
  extents_length = length-take-le plan.d plan.extents (omega (arith, a.extents_places));
  weights_length = length-take-le plan.d plan.weights (omega (arith, a.weights_places));
  cuts_length = length-take-le plan.d plan.cuts (omega (arith, a.cuts_places));
  least_length = length-take-le plan.d plan.least (omega (arith, a.least_places));
  moduli_length = length-take-le plan.d plan.moduli (omega (arith, a.moduli_places));
  matrix_length = length-rows plan.d 0 plan.d plan.matrix;
  row_length = λ i l. rw (row_at plan.d plan.matrix i l)
      (length-take-le plan.d (drop (i * 5) plan.matrix) (omega (arith, a.matrix_places, length-drop (i * 5) plan.matrix)));
}

pub extents_length : (plan : Plan) → Shaped plan → length (layout_of plan).extents ≡ plan.d
unfolding layout_of
extents_length plan s = length-take-le plan.d plan.extents s.extents_long

pub cuts_length : (plan : Plan) → Shaped plan → length (layout_of plan).cuts ≡ plan.d
unfolding layout_of
cuts_length plan s = length-take-le plan.d plan.cuts s.cuts_long

pub moduli_length : (plan : Plan) → Shaped plan → length (layout_of plan).moduli ≡ plan.d
unfolding layout_of
moduli_length plan s = length-take-le plan.d plan.moduli s.moduli_long

pub extent-at : (plan : Plan) (k : ℕ) → k < plan.d → get_or (layout_of plan).extents k 0 ≡ get_or plan.extents k 0
unfolding layout_of
extent-at plan k h = get_or-take plan.d plan.extents k 0 h

pub cut_at : (plan : Plan) (k : ℕ) → k < plan.d → get_or (layout_of plan).cuts k 0 ≡ get_or plan.cuts k 0
unfolding layout_of
cut_at plan k h = get_or-take plan.d plan.cuts k 0 h

pub least_at : (plan : Plan) (k : ℕ) → k < plan.d → get_or (layout_of plan).least k 0 ≡ get_or plan.least k 0
unfolding layout_of
least_at plan k h = get_or-take plan.d plan.least k 0 h

pub modulus-at : (plan : Plan) (i : ℕ) → i < plan.d → get_or (layout_of plan).moduli i 0 ≡ get_or plan.moduli i 0
unfolding layout_of
modulus-at plan i h = get_or-take plan.d plan.moduli i 0 h
