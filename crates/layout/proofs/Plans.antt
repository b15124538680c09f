-- A layout and its plan by value: the plan has the layout's numbers in front, and the layout reads just those.
use mathlib.Core.Path.{◌≡◌, refl, sym, ap, ◌∙◌}
use mathlib.Core.List.{List, [], ◌∷◌, ◌++◌, append_assoc}
use Prim.Native.Nat.{ℕ, suc, ◌+◌, ◌-◌, ◌*◌, ◌≤◌, ◌<◌}
use native.Mathlib.Omega.{arith}
use lib.ListN.{length, get_or, take, drop, replicate, length-append}
use lib.Seq.{take-take, take_at, drop_at, take-append-le, take-append-add, drop-drop, length-take-le}
use Rattle.multipartition.specs.Plans.{Job, Layout, layout_with}
use Rattle.multipartition.specs.Jobs.{Passed}
use Rattle.multipartition.proofs.Moduli.{length_moduli}
use Rattle.multipartition.proofs.Matrix.{length_matrix, length_matrix_row}
use Rattle.layout.specs.Plans.{rows_from, layout_of, five, flat, plan_of}
use Rattle.layout.specs.Sized.{Sized}

length-five : (xs : List ℕ) → length (five xs) ≡ 5
length-five xs =
    let enough : 5 ≤ length (xs ++ replicate 5 0) = omega (arith, length-append xs (replicate 5 0)) in
    length-take-le 5 (xs ++ replicate 5 0) enough

-- the first d of five places hold a list of d numbers
pub take-five : (d : ℕ) (xs : List ℕ) → d ≤ 5 → length xs ≡ d → take d (five xs) ≡ xs
take-five d xs few e = take-take d 5 (xs ++ replicate 5 0) few ∙ take_at xs (replicate 5 0) d e

length-flat : (rows : List (List ℕ)) → length (flat rows) ≡ length rows * 5
unfolding flat
length-flat [] = omega arith
length-flat (row ∷ rows) = omega (arith, length-append (five row) (flat rows), length-five row, length-flat rows)

-- rows that stand one after the other from place i * 5 on
rows_of-flat : (d i : ℕ) (rows : List (List ℕ)) (tail matrix : List ℕ) → d ≤ 5
    → ((r : ℕ) → r < length rows → length (get_or rows r []) ≡ d) → drop (i * 5) matrix ≡ flat rows ++ tail
    → rows_from d i (length rows) matrix ≡ rows
unfolding rows_from flat
rows_of-flat d i [] tail matrix few h e = refl
rows_of-flat d i (row ∷ rows) tail matrix few h e =
    let here : drop (i * 5) matrix ≡ five row ++ (flat rows ++ tail) = e ∙ append_assoc (five row) (flat rows) tail in
    let fits : d ≤ length (five row) = omega (arith, length-five row) in
    let row_here : take d (drop (i * 5) matrix) ≡ row
    = ap (take d) here ∙ take-append-le d (five row) (flat rows ++ tail) fits ∙ take-five d row few (h 0 (omega arith)) in
    let next : suc i * 5 ≡ i * 5 + 5 = omega arith in
    let below : drop (suc i * 5) matrix ≡ flat rows ++ tail
    = ap (λ (n : ℕ). drop n matrix) next ∙ sym (drop-drop 5 (i * 5) matrix) ∙ ap (drop 5) here ∙ drop_at (five row) (flat rows ++ tail) 5 (length-five row) in
    rw (row_here, rows_of-flat d (suc i) rows tail matrix few (λ r l. h (suc r) (omega arith)) below)

matrix_of-flat : (d : ℕ) (rows : List (List ℕ)) → d ≤ 5 → length rows ≡ d → ((r : ℕ) → r < d → length (get_or rows r []) ≡ d)
    → rows_from d 0 d (take 25 (flat rows ++ replicate 25 0)) ≡ rows
matrix_of-flat d rows few e h =
    let zeros : ℕ = 25 - d * 5 in
    let all : 25 ≡ length (flat rows) + zeros = omega (arith, length-flat rows) in
    let front : take 25 (flat rows ++ replicate 25 0) ≡ flat rows ++ take zeros (replicate 25 0)
    = ap (λ (n : ℕ). take n (flat rows ++ replicate 25 0)) all ∙ take-append-add (flat rows) (replicate 25 0) zeros in
    rw front
    (ap (λ (n : ℕ). rows_from d 0 n (flat rows ++ take zeros (replicate 25 0))) (sym e)
    ∙ rows_of-flat d 0 rows (take zeros (replicate 25 0)) (flat rows ++ take zeros (replicate 25 0)) few (λ r l. h r (omega arith)) refl)

pub layout_of-plan : (layout : Layout) → Sized layout → layout_of (plan_of layout) ≡ layout
unfolding layout_of plan_of
layout_of-plan layout s =
    rw (
      take-five layout.d layout.extents s.few s.extents_length,
      take-five layout.d layout.weights s.few s.weights_length,
      take-five layout.d layout.cuts s.few s.cuts_length,
      take-five layout.d layout.least s.few s.least_length,
      take-five layout.d layout.moduli s.few s.moduli_length,
      matrix_of-flat layout.d layout.matrix s.few s.matrix_length s.row_length,
    )

-- the planner's layout of a job in range, with a cut for each dimension
pub layout_with_sized : (job : Job) (cuts : List ℕ) → Passed job → length cuts ≡ length job.extents → Sized (layout_with job cuts)
layout_with_sized job cuts passed same_length = record {
  few = omega (arith, passed.range.d_high, passed.extents_many);
  extents_length = passed.extents_many;
  weights_length = passed.weights_many;
  cuts_length = cuts_many;
  least_length = passed.least_many;
  moduli_length = length_moduli job.p cuts ∙ cuts_many;
  matrix_length = length_matrix job.p cuts ∙ cuts_many;
  row_length = λ i l. length_matrix_row job.p cuts i (omega (arith, cuts_many)) ∙ cuts_many;
}
  where
    cuts_many : length cuts ≡ job.d
    cuts_many = same_length ∙ passed.extents_many
