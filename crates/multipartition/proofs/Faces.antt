-- Two tiles with a common face have different owners, if the cuts are minimal: if one step along k kept the owner, column k would be 0 modulo
-- the moduli, no owner would depend on the place in k, and dimension k could stay uncut.
use mathlib.Core.Path.{◌≡◌, refl, sym, ap, ap₂, ◌∙◌, subst, subst⁻¹, fun_ext}
use mathlib.Core.Logic.{◌⊎◌, inl, inr, ◌≢◌}
use mathlib.Core.List.{List, [], ◌∷◌}
use mathlib.Core.Option.{some}
use Prim.Native.Nat.{ℕ, zero, suc, ◌*◌, ◌%◌, ◌≤◌, ◌<◌, ◌∣◌}
use native.Mathlib.Nat.{not-suc-le-zero, le_of_suc-le-suc, lt_of_not-le, eq_of_mul-eq-mul_left, le_refl}
use native.Mathlib.Decide.{dec_le, ℕ_discrete}
use native.Mathlib.Omega.{arith}
use lib.ListN.{length, get_or, set, length-set, get_or-eq_default}
use lib.Seq.{get_or-set_same, get_or-set_other, ext_get_or}
use Rattle.numbers.specs.Sums.{sum, same}
use Rattle.numbers.proofs.Congruence.{Congruent, congruent-add, congruent-mul, congruent_cancel-add}
use Rattle.numbers.proofs.Sums.{sum-const, sum-mul_left}
use Rattle.multipartition.specs.Lists.{first, rest, first_list, rest_lists}
use Rattle.multipartition.specs.Cuts.{cheapest_within}
use Rattle.multipartition.specs.Moduli.{moduli_of}
use Rattle.multipartition.specs.Matrix.{matrix_of}
use Rattle.multipartition.specs.MixedRadix.{number_from, digits_of}
use Rattle.multipartition.specs.Owners.{times, coordinates_at, owner_at, owner_of}
use Rattle.multipartition.specs.Tiles.{Inside}
use Rattle.multipartition.specs.Rivals.{held, Face}
use Rattle.multipartition.proofs.Tiles.{inside-length, inside_below}
use Rattle.multipartition.proofs.Moduli.{moduli_positive}
use Rattle.multipartition.proofs.GridSums.{sum_cong, total, held_total}
use Rattle.multipartition.proofs.Owners.{digits_of_owner, owner_below, even_owners}
use Rattle.multipartition.proofs.Neighbours.{up_one, times_place, times_up}
use Rattle.multipartition.proofs.Minimal.{Minimal, cheapest_minimal, positive-at, positive-set, product_but, product-without-set, minimal_unchanged}
use Rattle.multipartition.proofs.Rivals.{dvd_of_equal_shares}

-- ---- a column of multiples of the moduli

-- column k is 0 modulo the moduli
ColumnZero : ℕ → List ℕ → List (List ℕ) → Type 0
ColumnZero k [] matrix = Unit {0}
ColumnZero k (m ∷ moduli) matrix = Congruent m (get_or (first_list matrix) k 0) 0 × ColumnZero k moduli (rest_lists matrix)

-- so it is, if one step along k keeps the coordinates
column-zero : (moduli : List ℕ) (matrix : List (List ℕ)) (x : List ℕ) (k : ℕ) → k < length x
    → coordinates_at moduli matrix x ≡ coordinates_at moduli matrix (up_one k x) → ColumnZero k moduli matrix
unfolding ColumnZero coordinates_at
column-zero [] matrix x k l e = tt
column-zero (m ∷ moduli) matrix x k l e = (
  congruent_cancel-add m (times row x) (get_or row k 0) 0
      (ap (λ (n : ℕ). n % m) (sym (times_up row x k l)) ∙ sym (ap first e) ∙ ap (λ (n : ℕ). n % m) (omega arith)),
  column-zero moduli (rest_lists matrix) x k l (ap rest e),
)
  where
    row : List ℕ
    row = first_list matrix

-- then the place in k counts for nothing
coordinates_column-zero : (moduli : List ℕ) (matrix : List (List ℕ)) (x : List ℕ) (k : ℕ) → ColumnZero k moduli matrix
    → coordinates_at moduli matrix x ≡ coordinates_at moduli matrix (set x k 0)
unfolding ColumnZero coordinates_at
coordinates_column-zero [] matrix x k h = refl
coordinates_column-zero (m ∷ moduli) matrix x k h =
    ap₂ ◌∷◌
    (ap (λ (n : ℕ). n % m) (times_place row x k)
    ∙ congruent-add m (times row (set x k 0)) (times row (set x k 0)) (get_or row k 0 * get_or x k 0) (0 * get_or x k 0) refl
    (congruent-mul m (get_or row k 0) 0 (get_or x k 0) (get_or x k 0) h.0 refl)
    ∙ ap (λ (n : ℕ). n % m) (omega arith))
    (coordinates_column-zero moduli (rest_lists matrix) x k h.1)
  where
    row : List ℕ
    row = first_list matrix

-- ---- sums of what does not depend on the place in k

total-flat : (cuts : List ℕ) (k : ℕ) (f : List ℕ → ℕ) → k < length cuts → ((x : List ℕ) → f x ≡ f (set x k 0))
    → total cuts f ≡ get_or cuts k 0 * total (set cuts k 1) f
unfolding total sum
total-flat [] k f l flat = absurd (not-suc-le-zero l)
total-flat (b ∷ cuts) zero f l flat =
    sum_cong b (λ i z. ap (total cuts) (fun_ext (λ x. flat (i ∷ x))))
    ∙ sum-const b (total cuts (λ x. f (0 ∷ x)))
    ∙ ap (λ (n : ℕ). b * n) (omega arith)
total-flat (b ∷ cuts) (suc k) f l flat =
    sum_cong b (λ i z. total-flat cuts k (λ x. f (i ∷ x)) (le_of_suc-le-suc l) (λ x. flat (i ∷ x)))
    ∙ sum-mul_left b (get_or cuts k 0) (λ i. total (set cuts k 1) (λ x. f (i ∷ x)))

held-flat : (cuts : List ℕ) (owner : List ℕ → ℕ) (k j s q : ℕ) → k < length cuts → j ≢ k → ((x : List ℕ) → owner x ≡ owner (set x k 0))
    → held cuts owner j s q ≡ get_or cuts k 0 * held (set cuts k 1) owner j s q
held-flat cuts owner k j s q l n flat =
    held_total cuts owner j s q
    ∙ total-flat cuts k (λ x. same (get_or x j 0) s * same (owner x) q) l
    (λ x. ap₂ (λ (i o : ℕ). same i s * same o q) (sym (get_or-set_other x k j 0 0 n)) (flat x))
    ∙ ap (λ (n : ℕ). get_or cuts k 0 * n) (sym (held_total (set cuts k 1) owner j s q))

-- ---- the owners

module _ (p : ℕ) (cuts : List ℕ) (hp : zero < p) (minimal : Minimal p cuts) where
  -- if no owner depends on the place in k, dimension k is uncut
  uncut : (k : ℕ) → k < length cuts → ((x : List ℕ) → owner_of p cuts x ≡ owner_of p cuts (set x k 0)) → 1 ≡ get_or cuts k 0
  uncut k l flat = minimal_unchanged p cuts k 1 minimal l (le_refl 1) (positive k l) still
    where
      positive : (j : ℕ) → j < length cuts → zero < get_or cuts j 0
      positive = positive-at cuts minimal.positive

      equal : (j : ℕ) → j < length cuts → j ≢ k → (q r : ℕ) → q < p → r < p
          → held (set cuts k 1) (owner_of p cuts) j 0 q ≡ held (set cuts k 1) (owner_of p cuts) j 0 r
      equal j m n q r o o' =
          eq_of_mul-eq-mul_left (get_or cuts k 0) (positive k l) (held (set cuts k 1) (owner_of p cuts) j 0 q) (held (set cuts k 1) (owner_of p cuts) j 0 r)
          (sym (held-flat cuts (owner_of p cuts) k j 0 q l n flat)
          ∙ even_owners p cuts hp minimal.even j 0 q m (positive j m) o
          ∙ sym (even_owners p cuts hp minimal.even j 0 r m (positive j m) o')
          ∙ held-flat cuts (owner_of p cuts) k j 0 r l n flat)

      still : (j : ℕ) → j < length cuts → j ≢ k → p ∣ 1 * product_but k j cuts
      still j m n =
          let inside : j < length (set cuts k 1) = subst⁻¹ (λ (i : ℕ). j < i) (length-set cuts k 1) m in
          subst (λ (i : ℕ). p ∣ i) (product-without-set cuts k j 1 l m n)
          (dvd_of_equal_shares p (set cuts k 1) (owner_of p cuts) hp (λ x w. owner_below p cuts x hp) j 0 inside
          (positive-at (set cuts k 1) (positive-set cuts k 1 minimal.positive (le_refl 1)) j inside) (equal j m n))

  -- one step along k changes the owner
  step_changes_owner : (x : List ℕ) (k : ℕ) → k < length cuts → Inside cuts x → Inside cuts (up_one k x) → owner_of p cuts x ≢ owner_of p cuts (up_one k x)
  unfolding owner_of owner_at
  step_changes_owner x k l w w' e = absurd (not-one (uncut k l flat))
    where
      moduli : List ℕ
      moduli = moduli_of p cuts

      matrix : List (List ℕ)
      matrix = matrix_of p cuts

      in-x : k < length x
      in-x = omega (arith, inside-length cuts x w)

      zero_column : ColumnZero k moduli matrix
      zero_column =
          column-zero moduli matrix x k in-x
          (sym (digits_of_owner moduli matrix x (moduli_positive p cuts hp))
          ∙ ap (digits_of moduli) e
          ∙ digits_of_owner moduli matrix (up_one k x) (moduli_positive p cuts hp))

      flat : (y : List ℕ) → owner_of p cuts y ≡ owner_of p cuts (set y k 0)
      flat y = ap (number_from 0 moduli) (coordinates_column-zero moduli matrix y k zero_column)

      room : suc (get_or x k 0) < get_or cuts k 0
      room = subst (λ (n : ℕ). n < get_or cuts k 0) (get_or-set_same x k (suc (get_or x k 0)) 0 in-x) (inside_below cuts (up_one k x) w' k l)

      not-one : 1 ≡ get_or cuts k 0 → ⊥
      not-one f = omega (arith, room)

-- the higher of two positions with a common face is one step up from the lower
face_up : (cuts x y : List ℕ) (k : ℕ) → Inside cuts x → Inside cuts y → ((j : ℕ) → j ≢ k → get_or x j 0 ≡ get_or y j 0)
    → get_or y k 0 ≡ suc (get_or x k 0) → (k < length cuts) × (y ≡ up_one k x)
face_up cuts x y k w w' elsewhere more = (in_cuts, ext_get_or 0 y (up_one k x) lengths places)
  where
    in_cuts : k < length cuts
    in_cuts = go (dec_le (length cuts) k)
      where
        go : Dec (length cuts ≤ k) → k < length cuts
        go (yes past) = absurd (omega (arith, get_or-eq_default y 0 {n = k} (omega (arith, inside-length cuts y w'))))
        go (no n) = lt_of_not-le n

    lengths : length y ≡ length (up_one k x)
    lengths = inside-length cuts y w' ∙ sym (length-set x k (suc (get_or x k 0)) ∙ inside-length cuts x w)

    places : (j : ℕ) → j < length y → get_or y j 0 ≡ get_or (up_one k x) j 0
    places j m = go (ℕ_discrete j k)
      where
        go : Dec (j ≡ k) → get_or y j 0 ≡ get_or (up_one k x) j 0
        go (yes e) =
            subst⁻¹ (λ (i : ℕ). get_or y i 0 ≡ get_or (up_one k x) i 0) e
            (more ∙ sym (get_or-set_same x k (suc (get_or x k 0)) 0 (omega (arith, in_cuts, inside-length cuts x w))))
        go (no n) = sym (elsewhere j n) ∙ sym (get_or-set_other x k j (suc (get_or x k 0)) 0 n)

-- With minimal cuts two tiles with a common face have different owners.
pub faces_differ : (p : ℕ) (cuts : List ℕ) → zero < p → Minimal p cuts → (x y : List ℕ) → Inside cuts x → Inside cuts y → Face x y
    → owner_of p cuts x ≢ owner_of p cuts y
faces_differ p cuts hp minimal x y w w' face e = go face.by_one
  where
    k : ℕ
    k = face.dimension

    go : (get_or y k 0 ≡ suc (get_or x k 0)) ⊎ (get_or x k 0 ≡ suc (get_or y k 0)) → ⊥
    go (inl more) =
        let (l, y_is) = face_up cuts x y k w w' face.elsewhere more in
        step_changes_owner p cuts hp minimal x k l w (subst (λ (v : List ℕ). Inside cuts v) y_is w') (e ∙ ap (owner_of p cuts) y_is)
    go (inr more) =
        let (l, x_is) = face_up cuts y x k w' w (λ j n. sym (face.elsewhere j n)) more in
        step_changes_owner p cuts hp minimal y k l w' (subst (λ (v : List ℕ). Inside cuts v) x_is w) (sym e ∙ ap (owner_of p cuts) x_is)

-- So it is with the cheapest cuts.
pub cheapest_faces_differ : (p : ℕ) (most weights cuts : List ℕ) → zero < p → cheapest_within p most weights ≡ some cuts
    → (x y : List ℕ) → Inside cuts x → Inside cuts y → Face x y → owner_of p cuts x ≢ owner_of p cuts y
cheapest_faces_differ p most weights cuts hp e = faces_differ p cuts hp (cheapest_minimal p most weights cuts e)
