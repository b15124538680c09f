-- The matrix has a row for each modulus and a column for each dimension, and every entry is below its row's modulus.
use mathlib.Core.Path.{◌≡◌, refl, ap, ◌∙◌, subst⁻¹}
use mathlib.Core.List.{List, [], ◌∷◌}
use Prim.Native.Nat.{ℕ, zero, suc, ◌<◌}
use native.Mathlib.Nat.{not-suc-le-zero, le_of_suc-le-suc, mod-lt}
use native.Mathlib.Omega.{arith}
use lib.IntN.{ℤ, pos, negsuc}
use lib.ListN.{length, get_or}
use Rattle.multipartition.specs.Lists.{list_of}
use Rattle.multipartition.specs.Moduli.{moduli_of}
use Rattle.multipartition.specs.Matrix.{remainder, Row, first_row, rest_rows, rows_of, remainders_of, matrix_of}
use Rattle.multipartition.specs.Plans.{entry_at}
use Rattle.multipartition.proofs.MixedRadix.{Positive}
use Rattle.multipartition.proofs.Chains.{length-list_of}
use Rattle.multipartition.proofs.Moduli.{length_moduli, moduli_positive}

pub remainder_below : (z : ℤ) (m : ℕ) → zero < m → remainder z m < m
unfolding remainder
remainder_below (pos n) m l = mod-lt n l
remainder_below (negsuc n) m l = omega arith

pub list_of_below : (from n : ℕ) (f : ℕ → ℕ) (m : ℕ) → zero < m → ((i : ℕ) → f i < m) → (j : ℕ) → get_or (list_of from n f) j 0 < m
unfolding list_of
list_of_below from zero f m l h j = l
list_of_below from (suc n) f m l h zero = h from
list_of_below from (suc n) f m l h (suc j) = list_of_below (suc from) n f m l h j

-- ---- rows replaced by their remainders

length_remainders : (d : ℕ) (moduli : List ℕ) (rows : List Row) → length (remainders_of d moduli rows) ≡ length moduli
unfolding remainders_of
length_remainders d [] rows = refl
length_remainders d (m ∷ moduli) rows = ap suc (length_remainders d moduli (rest_rows rows))

length_remainders_row : (d : ℕ) (moduli : List ℕ) (rows : List Row) (i : ℕ) → i < length moduli → length (get_or (remainders_of d moduli rows) i []) ≡ d
unfolding remainders_of
length_remainders_row d [] rows i l = absurd (not-suc-le-zero l)
length_remainders_row d (m ∷ moduli) rows zero l = length-list_of 1 d (λ k. remainder (first_row rows k) m)
length_remainders_row d (m ∷ moduli) rows (suc i) l = length_remainders_row d moduli (rest_rows rows) i (le_of_suc-le-suc l)

remainders_below : (d : ℕ) (moduli : List ℕ) (rows : List Row) → Positive moduli → (i j : ℕ) → i < length moduli
    → entry_at (remainders_of d moduli rows) i j < get_or moduli i 0
unfolding remainders_of Positive
remainders_below d [] rows h i j l = absurd (not-suc-le-zero l)
remainders_below d (m ∷ moduli) rows h zero j l =
    list_of_below 1 d (λ k. remainder (first_row rows k) m) m h.0 (λ k. remainder_below (first_row rows k) m h.0) j
remainders_below d (m ∷ moduli) rows h (suc i) j l = remainders_below d moduli (rest_rows rows) h.1 i j (le_of_suc-le-suc l)

-- ---- the matrix

module _ (p : ℕ) (cuts : List ℕ) where
  pub length_matrix : length (matrix_of p cuts) ≡ length cuts
  unfolding matrix_of
  length_matrix = length_remainders (length cuts) (moduli_of p cuts) (rows_of cuts (moduli_of p cuts)) ∙ length_moduli p cuts

  pub length_matrix_row : (i : ℕ) → i < length cuts → length (get_or (matrix_of p cuts) i []) ≡ length cuts
  unfolding matrix_of
  length_matrix_row i l =
      length_remainders_row (length cuts) (moduli_of p cuts) (rows_of cuts (moduli_of p cuts)) i (subst⁻¹ (λ (n : ℕ). i < n) (length_moduli p cuts) l)

  -- every entry of row i is below the modulus of row i
  pub matrix_entry_below : zero < p → (i j : ℕ) → i < length cuts → entry_at (matrix_of p cuts) i j < get_or (moduli_of p cuts) i 0
  unfolding matrix_of
  matrix_entry_below l i j h =
      remainders_below (length cuts) (moduli_of p cuts) (rows_of cuts (moduli_of p cuts)) (moduli_positive p cuts l) i j
      (subst⁻¹ (λ (n : ℕ). i < n) (length_moduli p cuts) h)
