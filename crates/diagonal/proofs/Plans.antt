-- Diagonal layouts of n + 1 dimensions: shares, owners by the formulas of document 02, and a plan in shape.
use mathlib.Core.Path.{◌≡◌, refl, sym, ap, ap₂, ◌∙◌, subst, subst⁻¹}
use mathlib.Core.List.{[], ◌∷◌}
use Prim.Native.Nat.{ℕ, zero, suc, ◌+◌, ◌-◌, ◌*◌, ◌/◌, ◌%◌, ◌^◌, ◌≤◌, ◌<◌}
use native.Mathlib.Nat.{mul-pos, one-mul, mod-lt, div_self, mul-le-mul, le_of_suc-le-suc, le_trans, le_refl}
use native.Mathlib.Omega.{arith}
use lib.IntN.{pos, ◌-ℤ◌}
use lib.ListN.{length, get_or, replicate, length-replicate, get_or-replicate}
use Rattle.numbers.specs.Products.{product}
use Rattle.numbers.specs.Sums.{same}
use Rattle.numbers.proofs.Congruence.{add_multiple}
use Rattle.multipartition.specs.Cuts.{Fits}
use Rattle.multipartition.specs.Matrix.{remainder}
use Rattle.multipartition.specs.MixedRadix.{number_from}
use Rattle.multipartition.specs.Rivals.{held}
use Rattle.multipartition.specs.Plans.{Job, entry_at, InShape}
use Rattle.multipartition.specs.Jobs.{Passed}
use Rattle.multipartition.proofs.MixedRadix.{Positive, product_positive}
use Rattle.multipartition.proofs.WholeNumbers.{remainder_difference}
use Rattle.multipartition.proofs.Chains.{length-list_of}
use Rattle.multipartition.proofs.Matrix.{list_of_below}
use Rattle.multipartition.proofs.Fitting.{fits_positive, fits-thickness, le-mul_of_pos}
use Rattle.layout.specs.Sized.{Sized}
use Rattle.diagonal.specs.Diagonal.{diagonal_cuts, diagonal_moduli, diagonal_row, diagonal_rows, diagonal_matrix, diagonal_owner, diagonal_plan}
use Rattle.diagonal.proofs.Owners.{shifted, diagonal_owner_lem}
use Rattle.diagonal.proofs.Shares.{product-replicate, positive-replicate, diagonal-held}
use Rattle.diagonal.proofs.Sides.{side-le}

-- ---- shares

module _ (n s : ℕ) where
  moduli_product : product (diagonal_moduli (suc n) s) ≡ s ^ n
  unfolding diagonal_moduli
  moduli_product = one-mul (product (replicate n s)) ∙ product-replicate n s

  -- tiles / (bk · p) is 1
  one_tile : (k : ℕ) → zero < s → k < suc n → product (diagonal_cuts (suc n) s) / (get_or (diagonal_cuts (suc n) s) k 0 * s ^ n) ≡ 1
  one_tile k l h =
      ap₂ (λ (a b : ℕ). s * a / (b * s ^ n)) (product-replicate n s) (get_or-replicate (suc n) k s 0 h)
      ∙ div_self (mul-pos l (subst (λ (m : ℕ). zero < m) (product-replicate n s) (product_positive (replicate n s) (positive-replicate n s l))))

  -- Every processor owns exactly tiles / (bk · p) tiles of each slab of dimension k.
  pub diagonal_shares : (k v q : ℕ) → k < suc n → v < s → q < s ^ n
      → held (diagonal_cuts (suc n) s) (diagonal_owner (suc n) s) k v q ≡ product (diagonal_cuts (suc n) s) / (get_or (diagonal_cuts (suc n) s) k 0 * s ^ n)
  diagonal_shares k v q h m o = diagonal-held n s positive v q m o k h ∙ sym (one_tile k positive h)
    where
      positive : zero < s
      positive = omega arith

-- ---- the owners by the formulas of document 02

-- v less z modulo s, without whole numbers
difference : (s v z : ℕ) → zero < s → (v + (s - 1) * z) % s ≡ remainder (pos v -ℤ pos z) s
difference s v z l = sym (remainder_difference s v z (v + (s - 1) * z) l (ap (λ (n : ℕ). n % s) whole ∙ add_multiple s v z))
  where
    whole : v + (s - 1) * z + z ≡ v + s * z
    whole = let all : s ≡ s - 1 + 1 = omega arith in sym (ap (λ (m : ℕ). v + m * z) all ∙ omega arith)

-- "For d = 2 .. the owner is (i1 − i2) modulo p."
pub diagonal_owner-2 : (p i1 i2 : ℕ) → zero < p → diagonal_owner 2 p (i1 ∷ i2 ∷ []) ≡ remainder (pos i1 -ℤ pos i2) p
unfolding number_from shifted
diagonal_owner-2 p i1 i2 l = diagonal_owner_lem 1 p i2 (i1 ∷ []) refl ∙ omega (arith, difference p i1 i2 l)

-- "For d = 3 .. the owner is ((i1 − i3) modulo s)·s + ((i2 − i3) modulo s)"
pub diagonal_owner-3 : (s i1 i2 i3 : ℕ) → zero < s
    → diagonal_owner 3 s (i1 ∷ i2 ∷ i3 ∷ []) ≡ remainder (pos i1 -ℤ pos i3) s * s + remainder (pos i2 -ℤ pos i3) s
unfolding number_from shifted
diagonal_owner-3 s i1 i2 i3 l =
    diagonal_owner_lem 2 s i3 (i1 ∷ i2 ∷ []) refl
    ∙ ap₂ (λ (a b : ℕ). (0 * s + a) * s + b) (difference s i1 i3 l) (difference s i2 i3 l)
    ∙ ap (λ (n : ℕ). n * s + remainder (pos i2 -ℤ pos i3) s) (omega arith)

-- ---- the matrix

rows_below : (d s a n i j : ℕ) → zero < s → entry_at (diagonal_rows d s a n) i j < s
unfolding diagonal_rows diagonal_row
rows_below d s a zero i j l = l
rows_below d s a (suc n) zero j l = list_of_below 1 d (λ k. (same k a + (s - 1) * same k d) % s) s l (λ k. mod-lt (same k a + (s - 1) * same k d) l) j
rows_below d s a (suc n) (suc i) j l = rows_below d s (suc a) n i j l

length-rows : (d s a n : ℕ) → length (diagonal_rows d s a n) ≡ n
unfolding diagonal_rows
length-rows d s a zero = refl
length-rows d s a (suc n) = ap suc (length-rows d s (suc a) n)

length_row : (d s a n i : ℕ) → i < n → length (get_or (diagonal_rows d s a n) i []) ≡ d
unfolding diagonal_rows diagonal_row
length_row d s a zero i l = absurd (omega arith)
length_row d s a (suc n) zero l = length-list_of 1 d (λ k. (same k a + (s - 1) * same k d) % s)
length_row d s a (suc n) (suc i) l = length_row d s (suc a) n i (omega arith)

modulus_low : (n s i : ℕ) → zero < s → i < suc n → 1 ≤ get_or (diagonal_moduli (suc n) s) i 0
unfolding diagonal_moduli
modulus_low n s zero l h = le_refl 1
modulus_low n s (suc i) l h = subst⁻¹ (λ (m : ℕ). 1 ≤ m) (get_or-replicate n i s 0 (le_of_suc-le-suc h)) l

entry_below : (n s i j : ℕ) → zero < s → i < suc n → j < suc n → entry_at (diagonal_matrix (suc n) s) i j < get_or (diagonal_moduli (suc n) s) i 0
unfolding diagonal_moduli diagonal_matrix
entry_below n s zero j l h m = omega (arith, get_or-replicate {A = ℕ} (suc n) j 0 0 m)
entry_below n s (suc i) j l h m =
    subst⁻¹ (λ (b : ℕ). entry_at (diagonal_rows (suc n) s 1 n) i j < b) (get_or-replicate n i s 0 (le_of_suc-le-suc h)) (rows_below (suc n) s 1 n i j l)

-- ---- the plan of a job of d = n + 2 dimensions

module _ (job : Job) (n s : ℕ) (dimensions : job.d ≡ suc (suc n)) (processors : s ^ suc n ≡ job.p) (passed : Passed job)
    (fits : Fits job.extents job.least (diagonal_cuts job.d s)) where
  cuts_many : length (diagonal_cuts job.d s) ≡ job.d
  cuts_many = length-replicate job.d s

  positive : zero < s
  unfolding Positive
  positive = (subst (λ (d : ℕ). Positive (diagonal_cuts d s)) dimensions (fits_positive job.extents job.least (diagonal_cuts job.d s) fits)).0

  side_high : s ≤ 4096
  side_high = le_trans (side-le n s positive) (subst⁻¹ (λ (m : ℕ). m ≤ 4096) processors passed.range.p_high)

  cut_is : (k : ℕ) → k < job.d → get_or (diagonal_cuts job.d s) k 0 ≡ s
  cut_is k l = get_or-replicate job.d k s 0 l

  thick : (k : ℕ) → k < job.d → 1 ≤ get_or job.least k 0
  thick k l = passed.least_low k (subst⁻¹ (λ (m : ℕ). k < m) passed.least_many l)

  rule : (k : ℕ) → k < job.d → get_or (diagonal_cuts job.d s) k 0 * get_or job.least k 0 ≤ get_or job.extents k 0
  rule k l = fits-thickness job.extents job.least (diagonal_cuts job.d s) fits k (subst⁻¹ (λ (m : ℕ). k < m) cuts_many l)

  pub diagonal-in_shape : InShape (diagonal_plan job s)
  diagonal-in_shape = record {
    d_range = (omega (arith, passed.extents_many, passed.range.d_low), omega (arith, passed.extents_many, passed.range.d_high));
    p_range = (passed.range.p_low, passed.range.p_high);
    extent_range = λ k l. let inside = subst⁻¹ (λ (m : ℕ). k < m) passed.extents_many l in (passed.range.extent_low k inside, passed.range.extent_high k inside);
    cut_range = λ k l. (
      subst⁻¹ (λ (m : ℕ). 1 ≤ m) (cut_is k l) positive,
      le-mul_of_pos (get_or (diagonal_cuts job.d s) k 0) (get_or job.least k 0) (get_or job.extents k 0) (thick k l) (rule k l),
      subst⁻¹ (λ (m : ℕ). m ≤ 4096) (cut_is k l) side_high,
    );
    tiles_high = subst⁻¹ (λ (d : ℕ). product (diagonal_cuts d s) ≤ 16777216) dimensions (mul-le-mul side_high tiles);
    modulus_low = λ i l.
        subst⁻¹ (λ (d : ℕ). 1 ≤ get_or (diagonal_moduli d s) i 0) dimensions (modulus_low (suc n) s i positive (subst (λ (d : ℕ). i < d) dimensions l));
    moduli_product = subst⁻¹ (λ (d : ℕ). product (diagonal_moduli d s) ≡ job.p) dimensions (moduli_product (suc n) s ∙ processors);
    entry_below = λ i j l m.
        subst⁻¹ (λ (d : ℕ). entry_at (diagonal_matrix d s) i j < get_or (diagonal_moduli d s) i 0) dimensions
        (entry_below (suc n) s i j positive (subst (λ (d : ℕ). i < d) dimensions l) (subst (λ (d : ℕ). j < d) dimensions m));
    kind_high = le_refl 1;
    least_low = thick;
    least_fits = rule;
  }
    where
      tiles : product (replicate (suc n) s) ≤ 4096
      tiles = subst⁻¹ (λ (m : ℕ). m ≤ 4096) (product-replicate (suc n) s ∙ processors) passed.range.p_high

  pub diagonal_sized : Sized (diagonal_plan job s)
  unfolding diagonal_moduli diagonal_matrix
  diagonal_sized = record {
    few = omega (arith, passed.extents_many, passed.range.d_high);
    extents_length = passed.extents_many;
    weights_length = passed.weights_many;
    cuts_length = cuts_many;
    least_length = passed.least_many;
    moduli_length = subst⁻¹ (λ (d : ℕ). length (diagonal_moduli d s) ≡ d) dimensions moduli_many;
    matrix_length = subst⁻¹ (λ (d : ℕ). length (diagonal_matrix d s) ≡ d) dimensions matrix_many;
    row_length = subst⁻¹ (λ (d : ℕ). (i : ℕ) → i < d → length (get_or (diagonal_matrix d s) i []) ≡ d) dimensions row_many;
  }
    where
      moduli_many : length (diagonal_moduli (suc (suc n)) s) ≡ suc (suc n)
      moduli_many = ap suc (length-replicate (suc n) s)

      matrix_many : length (diagonal_matrix (suc (suc n)) s) ≡ suc (suc n)
      matrix_many = ap suc (length-rows (suc (suc n)) s 1 (suc n))

      row_many : (i : ℕ) → i < suc (suc n) → length (get_or (diagonal_matrix (suc (suc n)) s) i []) ≡ suc (suc n)
      row_many zero l = length-replicate {A = ℕ} (suc (suc n)) 0
      row_many (suc i) l = length_row (suc (suc n)) s 1 (suc n) i (le_of_suc-le-suc l)
