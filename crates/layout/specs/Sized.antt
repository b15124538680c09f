-- A layout that a plan by value can hold.
use Rattle.std.specs.Prelude.{[], ◌≡◌, ℕ, ◌≤◌, ◌<◌, length, get_or}
use Rattle.multipartition.specs.Plans.{Layout}

-- "each list has d numbers, the matrix d rows of d numbers", and d is at most 5
pub record Sized (layout : Layout) : Type 0 where
  pub few : layout.d ≤ 5
  pub extents_length : length layout.extents ≡ layout.d
  pub weights_length : length layout.weights ≡ layout.d
  pub cuts_length : length layout.cuts ≡ layout.d
  pub least_length : length layout.least ≡ layout.d
  pub moduli_length : length layout.moduli ≡ layout.d
  pub matrix_length : length layout.matrix ≡ layout.d
  pub row_length : (i : ℕ) → i < layout.d → length (get_or layout.matrix i []) ≡ layout.d
