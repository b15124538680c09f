-- A dimension's extent of n elements, cut into b slabs.
use Rattle.std.specs.Prelude.{ℕ, ◌≤◌}

-- what a plan in shape has of each dimension: each slab has an element
pub record IsCut (n b : ℕ) : Type 0 where
  pub extent_high : n ≤ 1000000
  pub cut_low : 1 ≤ b
  pub cut_high : b ≤ 4096
  pub cut_fits : b ≤ n
