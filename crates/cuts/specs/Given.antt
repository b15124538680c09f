-- What a search is given.
use Rattle.std.specs.Prelude.{◌≡◌, List, ℕ, ◌≤◌, length}

-- "d: 2 to 5. p: 1 to 4,096", with a bound of the cuts and a weight for each dimension
pub record Asked (p : ℕ) (most weights : List ℕ) : Type 0 where
  pub p_low : 1 ≤ p
  pub p_high : p ≤ 4096
  pub d_low : 2 ≤ length most
  pub d_high : length most ≤ 5
  pub weights_too : length weights ≡ length most
