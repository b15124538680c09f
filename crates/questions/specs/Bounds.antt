-- What keeps the sums and products of the two questions within 32 bits. Places are counted from 0.
use Rattle.std.specs.Prelude.{List, ℕ, ◌≤◌, ◌<◌, length, get_or, take}
use Rattle.numbers.specs.Products.{product}
use Rattle.layout.specs.Shaped.{entry_of}

-- d moduli that multiply to at most 4,096, and d rows of entries below them
pub record Reduced (d : ℕ) (moduli matrix : List ℕ) : Type 0 where
  pub few : d ≤ 5
  pub long : d ≤ length moduli
  pub modulus_low : (i : ℕ) → i < d → 1 ≤ get_or moduli i 0
  pub product_high : product (take d moduli) ≤ 4096
  pub entry_below : (i j : ℕ) → i < d → j < d → entry_of matrix i j < get_or moduli i 0

-- d numbers, at most five, below 4,096
pub record Small (d : ℕ) (numbers : List ℕ) : Type 0 where
  pub few : d ≤ 5
  pub below : (k : ℕ) → k < d → get_or numbers k 0 < 4096
