-- The table of what two divisors share, their greatest common divisor. It stands behind the places of the divisors, which are 4,097: one row for each
-- divisor, with its pairs with the divisors up to itself.
use Rattle.std.specs.Prelude.{◌≡◌, List, ◌⊎◌, ℕ, zero, suc, ◌+◌, ◌≤◌, ◌<◌, length, get_or}
use Rattle.numbers.specs.Gcd.{gcd}
use Rattle.cuts.specs.Memory.{Placed}

-- the number of pairs in the first i rows
unfoldable pub rows : ℕ → ℕ
rows zero = 0
rows (suc i) = rows i + suc i

-- the place of the pair (i, j), with j up to i
abbrev pub pair_at : ℕ → ℕ → ℕ
pair_at i j = 4097 + rows i + j

-- r is the place of the pair, in either order
abbrev pub PairAt : ℕ → ℕ → ℕ → Type 0
PairAt i j r = ((j ≤ i) × (r ≡ pair_at i j)) ⊎ ((i < j) × (r ≡ pair_at j i))

-- what stands there is the place of what the two divisors share
abbrev pub SharedAt : List ℕ → List ℕ → ℕ → ℕ → Type 0
SharedAt divisors places i j =
    (get_or places (pair_at i j) 0 < length divisors) × (get_or divisors (get_or places (pair_at i j) 0) 0 ≡ gcd (get_or divisors i 0) (get_or divisors j 0))

-- the table is right as far as the list goes
pub record Shares (divisors places : List ℕ) : Type 0 where
  pub placed : 4097 < length places → Placed divisors places
  pub right : (i j : ℕ) → j ≤ i → i < length divisors → pair_at i j < length places → SharedAt divisors places i j
