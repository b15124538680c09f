-- A plan in shape, as facts on its numbers: what the calls that take one ask of it. Lists and rows are read by places, counted from 0.
use Rattle.std.specs.Prelude.{Bool, ◌&&◌, List, ◌≡◌, ℕ, ◌+◌, ◌*◌, ◌≤◌, ◌<◌, ltb, length, get_or, take}
use Rattle.numbers.specs.Products.{product}
use Rattle.multipartition.specs.Lists.{all_below}
use Rattle.multipartition.specs.Plans.{between, dimension_ok, least_ok}
use Rattle.layout.specs.declared.Plan.{Plan}

-- the entry of row i and column j of a plan's matrix: the rows stand five places apart
abbrev pub entry_of : List ℕ → ℕ → ℕ → ℕ
entry_of matrix i j = get_or matrix (i * 5 + j) 0

-- row i: its modulus is from 1 to 4,096, as the factors of p are, and each of its d entries is below the modulus
abbrev pub row_fits : ℕ → List ℕ → List ℕ → ℕ → Bool
row_fits d moduli matrix i = between 1 4096 (get_or moduli i 0) && all_below d (λ j. ltb (entry_of matrix i j) (get_or moduli i 0))

-- extent, cut and least thickness of dimension k + 1 are in range, and so is row k
abbrev pub place_fits : ℕ → List ℕ → List ℕ → List ℕ → List ℕ → List ℕ → ℕ → Bool
place_fits d extents cuts moduli matrix least k = dimension_ok extents cuts k && least_ok extents least cuts k && row_fits d moduli matrix k

-- the first d of the numbers, at most five, are from 1 to 4,096
pub record Factors (d : ℕ) (numbers : List ℕ) : Type 0 where
  pub few : d ≤ 5
  pub low : (k : ℕ) → k < d → 1 ≤ get_or numbers k 0
  pub high : (k : ℕ) → k < d → get_or numbers k 0 ≤ 4096

-- "d: 2 to 5. p: 1 to 4,096."; document 02, request c: "a kind above 1 is a 6"
pub record Ranges (d p kind : ℕ) : Type 0 where
  pub d_low : 2 ≤ d
  pub d_high : d ≤ 5
  pub p_low : 1 ≤ p
  pub p_high : p ≤ 4096
  pub kind_high : kind ≤ 1

-- what "in shape" says of the plan's own places
pub record Shaped (plan : Plan) : Type 0 where
  pub d_low : 2 ≤ plan.d
  pub d_high : plan.d ≤ 5
  pub p_low : 1 ≤ plan.p
  pub p_high : plan.p ≤ 4096
  pub kind_high : plan.kind ≤ 1
  pub extent_low : (k : ℕ) → k < plan.d → 1 ≤ get_or plan.extents k 0
  pub extent_high : (k : ℕ) → k < plan.d → get_or plan.extents k 0 ≤ 1000000
  pub cut_low : (k : ℕ) → k < plan.d → 1 ≤ get_or plan.cuts k 0
  pub cut_high : (k : ℕ) → k < plan.d → get_or plan.cuts k 0 ≤ 4096
  pub cut_fits : (k : ℕ) → k < plan.d → get_or plan.cuts k 0 ≤ get_or plan.extents k 0
  pub least_low : (k : ℕ) → k < plan.d → 1 ≤ get_or plan.least k 0
  pub least_fits : (k : ℕ) → k < plan.d → get_or plan.cuts k 0 * get_or plan.least k 0 ≤ get_or plan.extents k 0
  pub tiles_high : product (take plan.d plan.cuts) ≤ 16777216
  pub modulus_low : (i : ℕ) → i < plan.d → 1 ≤ get_or plan.moduli i 0
  pub modulus_high : (i : ℕ) → i < plan.d → get_or plan.moduli i 0 ≤ plan.p
  pub entry_below : (i j : ℕ) → i < plan.d → j < plan.d → entry_of plan.matrix i j < get_or plan.moduli i 0
  pub moduli_product : product (take plan.d plan.moduli) ≡ plan.p
  pub extents_long : plan.d ≤ length plan.extents
  pub cuts_long : plan.d ≤ length plan.cuts
  pub moduli_long : plan.d ≤ length plan.moduli
