-- Walks from neighbour to neighbour along one dimension (document 01, "Owners"). Places are counted from 0.
use Rattle.std.specs.Prelude.{Bool, true, false, ◌≡◌, ℕ, ◌+◌, ◌-◌, ◌%◌, ◌≤◌, ◌<◌, get_or, take}
use Rattle.numbers.specs.Products.{product}
use Rattle.multipartition.specs.MixedRadix.{number_from, digits_of}
use Rattle.layout.specs.declared.Plan.{Plan}
use Rattle.layout.specs.Plans.{layout_of}
use Rattle.layout.specs.Shaped.{entry_of}
use Rattle.walks.specs.declared.Coordinated.{Coordinated}
use Rattle.walks.specs.declared.Stride.{Stride}

-- a processor of a plan, with its coordinates: zero past d
pub record IsProcessor (plan : Plan) (processor : ℕ) (at : Coordinated) : Type 0 where
  pub number_is : at.number ≡ processor
  pub coordinate_is : (i : ℕ) → i < 5 → get_or at.coordinates i 0 ≡ get_or (digits_of (layout_of plan).moduli processor) i 0

-- what is added to a coordinate for an entry below m, modulo m: upward the entry, downward what is left of m
abbrev pub stride_of : Bool → ℕ → ℕ → ℕ
stride_of true m entry = entry
stride_of false m entry = (m - entry) % m

-- the stride of a plan along k: "q's coordinates plus column k, each modulo mi; downward, minus". Past d, 0 modulo 1.
pub record Strides (plan : Plan) (k : ℕ) (up : Bool) (stride : Stride) : Type 0 where
  pub modulus_is : (i : ℕ) → i < plan.d → get_or stride.moduli i 0 ≡ get_or plan.moduli i 0
  pub modulus_past : (i : ℕ) → plan.d ≤ i → i < 5 → get_or stride.moduli i 0 ≡ 1
  pub added_is : (i : ℕ) → i < plan.d → get_or stride.added i 0 ≡ stride_of up (get_or plan.moduli i 0) (entry_of plan.matrix i k)
  pub added_past : (i : ℕ) → plan.d ≤ i → i < 5 → get_or stride.added i 0 ≡ 0

-- five moduli that multiply to at most 4,096, with what is added and the coordinates below them
pub record Walkable (stride : Stride) (from : Coordinated) : Type 0 where
  pub product_high : product (take 5 stride.moduli) ≤ 4096
  pub added_below : (i : ℕ) → i < 5 → get_or stride.added i 0 < get_or stride.moduli i 0
  pub coordinate_below : (i : ℕ) → i < 5 → get_or from.coordinates i 0 < get_or stride.moduli i 0

-- one stride on: each coordinate plus what is added, modulo its modulus, and the number that they make
pub record Steps (stride : Stride) (from to : Coordinated) : Type 0 where
  pub number_is : to.number ≡ number_from 0 (take 5 stride.moduli) to.coordinates
  pub coordinate_is : (i : ℕ) → i < 5
      → get_or to.coordinates i 0 ≡ (get_or from.coordinates i 0 + get_or stride.added i 0) % get_or stride.moduli i 0
