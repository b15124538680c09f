-- Slabs and their elements (document 01, "Tiles, slabs, chains"; document 02, request d). An extent of n elements is cut into b slabs.
use Rattle.std.specs.Prelude.{cond, ℕ, zero, suc, ◌+◌, ◌-◌, ◌*◌, ◌/◌, ◌%◌, min, ◌≤◌, ◌<◌, ltb}

-- "the first (n modulo b) slabs have one element more than the others": the first element of slab s. Of the s slabs before it, min(s, n modulo b)
-- have one more.
unfoldable pub slab_start : ℕ → ℕ → ℕ → ℕ
slab_start n b s = s * (n / b) + min s (n % b)

-- the element after the last one of slab s, which holds the elements from its start "up to but not including" this one
abbrev pub slab_end : ℕ → ℕ → ℕ → ℕ
slab_end n b s = slab_start n b (suc s)

-- the thickness of slab s: its number of elements
abbrev pub thickness : ℕ → ℕ → ℕ → ℕ
thickness n b s = slab_end n b s - slab_start n b s

-- the first slab, from slab s on and looking at `count` of them, that ends past an element
unfoldable pub slab_from : ℕ → ℕ → ℕ → ℕ → ℕ → ℕ
slab_from n b element s zero = s
slab_from n b element s (suc count) = cond (ltb element (slab_end n b s)) s (slab_from n b element (suc s) count)

-- "The slab of an element": the first that ends past it
unfoldable pub slab_of : ℕ → ℕ → ℕ → ℕ
slab_of n b element = slab_from n b element 0 b

-- slab s holds an element
abbrev pub InSlab : ℕ → ℕ → ℕ → ℕ → Type 0
InSlab n b s element = (slab_start n b s ≤ element) × (element < slab_end n b s)
