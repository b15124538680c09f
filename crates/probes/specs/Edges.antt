-- What the pass carries, "moving along the slab edges once" (document 02, request h). An extent of n elements is cut into b slabs.
use Rattle.std.specs.Prelude.{◌≡◌, List, ℕ, suc, ◌≤◌, ◌<◌, length, get_or}
use Rattle.multipartition.specs.Slabs.{slab_end}

-- the edge behind one of the slabs
pub record Behind (n b slab after : ℕ) : Type 0 where
  pub below : slab < b
  pub after_is : after ≡ slab_end n b slab

-- "a rising list of element numbers of one dimension, equal neighbours allowed": all among n, and none smaller than the one before
pub record RisingWithin (n : ℕ) (elements : List ℕ) : Type 0 where
  pub within : (i : ℕ) → i < length elements → get_or elements i 0 < n
  pub rises : (i : ℕ) → suc i < length elements → get_or elements i 0 ≤ get_or elements (suc i) 0
