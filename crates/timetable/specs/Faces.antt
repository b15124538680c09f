-- The faces of tiles (document 02, request b). Dimension k is counted from 0; lists run from dimension 1, as in multipartition.
use Rattle.std.specs.Prelude.{cond, ◌&&◌, List, [], ◌∷◌, ℕ, eqb, get_or}
use Rattle.numbers.specs.Products.{product, without}
use Rattle.multipartition.specs.Lists.{first, rest, sum_over}
use Rattle.multipartition.specs.Slabs.{thickness}
use Rattle.multipartition.specs.Tiles.{positions}

-- the thicknesses of the tile at a position, one a dimension
unfoldable pub thicknesses : List ℕ → List ℕ → List ℕ → List ℕ
thicknesses extents [] position = []
thicknesses extents (b ∷ cuts) position = thickness (first extents) b (first position) ∷ thicknesses (rest extents) cuts (rest position)

-- "A tile's face is the product of its thicknesses in the other dimensions"
unfoldable pub face_of : List ℕ → List ℕ → ℕ → List ℕ → ℕ
face_of extents cuts k position = product (without k (thicknesses extents cuts position))

-- the sum of processor q's faces in slab v of dimension k
unfoldable pub faces_held : List ℕ → List ℕ → (List ℕ → ℕ) → ℕ → ℕ → ℕ → ℕ
faces_held extents cuts owner k v q =
    sum_over (λ position. cond (eqb (get_or position k 0) v && eqb (owner position) q) (face_of extents cuts k position) 0) (positions cuts)
