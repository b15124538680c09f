-- Tile numbers and positions (document 01, "Tiles, slabs, chains"; document 02, request i). Dimension k is counted from 0; true is up.
use Rattle.std.specs.Prelude.{Bool, true, false, cond, ◌&&◌, List, [], ◌∷◌, ◌≡◌, ℕ, suc, ◌+◌, ◌-◌, ◌<◌, ltb, eqb, get_or, set}
use Rattle.std.proofs.Math.Option.{Option, none, some}
use Rattle.multipartition.specs.Lists.{starting_with}
use Rattle.multipartition.specs.MixedRadix.{number_up, digits_up}

-- a position inside the grid of some cuts: a coordinate below each cut
unfoldable pub Inside : List ℕ → List ℕ → Type 0
Inside [] [] = Unit {0}
Inside [] (i ∷ position) = ⊥
Inside (b ∷ cuts) [] = ⊥
Inside (b ∷ cuts) (i ∷ position) = (i < b) × Inside cuts position

-- the same as a test
unfoldable pub is_inside : List ℕ → List ℕ → Bool
is_inside [] [] = true
is_inside [] (i ∷ position) = false
is_inside (b ∷ cuts) [] = false
is_inside (b ∷ cuts) (i ∷ position) = ltb i b && is_inside cuts position

-- all positions of the grid, each once
unfoldable pub positions : List ℕ → List (List ℕ)
positions [] = [] ∷ []
positions (b ∷ cuts) = starting_with 0 b (positions cuts)

-- "A tile's number is now 1 + i1 + b1·(i2 + b2·(i3 + ...))" (document 02, request i)
unfoldable pub tile_number : List ℕ → List ℕ → ℕ
tile_number cuts position = 1 + number_up cuts position

-- "and the position of a number follows"
unfoldable pub position_of : List ℕ → ℕ → List ℕ
position_of cuts tile = digits_up cuts (tile - 1)

-- "its position one step on, or 'edge' if that step leaves the grid": none is the edge
unfoldable pub one_step_on : List ℕ → ℕ → Bool → List ℕ → Option (List ℕ)
one_step_on cuts k true position =
    cond (ltb (suc (get_or position k 0)) (get_or cuts k 0)) (some (set position k (suc (get_or position k 0)))) none
one_step_on cuts k false position = cond (eqb (get_or position k 0) 0) none (some (set position k (get_or position k 0 - 1)))

-- the slab after which the grid ends: the last one upward, slab 0 downward
abbrev pub AtEdge : Bool → ℕ → ℕ → Type 0
AtEdge true b i = suc i ≡ b
AtEdge false b i = i ≡ 0
