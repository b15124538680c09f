-- Chains (document 01, "Tiles, slabs, chains"): tiles 1 to n, and `own`, which gives a tile's owner. Document 02, request i: "'Lowest' and 'next
-- higher' in the chains mean the new numbers."
use Rattle.std.specs.Prelude.{◌≡◌, cond, List, [], ◌∷◌, ◌++◌, ℕ, zero, suc, ◌-◌, ◌≤◌, eqb, length, get_or, take}
use Rattle.multipartition.specs.Lists.{list_of}

-- the lowest of `count` tiles, the first of them `from`, that q owns; "zero if it has none"
unfoldable pub lowest : (ℕ → ℕ) → ℕ → ℕ → ℕ → ℕ
lowest own q from zero = 0
lowest own q from (suc count) = cond (eqb (own from) q) from (lowest own q (suc from) count)

-- "the owner's next higher tile; zero ends the chain"
abbrev pub next_higher : (ℕ → ℕ) → ℕ → ℕ → ℕ
next_higher own n tile = lowest own (own tile) (suc tile) (n - tile)

-- "The first, of p places, holds each processor's lowest tile"
unfoldable pub heads_of : (ℕ → ℕ) → ℕ → ℕ → List ℕ
heads_of own n p = list_of 0 p (λ q. lowest own q 1 n)

-- "The second, of one place a tile, holds the owner's next higher tile"
unfoldable pub nexts_of : (ℕ → ℕ) → ℕ → List ℕ
nexts_of own n = list_of 1 n (next_higher own n)

-- following the second list from a tile on: the tiles on the way; "zero ends the chain"
pub data Chain (nexts : List ℕ) : ℕ → List ℕ → Type 0 where
  ends : Chain nexts 0 []
  goes_on : (tile : ℕ) (tiles : List ℕ) → 1 ≤ tile → Chain nexts (get_or nexts (tile - 1) 0) tiles → Chain nexts tile (tile ∷ tiles)

-- tiles from `low` on, each above the one before
abbrev pub Rising : ℕ → List ℕ → Type 0
Rising low [] = Unit {0}
Rising low (tile ∷ tiles) = (low ≤ tile) × Rising (suc tile) tiles

-- ---- The walk (document 02, request e): "the chain call visits the highest tile first". At stage t the tiles above t are visited and the tiles up to
-- t are not: stage n is before the first visit, stage 0 after the last.

-- "the first list holds each processor's lowest tile among those visited, zero if none"
unfoldable pub heads_at : (ℕ → ℕ) → ℕ → ℕ → ℕ → List ℕ
heads_at own n p t = list_of 0 p (λ q. lowest own q (suc t) (n - t))

-- "the second holds, for each visited tile, its owner's next higher tile, zero if none; and places of tiles not yet visited hold what was lent"
unfoldable pub nexts_at : (ℕ → ℕ) → ℕ → List ℕ → ℕ → List ℕ
nexts_at own n lent t = take t lent ++ list_of (suc t) (n - t) (next_higher own n)

-- the two lists at stage t of a walk before which the second, of one place a tile, held `lent`
pub record Stage (own : ℕ → ℕ) (n p t : ℕ) (lent heads nexts : List ℕ) : Type 0 where
  pub within : t ≤ n
  pub lent_length : length lent ≡ n
  pub heads_are : heads ≡ heads_at own n p t
  pub nexts_are : nexts ≡ nexts_at own n lent t
