-- The stages of the walk over the tiles from the highest down (document 02, request e).
use Rattle.std.specs.Prelude.{◌≡◌, List, ℕ, length}
use Rattle.multipartition.specs.Chains.{Stage}
use Rattle.multipartition.specs.Plans.{tiles_of}
use Rattle.multipartition.specs.Questions.{tile_owner}
use Rattle.layout.specs.declared.Plan.{Plan}
use Rattle.layout.specs.Plans.{layout_of}

-- The plan's tiles above t are visited, and the second list held `lent` before. Of `lent` only the places of the tiles up to t count.
abbrev pub Visited : Plan → ℕ → List ℕ → List ℕ → List ℕ → Type 0
Visited plan t lent heads nexts = Stage (tile_owner (layout_of plan)) (tiles_of (layout_of plan)) plan.p t lent heads nexts

-- The two lists go from stage `from` on to stage `to`, whoever owns the tiles, if only `owners` holds of the owners, and whatever was lent.
pub record Onward (owners : (ℕ → ℕ) → Type 0) (from to : ℕ) (heads nexts heads' nexts' : List ℕ) : Type 0 where
  pub heads_kept : length heads' ≡ length heads
  pub nexts_kept : length nexts' ≡ length nexts
  pub stages : (own : ℕ → ℕ) (lent : List ℕ) → owners own → Stage own (length nexts) (length heads) from lent heads nexts
      → Stage own (length nexts) (length heads) to lent heads' nexts'
