-- The rival of demand 3 (document 01, "The rival of demand 3"). Dimension k is counted from 0.
use Rattle.std.specs.Prelude.{◌&&◌, List, ◌⊎◌, ◌≢◌, ◌≡◌, ℕ, suc, ◌<◌, eqb, length, get_or}
use Rattle.multipartition.specs.Lists.{count}
use Rattle.multipartition.specs.Cuts.{Fits}
use Rattle.multipartition.specs.Plans.{Job}
use Rattle.multipartition.specs.Tiles.{Inside, positions}

-- cuts of a class "together with one owner, 0 to p - 1, for each tile position. The owners may follow any rule or none"
pub record RivalAmong (p : ℕ) (Class : List ℕ → Type 0) : Type 0 where
  pub cuts : List ℕ
  pub member : Class cuts
  pub owner : List ℕ → ℕ
  pub below : (position : List ℕ) → Inside cuts position → owner position < p

-- "A rival is any fitting cuts" with such owners. Document 02, request g: "Ours and the rival of demand 3 are given the same thicknesses".
abbrev pub Rival : Job → Type 0
Rival job = RivalAmong job.p (Fits job.extents job.least)

-- how many tiles of slab s of dimension k the processor q owns
unfoldable pub held : List ℕ → (List ℕ → ℕ) → ℕ → ℕ → ℕ → ℕ
held cuts owner k s q = count (λ position. eqb (get_or position k 0) s && eqb (owner position) q) (positions cuts)

-- "for every dimension and every slab of it, all p processors own the same number of that slab's tiles"
unfoldable pub Balanced : ℕ → List ℕ → (List ℕ → ℕ) → Type 0
Balanced p cuts owner =
    (k s : ℕ) → k < length cuts → s < get_or cuts k 0 → (q r : ℕ) → q < p → r < p → held cuts owner k s q ≡ held cuts owner k s r

-- "Two tiles have a common face if their positions differ in one dimension only, and there by one."
pub record Face (x y : List ℕ) : Type 0 where
  pub dimension : ℕ
  pub elsewhere : (j : ℕ) → j ≢ dimension → get_or x j 0 ≡ get_or y j 0
  pub by_one : (get_or y dimension 0 ≡ suc (get_or x dimension 0)) ⊎ (get_or x dimension 0 ≡ suc (get_or y dimension 0))
