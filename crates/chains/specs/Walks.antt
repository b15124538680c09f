-- What the walk over the tiles goes by: five counts and five tables of downward neighbours. A count is the product of the cuts of some dimensions
-- that follow each other and are walked as one; counts of ones stand after them. Places are counted from 0, and place 0 runs fastest.
use Rattle.std.specs.Prelude.{Bool, true, false, ◌≡◌, ◌≢◌, List, ℕ, suc, ◌+◌, ◌-◌, ◌*◌, ◌/◌, ◌%◌, ◌<◌, ◌≤◌, max, length, get_or, take}
use Rattle.numbers.specs.Products.{product}
use Rattle.multipartition.specs.Neighbours.{next_owner}
use Rattle.multipartition.specs.Plans.{tiles_of}
use Rattle.multipartition.specs.Questions.{tile_owner}
use Rattle.layout.specs.declared.Plan.{Plan}
use Rattle.layout.specs.Plans.{layout_of}
use Rattle.layout.specs.Shaped.{entry_of}
use Rattle.chains.specs.Stages.{Onward}
use Rattle.chains.specs.declared.Way.{Way}
use Rattle.chains.specs.declared.Way.TheVariants as W

-- ---- blocks

-- A block of level k: the tiles with the same coordinates from place k on. They are consecutive, as many as the counts before multiply to.
abbrev pub block_size : List ℕ → ℕ → ℕ
block_size counts level = product (take level counts)

-- the highest tile of a block, among n tiles
pub record BlockTop (counts : List ℕ) (level n top : ℕ) : Type 0 where
  pub block : ℕ
  pub is : top ≡ suc block * block_size counts level
  pub within : top ≤ n

-- ---- tables

-- the processor one step down from q along place k: five tables of 4,096 places, one after the other
abbrev pub lower : List ℕ → ℕ → ℕ → ℕ
lower downs k q = get_or downs (k * 4096 + q) 0

-- a table of two steps down along place 0
pub record TwoSteps (p : ℕ) (downs twice : List ℕ) : Type 0 where
  pub at : (q : ℕ) → q < p → get_or twice q 0 ≡ lower downs 0 (lower downs 0 q)

-- from q on the next `run` steps down along place 0 go to q - 1, q - 2, ..
pub record Falls (downs : List ℕ) (q run : ℕ) : Type 0 where
  pub few : run ≤ q
  pub steps : (j : ℕ) → j < run → lower downs 0 (q - j) ≡ q - (j + 1)

-- a table of falling runs
pub record FallingRuns (p : ℕ) (downs runs : List ℕ) : Type 0 where
  pub long : length runs ≡ 4096
  pub at : (q : ℕ) → q < p → Falls downs q (get_or runs q 0)

-- from q on, one of p processors, the next `run` steps down along place 0 go to q + 1, q + 2, ..
pub record Rises (p : ℕ) (downs : List ℕ) (q run : ℕ) : Type 0 where
  pub few : q + run < p
  pub steps : (j : ℕ) → j < run → lower downs 0 (q + j) ≡ q + (j + 1)

-- a table of rising runs
pub record RisingRuns (p : ℕ) (downs runs : List ℕ) : Type 0 where
  pub long : length runs ≡ 4096
  pub at : (q : ℕ) → q < p → Rises p downs q (get_or runs q 0)

-- ---- both directions

-- the processor j further on in a run: above q where it rises, below q where it falls
abbrev pub along : Bool → ℕ → ℕ → ℕ
along true q j = q + j
along false q j = q - j

-- that processor is one of p, as q is
abbrev pub Reaches : Bool → ℕ → ℕ → ℕ → Type 0
Reaches true p q j = q + j < p
Reaches false p q j = (j ≤ q) × (q < p)

-- the processor i places from the end at which the runs of p processors end: the last of them where they rise, the first where they fall
abbrev pub nth : Bool → ℕ → ℕ → ℕ
nth true p i = p - 1 - i
nth false p i = i

-- a table of runs
abbrev pub Runs : Bool → ℕ → List ℕ → List ℕ → Type 0
Runs true p downs runs = RisingRuns p downs runs
Runs false p downs runs = FallingRuns p downs runs

-- what the table `leaps` has for a line: two steps along place 0, falling runs or rising runs
pub record Leaps (way : Way) (p : ℕ) (downs leaps : List ℕ) : Type 0 where
  pub two : way ≡ W.Paired → TwoSteps p downs leaps
  pub falling : way ≡ W.Falling → FallingRuns p downs leaps
  pub rising : way ≡ W.Rising → RisingRuns p downs leaps

-- counts, and tables that lead from processors to processors
pub record Tables (p : ℕ) (counts downs : List ℕ) : Type 0 where
  pub few : p ≤ 4096
  pub five : length counts ≡ 5
  pub low : (k : ℕ) → k < 5 → 1 ≤ get_or counts k 0
  pub below : (k q : ℕ) → k < 5 → q < p → lower downs k q < p

-- Each of n tiles whose coordinate at place k is not 0 has, one step down along k, a tile of its owner's downward neighbour.
pub record Led (n : ℕ) (counts downs : List ℕ) (own : ℕ → ℕ) : Type 0 where
  pub down : (k tile : ℕ) → k < 5 → 1 ≤ tile → tile ≤ n → 1 ≤ (tile - 1) / block_size counts k % get_or counts k 0
      → own (tile - block_size counts k) ≡ lower downs k (own tile)

-- `count` tiles, the highest of them `top`, are visited; the one j below `top` belongs to `who j`
abbrev pub Run : (ℕ → ℕ) → ℕ → ℕ → List ℕ → List ℕ → List ℕ → List ℕ → Type 0
Run who top count heads nexts heads' nexts' =
    Onward (λ own. (j : ℕ) → j < count → own (top - j) ≡ who j) top (top - count) heads nexts heads' nexts'

-- the tiles above `stop` of the block of a level whose highest is `top`, a tile of processor q, are visited
abbrev pub Walks : List ℕ → List ℕ → ℕ → ℕ → ℕ → ℕ → List ℕ → List ℕ → List ℕ → List ℕ → Type 0
Walks counts downs level q stop top heads nexts heads' nexts' =
    Onward (λ own. Led (length nexts) counts downs own × (own top ≡ q)) (max stop top) (max stop (top - block_size counts level)) heads nexts heads' nexts'

-- ---- of a plan

-- table c becomes that of a plan's downward neighbours along place k, and the others stay
pub record Tabled (plan : Plan) (k c : ℕ) (downs downs' : List ℕ) : Type 0 where
  pub long : length downs' ≡ 20480
  pub there : (q : ℕ) → q < plan.p → lower downs' c q ≡ next_owner (layout_of plan).moduli (layout_of plan).matrix k false q
  pub others : (j q : ℕ) → j ≢ c → q < plan.p → lower downs' j q ≡ lower downs j q

-- Column k of the matrix is g times column j, so that a step along k is g steps along j; or k is not cut.
pub record Continues (plan : Plan) (g j k : ℕ) : Type 0 where
  pub step : get_or plan.cuts k 0 ≢ 1 → (i : ℕ) → i < plan.d → (g * entry_of plan.matrix i j) % get_or plan.moduli i 0 ≡ entry_of plan.matrix i k

-- The first k dimensions are counted, in c places. The places after them have ones.
pub record Collected (plan : Plan) (k c : ℕ) (counts downs : List ℕ) : Type 0 where
  pub few : c ≤ k
  pub long : length downs ≡ 20480
  pub tables : Tables plan.p counts downs
  pub ones : (j : ℕ) → c ≤ j → j < 5 → get_or counts j 0 ≡ 1
  pub front : block_size counts c ≡ product (take k (layout_of plan).cuts)
  pub led : Led (tiles_of (layout_of plan)) counts downs (tile_owner (layout_of plan))

-- The same, and the last of the places has the table of dimension `first`.
pub record Grouped (plan : Plan) (k at first : ℕ) (counts downs : List ℕ) : Type 0 where
  pub collected : Collected plan k (at + 1) counts downs
  pub early : first < k
  pub table : (q : ℕ) → q < plan.p → lower downs at q ≡ next_owner (layout_of plan).moduli (layout_of plan).matrix first false q

-- counts and tables of a plan
pub record Counted (plan : Plan) (counts downs : List ℕ) : Type 0 where
  pub tables : Tables plan.p counts downs
  pub whole : block_size counts 5 ≡ tiles_of (layout_of plan)
  pub led : Led (tiles_of (layout_of plan)) counts downs (tile_owner (layout_of plan))
