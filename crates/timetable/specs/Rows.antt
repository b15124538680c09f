-- How the faces of a processor in a slab are added up. Along a dimension the owner goes from neighbour to neighbour, so a row of tiles along one
-- dimension is known from the owner of its first tile: a table has, for each such owner, what the row has of the processor. The table is read for
-- the rows of the slab, which again lie in lines along a dimension. Dimensions are counted from 0.
use Rattle.std.specs.Prelude.{Bool, true, false, List, [], ◌∷◌, ◌≡◌, ℕ, zero, suc, ◌+◌, ◌*◌, ◌/◌, ◌%◌, ◌≤◌, ◌<◌, length, get_or, map, set, take, replicate}
use Rattle.numbers.specs.Products.{product}
use Rattle.numbers.specs.Sums.{sum, same}
use Rattle.multipartition.specs.Owners.{owner_at}
use Rattle.multipartition.specs.Neighbours.{next_owner}
use Rattle.multipartition.specs.Questions.{owner_by}
use Rattle.multipartition.specs.Rivals.{held}
use Rattle.multipartition.specs.Slabs.{thickness}
use Rattle.layout.specs.declared.Plan.{Plan}
use Rattle.layout.specs.Plans.{layout_of}
use Rattle.timetable.specs.Faces.{thicknesses, faces_held}
use Rattle.timetable.specs.declared.slab_faces.Tally.{Tally}

-- the positions of a grid, numbered with the first dimension fastest: any order serves
unfoldable pub places_of : List ℕ → ℕ → List ℕ
places_of [] r = []
places_of (b ∷ cuts) r = (r % b) ∷ places_of cuts (r / b)

-- t steps along dimension j from processor q
unfoldable pub steps_on : List ℕ → List (List ℕ) → ℕ → Bool → ℕ → ℕ → ℕ
steps_on moduli matrix j up zero q = q
steps_on moduli matrix j up (suc t) q = next_owner moduli matrix j up (steps_on moduli matrix j up t q)

-- how many elements along dimension j, of n elements in b slabs, lie in tiles of q, where the row's first tile is o's; of the first m slabs
abbrev pub elements_of : List ℕ → List (List ℕ) → ℕ → ℕ → ℕ → ℕ → ℕ → ℕ → ℕ
elements_of moduli matrix j n b q m o = sum m (λ t. same (steps_on moduli matrix j false t q) o * thickness n b t)

-- the rows of a line along dimension c, of n elements in b slabs, where the line's first tile is o's: their thickness along c times what the table
-- has of them; of the first m slabs
abbrev pub line_over : List ℕ → List (List ℕ) → ℕ → ℕ → ℕ → List ℕ → ℕ → ℕ → ℕ
line_over moduli matrix c n b table m o = sum m (λ t. thickness n b t * get_or table (steps_on moduli matrix c true t o) 0)

-- ---- of a plan by value

-- the plan with one element in one slab in dimension k
unfoldable pub flattened : ℕ → Plan → Plan
flattened k plan = record {
  d = plan.d;
  p = plan.p;
  extents = set plan.extents k 1;
  weights = plan.weights;
  cuts = set plan.cuts k 1;
  cost = plan.cost;
  moduli = plan.moduli;
  matrix = plan.matrix;
  kind = plan.kind;
  least = set plan.least k 1;
}

-- the plan with one element in every slab: its faces are 1, so that their sum counts tiles
unfoldable pub one_each : Plan → Plan
one_each plan = record {
  d = plan.d;
  p = plan.p;
  extents = plan.cuts;
  weights = plan.weights;
  cuts = plan.cuts;
  cost = plan.cost;
  moduli = plan.moduli;
  matrix = plan.matrix;
  kind = plan.kind;
  least = replicate 5 1;
}

-- a table of rows along dimension j, with an entry for each owner of a row's first tile: the elements that the first m slabs have of q
pub record RowTable (plan : Plan) (j q m : ℕ) (table : List ℕ) : Type 0 where
  pub places : length table ≡ 4096
  pub entry : (o : ℕ) → o < 4096
      → get_or table o 0 ≡ elements_of (layout_of plan).moduli (layout_of plan).matrix j (get_or plan.extents j 0) (get_or plan.cuts j 0) q m o

-- the line along dimension c whose first tile is o's, of the first m slabs
abbrev pub line_of : Plan → ℕ → List ℕ → ℕ → ℕ → ℕ
line_of grid c table m o = line_over (layout_of grid).moduli (layout_of grid).matrix c (get_or grid.extents c 0) (get_or grid.cuts c 0) table m o

-- line r of slab v of dimension k, in which the grid of these extents and cuts has one slab, as it has along c: what the line's tiles share, times the
-- line along c, of n elements in b slabs
abbrev pub line_in : List ℕ → List ℕ → List ℕ → List (List ℕ) → ℕ → ℕ → ℕ → List ℕ → ℕ → ℕ → ℕ → ℕ
line_in extents cuts moduli matrix c n b table k v r =
    product (thicknesses extents cuts (places_of cuts r)) * line_over moduli matrix c n b table b (owner_at moduli matrix (set (places_of cuts r) k v))

-- the same for plans by value: the grid has one slab in dimension k, `flat` one in dimension c too
abbrev pub slab_line : Plan → Plan → ℕ → ℕ → ℕ → List ℕ → ℕ → ℕ
slab_line grid flat c k v table =
    line_in (layout_of flat).extents (layout_of flat).cuts (layout_of grid).moduli (layout_of grid).matrix c
    (get_or grid.extents c 0) (get_or grid.cuts c 0) table k v

-- ---- tallies

-- the columns of a table
abbrev pub elements_in : List Tally → List ℕ
elements_in = map (λ tally. tally.elements)

abbrev pub tiles_in : List Tally → List ℕ
tiles_in = map (λ tally. tally.tiles)

abbrev pub no_tally : Tally
no_tally = record { elements = 0; tiles = 0 }

abbrev pub plus : Tally → Tally → Tally
plus a b = record { elements = a.elements + b.elements; tiles = a.tiles + b.tiles }

-- the same tiles, each this thick in dimensions more
abbrev pub thick : ℕ → Tally → Tally
thick thickness a = record { elements = thickness * a.elements; tiles = a.tiles }

-- both numbers fit 32 bits
pub record Fits (a : Tally) : Type 0 where
  pub elements : a.elements ≤ 4294967295
  pub tiles : a.tiles ≤ 4294967295

-- A table of rows along dimension j, with what the first m slabs have of q for each owner of a row's first tile. Tiles are the elements with one element
-- in every slab.
pub record Shares (plan : Plan) (j q m : ℕ) (table : List Tally) : Type 0 where
  pub elements : RowTable plan j q m (elements_in table)
  pub tiles : RowTable (one_each plan) j q m (tiles_in table)

-- the line along dimension c whose first tile is o's, of the first m slabs
abbrev pub line_tally : Plan → ℕ → List Tally → ℕ → ℕ → Tally
line_tally grid c table m o = record { elements = line_of grid c (elements_in table) m o; tiles = line_of (one_each grid) c (tiles_in table) m o }

-- line r of slab v of dimension k
abbrev pub tally_of_line : Plan → Plan → ℕ → ℕ → ℕ → List Tally → ℕ → Tally
tally_of_line grid flat c k v table r = record {
  elements = slab_line grid flat c k v (elements_in table) r;
  tiles = slab_line (one_each grid) (one_each flat) c k v (tiles_in table) r;
}

-- the first n lines
abbrev pub tally_of_lines : Plan → Plan → ℕ → ℕ → ℕ → List Tally → ℕ → Tally
tally_of_lines grid flat c k v table n = record {
  elements = sum n (slab_line grid flat c k v (elements_in table));
  tiles = sum n (slab_line (one_each grid) (one_each flat) c k v (tiles_in table));
}

-- what processor q has of slab v of dimension k
abbrev pub tally_held : Plan → ℕ → ℕ → ℕ → Tally
tally_held plan k v q = record {
  elements = faces_held (layout_of plan).extents (layout_of plan).cuts (owner_by (layout_of plan)) k v q;
  tiles = held (layout_of plan).cuts (owner_by (layout_of plan)) k v q;
}

-- ---- what the functions ask

-- the first d places are those of position r
abbrev pub HasPlaces : Plan → ℕ → List ℕ → Type 0
HasPlaces grid r at = (i : ℕ) → i < grid.d → get_or at i 0 ≡ get_or (places_of (layout_of grid).cuts r) i 0

-- each place below its cut
abbrev pub BelowCuts : Plan → List ℕ → Type 0
BelowCuts grid at = (i : ℕ) → i < grid.d → get_or at i 0 < get_or grid.cuts i 0

-- a line: the owner of its first tile, and a table whose sums along it fit 32 bits
pub record LineAsked (grid : Plan) (c : ℕ) (table : List Tally) (o : ℕ) : Type 0 where
  pub processor : o < grid.p
  pub fits : Fits (line_tally grid c table (get_or grid.cuts c 0) o)

-- the lines of a slab, whose sums fit 32 bits
pub record SlabAsked (grid flat : Plan) (c k v : ℕ) (table : List Tally) : Type 0 where
  pub same_d : flat.d ≡ grid.d
  pub dimension : k < grid.d
  pub slab_small : v < 4096
  pub places : length table ≡ 4096
  pub volume_fits : product (take flat.d flat.extents) ≤ 4294967295
  pub fits : Fits (tally_of_lines grid flat c k v table (product (layout_of flat).cuts))
