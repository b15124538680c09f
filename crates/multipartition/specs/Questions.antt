-- What the questions about a plan answer (document 01, "Tiles, slabs, chains" and "Where each call turns back"). A question numbers dimensions
-- from 1.
use Rattle.std.specs.Prelude.{Bool, not, List, [], ◌∷◌, ℕ, ◌-◌, ltb, eqb, length, get_or}
use Rattle.std.proofs.Math.Option.{Option}
use Rattle.multipartition.specs.Answers.{Answer, answered, Check, checked}
use Rattle.multipartition.specs.Plans.{Layout, tiles_of, between, in_shape}
use Rattle.multipartition.specs.Owners.{owner_at}
use Rattle.multipartition.specs.Neighbours.{neighbour_at}
use Rattle.multipartition.specs.Tiles.{is_inside, tile_number, position_of, one_step_on}
use Rattle.multipartition.specs.Slabs.{slab_start, slab_end, slab_of}
use Rattle.multipartition.specs.Chains.{heads_of, nexts_of, heads_at, nexts_at}

-- the extent, the cut and the least thickness of dimension k
abbrev pub extent_of : Layout → ℕ → ℕ
extent_of plan k = get_or plan.extents (k - 1) 0

abbrev pub cut_of : Layout → ℕ → ℕ
cut_of plan k = get_or plan.cuts (k - 1) 0

abbrev pub least_thickness : Layout → ℕ → ℕ
least_thickness plan k = get_or plan.least (k - 1) 0

-- ---- the lines 6 to 9 of the table

-- "plan out of shape"
abbrev pub shape_check : Layout → Check
shape_check plan = record { fails = not (in_shape plan); number = 6; place = 0 }

-- "dimension not 1..d"
abbrev pub dimension_check : Layout → ℕ → Check
dimension_check plan k = record { fails = not (between 1 plan.d k); number = 7; place = 0 }

-- "slab, element, tile number, position coordinate or processor number out of range"; "a position of another length than d is an 8"
abbrev pub range_check : Bool → Check
range_check in_range = record { fails = not in_range; number = 8; place = 0 }

-- "a chain list of another length than stated"; document 02, request h: "a second list shorter than the first is a 9"
abbrev pub length_check : Bool → Check
length_check fits = record { fails = not fits; number = 9; place = 0 }

-- ---- the questions

-- the owner of a position by the plan's moduli and matrix
abbrev pub owner_by : Layout → List ℕ → ℕ
owner_by plan = owner_at plan.moduli plan.matrix

-- who owns a position
unfoldable pub owner_answer : Layout → List ℕ → Answer ℕ
owner_answer plan position =
    checked (shape_check plan ∷ range_check (is_inside plan.cuts position) ∷ []) (answered (owner_by plan position))

-- who is the neighbour of processor q along dimension k, up or down; none is "no neighbour"
unfoldable pub neighbour_answer : Layout → ℕ → ℕ → Bool → Answer (Option ℕ)
neighbour_answer plan q k up =
    checked (shape_check plan ∷ dimension_check plan k ∷ range_check (ltb q plan.p) ∷ [])
    (answered (neighbour_at plan.cuts plan.moduli plan.matrix (k - 1) up q))

-- the number of a tile
unfoldable pub number_answer : Layout → List ℕ → Answer ℕ
number_answer plan position =
    checked (shape_check plan ∷ range_check (is_inside plan.cuts position) ∷ []) (answered (tile_number plan.cuts position))

-- the position one step on along dimension k, up or down; none is "edge"
unfoldable pub step_answer : Layout → List ℕ → ℕ → Bool → Answer (Option (List ℕ))
step_answer plan position k up =
    checked (shape_check plan ∷ dimension_check plan k ∷ range_check (is_inside plan.cuts position) ∷ [])
    (answered (one_step_on plan.cuts (k - 1) up position))

-- the position of a tile number
unfoldable pub position_answer : Layout → ℕ → Answer (List ℕ)
position_answer plan tile = checked (shape_check plan ∷ range_check (between 1 (tiles_of plan) tile) ∷ []) (answered (position_of plan.cuts tile))

-- the first element of slab s of dimension k, and the element after its last
unfoldable pub slab_answer : Layout → ℕ → ℕ → Answer (ℕ × ℕ)
slab_answer plan k s =
    checked (shape_check plan ∷ dimension_check plan k ∷ range_check (ltb s (cut_of plan k)) ∷ [])
    (answered (slab_start (extent_of plan k) (cut_of plan k) s, slab_end (extent_of plan k) (cut_of plan k) s))

-- the slab of an element of dimension k
unfoldable pub slab_of_answer : Layout → ℕ → ℕ → Answer ℕ
slab_of_answer plan k element =
    checked (shape_check plan ∷ dimension_check plan k ∷ range_check (ltb element (extent_of plan k)) ∷ [])
    (answered (slab_of (extent_of plan k) (cut_of plan k) element))

-- the owner of a tile, by its number
abbrev pub tile_owner : Layout → ℕ → ℕ
tile_owner plan tile = owner_by plan (position_of plan.cuts tile)

-- "Chains need 6 and 9 only.": for lent lists of so many places
abbrev pub chain_checks : Layout → ℕ → ℕ → List Check
chain_checks plan heads nexts = shape_check plan ∷ length_check (eqb heads plan.p) ∷ length_check (eqb nexts (tiles_of plan)) ∷ []

-- the two chain lists
unfoldable pub chains_answer : Layout → ℕ → ℕ → Answer (List ℕ × List ℕ)
chains_answer plan heads nexts =
    checked (chain_checks plan heads nexts) (answered (heads_of (tile_owner plan) (tiles_of plan) plan.p, nexts_of (tile_owner plan) (tiles_of plan)))

-- the two lists where the walk stops at stage t, for a first list of so many places and a second that held `lent` (document 02, request e)
unfoldable pub stage_answer : Layout → ℕ → ℕ → List ℕ → Answer (List ℕ × List ℕ)
stage_answer plan t heads lent =
    checked (chain_checks plan heads (length lent))
    (answered (heads_at (tile_owner plan) (tiles_of plan) plan.p t, nexts_at (tile_owner plan) (tiles_of plan) lent t))
