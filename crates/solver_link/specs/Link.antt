-- The calls of the link for a solver in C (document 01, "Tiles, slabs, chains").
use Rattle.std.specs.Prelude as options
use Rattle.std.specs.Prelude.{not, List, [], ◌∷◌, ℕ, eqb, length, replicate}
use Rattle.std.proofs.Math.Option.{Option, none, some}
use Rattle.multipartition.specs.Answers.{Answer, answered, refused, checked}
use Rattle.multipartition.specs.Plans.{Layout, job_with}
use Rattle.multipartition.specs.Jobs.{plan_answer}
use Rattle.multipartition.specs.Questions.{owner_answer, neighbour_answer, slab_answer, slab_of_answer, number_answer, position_answer, step_answer, chains_answer}
use Rattle.layout.specs.Plans.{layout_of, plan_of}
use Rattle.refused_share.specs.Shares.{share_answer}
use Rattle.diagonal.specs.Diagonal.{diagonal_answer}
use Rattle.hypercube.specs.Hypercube.{hypercube_answer}
use Rattle.probes.specs.Probes.{probes_answer}
use Rattle.sheet.specs.Pages.{sheet_answer}
use Rattle.tiles.specs.declared.positions.Position.{Position}
use Rattle.timetable.specs.Timetable.{timetable_answer}
use Rattle.link_lists.specs.Lists.{plan_in, list_of_plan, plan_list_check, place_in32, into, visit_numbers}

-- what follows an answer; a refusal stays
abbrev pub and_then : {A B : Type 0} → Answer A → (A → Answer B) → Answer B
and_then (answered a) next = next a
and_then (refused number place) next = refused number place

-- a plan that is answered: the plan list
abbrev pub plan_listed : ℕ → Answer Layout → Answer (List ℕ)
plan_listed places asked = and_then asked (λ layout. into places (list_of_plan (plan_of layout)))

-- an owner that is answered: the processor
abbrev pub owner_listed : ℕ → Answer ℕ → Answer (List ℕ)
owner_listed places asked = and_then asked (λ q. into places (q ∷ []))

-- 1 and what was found, or 0 and 0 for none: "no neighbour", or "nothing to show"
abbrev pub found_numbers : Option ℕ → List ℕ
found_numbers none = 0 ∷ 0 ∷ []
found_numbers (some x) = 1 ∷ x ∷ []

-- the same as an answer
abbrev pub found_listed : ℕ → Answer (Option ℕ) → Answer (List ℕ)
found_listed places asked = and_then asked (λ found. into places (found_numbers found))

-- planning, with a list of least thicknesses that may be empty (document 02, request g)
unfoldable pub plan_link : ℕ → ℕ → List ℕ → List ℕ → List ℕ → ℕ → Answer (List ℕ)
plan_link p d extents weights least places = plan_listed places (plan_answer (job_with p d extents weights least))

-- the smallest divisor of p for which the same job is refused with 5 (document 02, request j)
unfoldable pub smallest_refused_link : ℕ → ℕ → List ℕ → List ℕ → List ℕ → ℕ → Answer (List ℕ)
smallest_refused_link p d extents weights least places = found_listed places (share_answer (job_with p d extents weights least))

-- a diagonal plan (document 02, request c), likewise
unfoldable pub diagonal_link : ℕ → ℕ → List ℕ → List ℕ → List ℕ → ℕ → Answer (List ℕ)
diagonal_link p d extents weights least places = plan_listed places (diagonal_answer (job_with p d extents weights least))

-- the owner of a position of the hypercube layout (document 02, request c): the processor
unfoldable pub hypercube_owner_link : ℕ → List ℕ → ℕ → Answer (List ℕ)
hypercube_owner_link p position places = owner_listed places (hypercube_answer p position)

-- the owner of a position: the processor
unfoldable pub owner_link : List ℕ → List ℕ → ℕ → Answer (List ℕ)
owner_link list position places = checked (plan_list_check list ∷ []) (owner_listed places (owner_answer (layout_of (plan_in list)) position))

-- the neighbour of a processor; a direction other than 0 is up
unfoldable pub neighbour_link : List ℕ → ℕ → ℕ → ℕ → ℕ → Answer (List ℕ)
neighbour_link list q k up places =
    checked (plan_list_check list ∷ []) (found_listed places (neighbour_answer (layout_of (plan_in list)) q k (not (eqb up 0))))

-- a slab: its first element and the element after its last
unfoldable pub slab_link : List ℕ → ℕ → ℕ → ℕ → Answer (List ℕ)
slab_link list k s places =
    checked (plan_list_check list ∷ []) (and_then (slab_answer (layout_of (plan_in list)) k s) (λ ends. into places (ends.0 ∷ ends.1 ∷ [])))

-- the slab of an element
unfoldable pub slab_of_link : List ℕ → ℕ → ℕ → ℕ → Answer (List ℕ)
slab_of_link list k element places =
    checked (plan_list_check list ∷ []) (and_then (slab_of_answer (layout_of (plan_in list)) k element) (λ s. into places (s ∷ [])))

-- the slabs of a probe line, in a list that held `lent` (document 02, request h), with the place of a fall whatever it is
unfoldable pub probes_listed : List ℕ → ℕ → List ℕ → List ℕ → Answer (List ℕ)
probes_listed list k elements lent = checked (plan_list_check list ∷ []) (probes_answer (layout_of (plan_in list)) k elements lent)

-- the same with the place in 32 bits
unfoldable pub slabs_of_link : List ℕ → ℕ → List ℕ → List ℕ → Answer (List ℕ)
slabs_of_link list k elements lent = checked (plan_list_check list ∷ []) (place_in32 (probes_answer (layout_of (plan_in list)) k elements lent))

-- a page of a slab sheet, for a list of so many bytes (document 02, request k)
unfoldable pub slab_sheet_link : List ℕ → ℕ → ℕ → List ℕ → ℕ → Answer (List ℕ)
slab_sheet_link list k page caption places = checked (plan_list_check list ∷ []) (sheet_answer (layout_of (plan_in list)) k page caption places)

-- the number of the tile at a position
unfoldable pub tile_number_link : List ℕ → List ℕ → ℕ → Answer (List ℕ)
tile_number_link list position places =
    checked (plan_list_check list ∷ []) (and_then (number_answer (layout_of (plan_in list)) position) (λ tile. into places (tile ∷ [])))

-- the position of a tile: its coordinates
unfoldable pub tile_position_link : List ℕ → ℕ → ℕ → Answer (List ℕ)
tile_position_link list tile places =
    checked (plan_list_check list ∷ []) (and_then (position_answer (layout_of (plan_in list)) tile) (λ position. into places position))

-- 1 and the coordinates one step on, or for "edge" as many zeros: d is the number of coordinates
abbrev pub step_numbers : ℕ → Option (List ℕ) → List ℕ
step_numbers d none = 0 ∷ replicate d 0
step_numbers d (some position) = 1 ∷ position

-- the numbers that the call takes these from: 1 and the five places of the position, or six zeros
abbrev pub step_places : options.Option Position → List ℕ
step_places options.None = replicate 6 0
step_places (options.Some position) = 1 ∷ position.at

-- the position one step on; a direction other than 0 is up
unfoldable pub step_link : List ℕ → List ℕ → ℕ → ℕ → ℕ → Answer (List ℕ)
step_link list position k up places =
    checked (plan_list_check list ∷ [])
    (and_then (step_answer (layout_of (plan_in list)) position k (not (eqb up 0))) (λ next. into places (step_numbers (length position) next)))

-- the timetable of a sweep (document 02, request b); a direction other than 0 is up
unfoldable pub timetable_link : List ℕ → ℕ → ℕ → ℕ → ℕ → ℕ → Answer (List ℕ)
timetable_link list k up step q places =
    checked (plan_list_check list ∷ [])
    (and_then (timetable_answer (layout_of (plan_in list)) k (not (eqb up 0)) step q) (λ visit. into places (visit_numbers visit)))

-- the chains, for lists of so many places
unfoldable pub chains_link : List ℕ → ℕ → ℕ → Answer (List ℕ × List ℕ)
chains_link list heads nexts = checked (plan_list_check list ∷ []) (chains_answer (layout_of (plan_in list)) heads nexts)
