-- What the answers of the calls say in document 01's terms: for every case its refusal number and place, or its values.
use Rattle.std.specs.Prelude.{◌≡◌, List, ℕ, Option, None, Some, Result}
use Rattle.std.proofs.Math.Option as maths
use Rattle.multipartition.specs.Answers.{Answer, answered, refused, checked}
use Rattle.multipartition.specs.Questions.{extent_of, cut_of}
use Rattle.layout.specs.declared.Plan.{Plan}
use Rattle.layout.specs.Plans.{layout_of}
use Rattle.layout.specs.Checked.{axis_checks}
use Rattle.refusals.specs.declared.Refusal.{Refusal}
use Rattle.refusals.specs.Told.{told_by, maybe}
use Rattle.tiles.specs.declared.positions.Position.{Position}
use Rattle.tiles.specs.Positions.{coordinates, position_with}

-- ---- positions

-- the coordinates one step on; none is "edge"
abbrev pub moved_to : Option Position → maths.Option (List ℕ)
moved_to None = maths.none
moved_to (Some position) = maths.some (coordinates position)

-- the position in the answer to a step
abbrev pub stepped_to : Answer (maths.Option (List ℕ)) → Answer (maths.Option Position)
stepped_to (answered maths.none) = answered maths.none
stepped_to (answered (maths.some coordinates)) = answered (maths.some (position_with coordinates))
stepped_to (refused number place) = refused number place

-- a step that answers so, with a position that is zero past its coordinates
pub record Moves (answer : Answer (maths.Option (List ℕ))) (result : Result (Option Position) Refusal) : Type 0 where
  pub told : told_by moved_to result ≡ answer
  pub held : told_by maybe result ≡ stepped_to answer

-- the position in the answer to a tile number
abbrev pub found_at : Answer (List ℕ) → Answer Position
found_at (answered coordinates) = answered (position_with coordinates)
found_at (refused number place) = refused number place

-- a look-up that answers so, with a position that is zero past its coordinates
pub record Locates (answer : Answer (List ℕ)) (result : Result Position Refusal) : Type 0 where
  pub told : told_by coordinates result ≡ answer
  pub held : told_by (λ position. position) result ≡ found_at answer

-- ---- slabs

-- the extent of a dimension and its cut, after the lines 6 and 7
abbrev pub slabs_answer : Plan → ℕ → Answer (ℕ × ℕ)
slabs_answer plan k = checked (axis_checks plan k) (answered (extent_of (layout_of plan) k, cut_of (layout_of plan) k))
