-- Figures of the timetable, computed from the definitions.
use mathlib.Core.Path.{◌≡◌, refl}
use mathlib.Core.Bool.{Bool, true, false}
use mathlib.Core.List.{List, [], ◌∷◌, map}
use mathlib.Core.Option.{none, some}
use Prim.Native.Nat.{ℕ}
use Rattle.numbers.specs.Gcd.{gcd}
use Rattle.numbers.specs.Sums.{same}
use Rattle.multipartition.specs.Answers.{Answer, answered, refused}
use Rattle.multipartition.specs.Lists.{all_below, starting_with, sum_over, count, list_of}
use Rattle.multipartition.specs.Moduli.{moduli_of}
use Rattle.multipartition.specs.Matrix.{remainder, finish, finished_rows, rows_of, remainders_of, matrix_of}
use Rattle.multipartition.specs.MixedRadix.{number_from, digits_of}
use Rattle.multipartition.specs.Owners.{times, coordinates_at, owner_at}
use Rattle.multipartition.specs.Neighbours.{column_of, turn, turned, next_owner, neighbour_at}
use Rattle.multipartition.specs.Plans.{Layout, job_with, layout_with, in_shape}
use Rattle.multipartition.specs.Rivals.{held}
use Rattle.multipartition.specs.Slabs.{slab_start}
use Rattle.multipartition.specs.Tiles.{positions}
use Rattle.timetable.specs.Faces.{thicknesses, face_of, faces_held}
use Rattle.timetable.specs.Timetable.{faces_at, sends_after, expects_before, Visit, visit_of, timetable_answer}

-- 4 processors on 8 8 8
abbrev cube : Layout
cube = layout_with (job_with 4 3 (8 ∷ 8 ∷ 8 ∷ []) (1 ∷ 1 ∷ 1 ∷ []) []) (2 ∷ 2 ∷ 2 ∷ [])

-- 6 processors on 9 9 9
abbrev box : Layout
box = layout_with (job_with 6 3 (9 ∷ 9 ∷ 9 ∷ []) (1 ∷ 1 ∷ 1 ∷ []) []) (2 ∷ 3 ∷ 6 ∷ [])

-- 2 processors on m n 2
abbrev long : ℕ → ℕ → Layout
long m n = layout_with (job_with 2 3 (m ∷ n ∷ 2 ∷ []) (1 ∷ 1 ∷ 1 ∷ []) []) (1 ∷ 2 ∷ 2 ∷ [])

-- a plan in shape that no planner made: processor 1 has no tile in slab 0 of dimension 1
abbrev uneven : Layout
uneven = record {
  d = 2;
  p = 6;
  extents = 9 ∷ 9 ∷ [];
  weights = 1 ∷ 1 ∷ [];
  cuts = 3 ∷ 2 ∷ [];
  cost = 0;
  moduli = 1 ∷ 6 ∷ [];
  matrix = (0 ∷ 0 ∷ []) ∷ (2 ∷ 3 ∷ []) ∷ [];
  kind = 0;
  least = 1 ∷ 1 ∷ [];
}

-- a question: dimension, direction, step, processor
pub record Question : Type 0 where
  pub plan : Layout
  pub k : ℕ
  pub up : Bool
  pub s : ℕ
  pub q : ℕ

abbrev pub answer_to : Question → Answer Visit
answer_to question = timetable_answer question.plan question.k question.up question.s question.q

abbrev pub questions : List Question
questions =
    record { plan = cube; k = 1; up = true; s = 0; q = 0 }
    ∷ record { plan = cube; k = 1; up = true; s = 1; q = 2 }
    ∷ record { plan = cube; k = 1; up = false; s = 0; q = 0 }
    ∷ record { plan = box; k = 2; up = true; s = 0; q = 0 }
    ∷ record { plan = box; k = 2; up = true; s = 0; q = 1 }
    ∷ record { plan = box; k = 2; up = true; s = 1; q = 0 }
    ∷ record { plan = box; k = 2; up = false; s = 0; q = 0 }
    ∷ record { plan = box; k = 2; up = false; s = 1; q = 0 }
    ∷ record { plan = box; k = 2; up = false; s = 2; q = 0 }
    ∷ record { plan = uneven; k = 1; up = true; s = 0; q = 1 }
    ∷ record { plan = long 65536 65536; k = 3; up = true; s = 9; q = 9 }
    ∷ record { plan = long 65536 65536; k = 4; up = true; s = 9; q = 9 }
    ∷ record { plan = long 65535 65537; k = 3; up = true; s = 0; q = 0 }
    ∷ record { plan = long 65535 65537; k = 3; up = true; s = 2; q = 0 }
    ∷ record { plan = long 65535 65537; k = 3; up = true; s = 0; q = 2 }
    ∷ []

pub figures : map answer_to questions
    ≡ answered (record { slab = 0; tiles = 1; sends = some (2, 16); expects = none })
    ∷ answered (record { slab = 1; tiles = 1; sends = none; expects = some (0, 16) })
    ∷ answered (record { slab = 1; tiles = 1; sends = some (2, 16); expects = none })
    ∷ answered (record { slab = 0; tiles = 2; sends = some (4, 18); expects = none })
    ∷ answered (record { slab = 0; tiles = 2; sends = some (5, 18); expects = none })
    ∷ answered (record { slab = 1; tiles = 2; sends = some (4, 14); expects = some (2, 14) })
    ∷ answered (record { slab = 2; tiles = 2; sends = some (2, 9); expects = none })
    ∷ answered (record { slab = 1; tiles = 2; sends = some (2, 14); expects = some (4, 14) })
    ∷ answered (record { slab = 0; tiles = 2; sends = none; expects = some (4, 18) })
    ∷ answered (record { slab = 0; tiles = 0; sends = some (3, 0); expects = none })
    ∷ refused 11 0
    ∷ refused 7 0
    ∷ answered (record { slab = 0; tiles = 1; sends = some (1, 2147516415); expects = none })
    ∷ refused 8 0
    ∷ refused 8 0
    ∷ []
unfolding gcd same all_below starting_with count moduli_of remainder finish finished_rows rows_of remainders_of matrix_of list_of number_from digits_of times coordinates_at owner_at column_of turn turned next_owner neighbour_at in_shape held slab_start positions thicknesses face_of sum_over faces_held faces_at sends_after expects_before visit_of timetable_answer
figures = refl
