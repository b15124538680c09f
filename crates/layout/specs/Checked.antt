-- What the checks of a plan and of a dimension answer, before a question is answered (document 01, "Where each call turns back").
use Rattle.std.specs.Prelude.{List, [], ◌∷◌, ℕ, ◌+◌}
use Rattle.multipartition.specs.Answers.{Answer, answered, Check, checked}
use Rattle.multipartition.specs.Questions.{shape_check, dimension_check}
use Rattle.layout.specs.declared.Plan.{Plan}
use Rattle.layout.specs.declared.axes.Axis.{Axis}
use Rattle.layout.specs.Plans.{layout_of}

-- the lines 6 and 7 for a plan and a dimension, numbered from 1
abbrev pub axis_checks : Plan → ℕ → List Check
axis_checks plan dimension = shape_check (layout_of plan) ∷ dimension_check (layout_of plan) dimension ∷ []

-- the plan, if it is in shape
abbrev pub shape_answer : Plan → Answer Plan
shape_answer plan = checked (shape_check (layout_of plan) ∷ []) (answered plan)

-- the dimension, if the plan has it; the plan is in shape
abbrev pub dimension_answer : Plan → ℕ → Answer (Plan × ℕ)
dimension_answer plan dimension = checked (dimension_check (layout_of plan) dimension ∷ []) (answered (plan, dimension))

-- the dimension of a plan, if the plan is in shape and has it
abbrev pub axis_answer : Plan → ℕ → Answer (Plan × ℕ)
axis_answer plan dimension = checked (axis_checks plan dimension) (answered (plan, dimension))

-- an axis by its plan and its dimension, numbered from 1
abbrev pub axis_of : Axis → Plan × ℕ
axis_of axis = (axis.shaped.plan, axis.k + 1)
