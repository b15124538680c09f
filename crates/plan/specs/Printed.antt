-- What the planner's answer prints.
use Rattle.std.specs.Prelude.{Result, Ok, Err, List, ℕ}
use Rattle.multipartition.specs.Answers.{Answer}
use Rattle.refusals.specs.declared.Refusal.{Refusal}
use Rattle.refusals.specs.Told.{number_of, place_of}
use Rattle.layout.specs.declared.Plan.{Plan}
use Rattle.layout.specs.Plans.{layout_of}
use Rattle.plan_text.specs.PlanText.{refused_text}
use Rattle.plan_text.specs.Told.{text_answer, print_answer}

-- a plan, or a refusal with its number and its place
unfoldable pub planned_answer : Result Plan Refusal → ℕ → Answer (List ℕ)
planned_answer (Ok plan) places = print_answer (layout_of plan) places
planned_answer (Err r) places = text_answer (refused_text (number_of r) (place_of r)) places
