-- What the planner's answer by value prints is what its answer prints: its plans are in shape.
use Rattle.std.specs.Prelude.{◌≡◌, refl, ℕ, Result, Ok, Err}
use mathlib.Core.Path.{sym, ap, ◌∙◌}
use Rattle.multipartition.specs.Answers.{Answer, answered, refused}
use Rattle.multipartition.specs.Plans.{Job, Layout}
use Rattle.multipartition.specs.Jobs.{plan_answer}
use Rattle.multipartition.proofs.Jobs.{plan_in_shape}
use Rattle.refusals.specs.declared.Refusal.{Refusal}
use Rattle.refusals.specs.Told.{told}
use Rattle.refusals.proofs.Laws.{answered-is, answered-ne-refused, refused-as}
use Rattle.layout.specs.declared.Plan.{Plan}
use Rattle.layout.specs.Plans.{layout_of}
use Rattle.layout.proofs.Plans.{layout_of-plan}
use Rattle.planner.specs.Planned as planner
use Rattle.planner.proofs.Answers.{plan_sized}
use Rattle.plan_text.specs.PlanText.{answer_text}
use Rattle.plan_text.specs.Told.{text_answer, print_answer}
use Rattle.plan_text.proofs.Handing.{print-in_shape}
use Rattle.plan.specs.Printed.{planned_answer}

pub planned_answer_lem : (job : Job) (planned : Result Plan Refusal) (places : ℕ) → told planned ≡ planner.planned_answer (plan_answer job)
    → planned_answer planned places ≡ text_answer (answer_text (plan_answer job)) places
unfolding planned_answer answer_text
planned_answer_lem job planned places = go planned (plan_answer job) refl
  where
    go : (r : Result Plan Refusal) (a : Answer Layout) → plan_answer job ≡ a → told r ≡ planner.planned_answer a
        → planned_answer r places ≡ text_answer (answer_text a) places
    go (Ok plan) (answered layout) e h =
        ap (λ (p : Plan). print_answer (layout_of p) places) (answered-is h)
        ∙ ap (λ (l : Layout). print_answer l places) (layout_of-plan layout (plan_sized job layout e))
        ∙ print-in_shape layout places (plan_in_shape job layout e)
    go (Ok plan) (refused number place) e h = absurd (answered-ne-refused h)
    go (Err r) (answered layout) e h = absurd (answered-ne-refused (sym h))
    go (Err r) (refused number place) e h = ap (λ (a : Answer Layout). text_answer (answer_text a) places) (refused-as h)
