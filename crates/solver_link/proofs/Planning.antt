-- Planning over the link: a plan that a planning call answers has a d of at most 5, and its list is read as that plan.
use mathlib.Core.Path.{◌≡◌, ap, subst⁻¹, ◌∙◌}
use Prim.Native.Nat.{◌≤◌}
use Rattle.multipartition.specs.Answers.{Answer, answered, refused}
use Rattle.multipartition.specs.Jobs.{plan_answer}
use Rattle.multipartition.specs.Plans.{Job, Layout}
use Rattle.refusals.proofs.Laws.{answered-is, answered-ne-refused}
use Rattle.layout.specs.declared.Plan.{Plan}
use Rattle.layout.specs.Plans.{plan_of, layout_of}
use Rattle.layout.specs.Sized.{Sized}
use Rattle.layout.proofs.Plans.{layout_of-plan}
use Rattle.planner.specs.Planned.{planned_answer}
use Rattle.planner.proofs.Answers.{plan_sized}
use Rattle.diagonal.specs.Diagonal.{diagonal_answer}
use Rattle.diagonal.proofs.Answers.{diagonal_answer_sized}
use Rattle.link_lists.specs.Lists.{plan_in, list_of_plan}
use Rattle.link_lists.proofs.Plans.{plan_in_list, arrays_of_layout}

-- a planned d
few_planned : (asked : Answer Layout) → ((layout : Layout) → asked ≡ answered layout → Sized layout)
    → (plan : Plan) → answered plan ≡ planned_answer asked → plan.d ≤ 5
unfolding plan_of
few_planned (answered layout) sized plan e = subst⁻¹ (λ (p : Plan). p.d ≤ 5) (answered-is e) (sized layout (λ i. answered layout)).few
few_planned (refused number place) sized plan e = absurd (answered-ne-refused e)

pub few-plan : (job : Job) (plan : Plan) → answered plan ≡ planned_answer (plan_answer job) → plan.d ≤ 5
few-plan job = few_planned (plan_answer job) (plan_sized job)

pub few_diagonal : (job : Job) (plan : Plan) → answered plan ≡ planned_answer (diagonal_answer job) → plan.d ≤ 5
few_diagonal job = few_planned (diagonal_answer job) (diagonal_answer_sized job)

-- ---- the list that a planning call writes is read as the plan that it answers

layout_of_list : (layout : Layout) → Sized layout → layout_of (plan_in (list_of_plan (plan_of layout))) ≡ layout
layout_of_list layout sized = ap layout_of (plan_in_list (plan_of layout) (arrays_of_layout layout)) ∙ layout_of-plan layout sized

pub layout_of_planned_list : (job : Job) (layout : Layout) → plan_answer job ≡ answered layout → layout_of (plan_in (list_of_plan (plan_of layout))) ≡ layout
layout_of_planned_list job layout a = layout_of_list layout (plan_sized job layout a)

pub layout_of_diagonal_list : (job : Job) (layout : Layout) → diagonal_answer job ≡ answered layout → layout_of (plan_in (list_of_plan (plan_of layout))) ≡ layout
layout_of_diagonal_list job layout a = layout_of_list layout (diagonal_answer_sized job layout a)
