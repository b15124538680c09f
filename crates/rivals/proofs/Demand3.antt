-- Demand 3: the theory's facts about the cheapest cuts, their owners and neighbours, said of what the calls answer.
use mathlib.Core.Bool.{true}
use mathlib.Core.List.{List}
use mathlib.Core.Logic.{inl, inr}
use mathlib.Core.Option.{Option, none, some, none-ne-some}
use mathlib.Core.Path.{◌≡◌, refl, sym, ap, ◌∙◌, subst, subst⁻¹}
use Prim.Native.Nat.{ℕ, zero, ◌≤◌, ◌<◌}
use Rattle.multipartition.specs.Answers.{Answer, answered, refused}
use Rattle.multipartition.specs.Cuts.{Even, cost_of}
use Rattle.multipartition.specs.Jobs.{PlanFor, Passed, cheapest_for, plan_with, plan_answer}
use Rattle.multipartition.specs.Owners.{owner_of}
use Rattle.multipartition.specs.Plans.{Job, Layout, job_of, layout_with, in_shape}
use Rattle.multipartition.specs.Questions.{owner_by}
use Rattle.multipartition.specs.Rivals.{held}
use Rattle.multipartition.specs.Tiles.{Inside}
use Rattle.multipartition.proofs.Chosen.{balanced_iff-chosen, chosen_fits, chosen-length, chosen_even, chosen_minimal, chosen_no_dearer, chosen_no_more_tiles}
use Rattle.multipartition.proofs.Faces.{faces_differ}
use Rattle.multipartition.proofs.Jobs.{plan_answered, plan_in_shape, plan_of_passed}
use Rattle.multipartition.proofs.Owners.{even_owners}
use Rattle.layout.specs.declared.Plan.{Plan}
use Rattle.layout.specs.Plans.{layout_of, plan_of}
use Rattle.layout.proofs.Plans.{layout_of-plan, layout_with_sized}
use Rattle.refusals.proofs.Laws.{answered-ne-refused, answered-is}
use Rattle.planner.specs.Planned.{planned_answer}
use Rattle.rivals.specs.Demand3.{cuts_of, owner_in, EvenPlan, Ours, Accepted, Demand3}
use Rattle.rivals.proofs.EvenPlans.{owner_by_lem, even-plan}

module _ (job : Job) (plan : Plan) (e : plan_answer job ≡ answered (layout_of plan)) where
  made : PlanFor job (layout_of plan)
  made = plan_answered job (layout_of plan) e

  some_processor : zero < job.p
  some_processor = made.passed.range.p_low

  cuts_even : Even job.p (cuts_of plan)
  cuts_even = chosen_even job made.passed (cuts_of plan) made.cuts_are

  cost_is : plan.cost ≡ cost_of job.weights (cuts_of plan)
  unfolding layout_of
  cost_is = ap (λ (l : Layout). l.cost) made.plan_is

  held_job : job_of (layout_of plan) ≡ job
  held_job = ap job_of made.plan_is

  shaped : in_shape (layout_of plan) ≡ true
  shaped = plan_in_shape job (layout_of plan) e

  -- the owners by moduli and matrix are the paper's
  owners_are : owner_by (layout_of plan) ≡ owner_of job.p (cuts_of plan)
  unfolding owner_of
  owners_are = ap owner_by made.plan_is

  owner_of_lem : (x : List ℕ) → Inside (cuts_of plan) x → owner_in plan x ≡ owner_of job.p (cuts_of plan) x
  owner_of_lem x w = owner_by_lem job plan held_job shaped x w ∙ ap (λ (own : List ℕ → ℕ). own x) owners_are

  ours : Ours job plan
  unfolding layout_of
  ours = record {
    kind_is = ap (λ (l : Layout). l.kind) made.plan_is;
    even =
        even-plan job plan held_job shaped (chosen_fits job made.passed (cuts_of plan) made.cuts_are)
        (λ k s q l m o.
        ap (λ (own : List ℕ → ℕ). held (cuts_of plan) own k s q) owners_are ∙ even_owners job.p (cuts_of plan) some_processor cuts_even k s q l m o)
        cost_is;
    cheapest_of_all = λ rival balanced.
        subst⁻¹ (λ (n : ℕ). n ≤ cost_of job.weights rival.cuts) cost_is (chosen_no_dearer job made.passed (cuts_of plan) made.cuts_are rival balanced);
    fewest_of_equals = λ rival balanced equal.
        chosen_no_more_tiles job made.passed (cuts_of plan) made.cuts_are rival balanced (sym cost_is ∙ equal);
    faces_differ = λ x y w v face same-owner.
        faces_differ job.p (cuts_of plan) some_processor (chosen_minimal job made.passed (cuts_of plan) made.cuts_are) x y w v face
        (sym (owner_of_lem x w) ∙ same-owner ∙ owner_of_lem y v);
  }

-- a refusal is no plan
not-accepted : (number place : ℕ) → Accepted (refused number place) → ⊥
not-accepted number place accepted = answered-ne-refused (sym accepted.1)

-- DEMAND 3, for all jobs in the stated ranges and all rivals.
pub demand-3 : (job : Job) → Passed job → Demand3 job (planned_answer (plan_answer job))
unfolding plan_with
demand-3 job passed = go (cheapest_for job) refl
  where
    go : (chosen : Option (List ℕ)) → cheapest_for job ≡ chosen → Demand3 job (planned_answer (plan_answer job))
    go none e =
        subst⁻¹ (λ (a : Answer Layout). Demand3 job (planned_answer a))
        (plan_of_passed job passed ∙ ap (plan_with job) e)
        (record {
          accepts = (
            (λ accepted. absurd (not-accepted 5 0 accepted)),
            λ rival. absurd (none-ne-some _ (sym e ∙ ((balanced_iff-chosen job passed).0 rival).1)),
          );
          refuses = inr refl;
          ours = λ plan answers. absurd (answered-ne-refused (sym answers));
        })
    go (some cuts) e =
        let answers : plan_answer job ≡ answered (layout_with job cuts) =
        plan_of_passed job passed ∙ ap (plan_with job) e in
        let back : layout_of (plan_of (layout_with job cuts)) ≡ layout_with job cuts =
        layout_of-plan (layout_with job cuts) (layout_with_sized job cuts passed (chosen-length job passed cuts e)) in
        subst⁻¹ (λ (a : Answer Layout). Demand3 job (planned_answer a)) answers
        (record {
          accepts = ((λ accepted. (balanced_iff-chosen job passed).1 (cuts, e)), λ rival. (plan_of (layout_with job cuts), refl));
          refuses = inl (plan_of (layout_with job cuts), refl);
          ours = λ plan same. subst (Ours job) (answered-is same) (ours job (plan_of (layout_with job cuts)) (answers ∙ ap answered (sym back)));
        })

-- so every plan that the planner answers is even
pub planner_even : (job : Job) (layout : Layout) → plan_answer job ≡ answered layout → EvenPlan job (plan_of layout)
planner_even job layout made =
    ((demand-3 job (plan_answered job layout made).passed).ours (plan_of layout) (ap planned_answer made)).even
