-- The planner's answer: a refusal has a number from 1 on, and a plan fits its five places; and what its checks alone say of it.
use mathlib.Core.Path.{◌≡◌, sym, ap, ◌∙◌, subst⁻¹}
use mathlib.Core.List.{[]}
use mathlib.Core.Logic.{◌≢◌}
use Prim.Native.Nat.{ℕ, ◌+◌, ◌≤◌}
use native.Mathlib.Omega.{arith}
use Rattle.multipartition.specs.Answers.{Answer, answered, refused}
use Rattle.multipartition.specs.Plans.{Job, Layout}
use Rattle.multipartition.specs.Jobs.{Passed, first_outside, first_zero, job_checks, cheapest_for, plan_with, plan_answer}
use Rattle.multipartition.proofs.Chosen.{chosen-length}
use Rattle.multipartition.proofs.Answers.{Small, checked_passed, checked_answered}
use Rattle.multipartition.proofs.Jobs.{job_passes_iff, passed_of-five, plan_answered, plan_small}
use Rattle.layout.specs.Sized.{Sized}
use Rattle.layout.proofs.Plans.{layout_with_sized}
use Rattle.refusals.proofs.Laws.{answered-ne-refused, turned_back-on, passed-on}
use Rattle.planner.specs.Planned.{job_answer}

abbrev pub Numbered : Answer Layout → Type 0
Numbered (answered plan) = Unit {0}
Numbered (refused number place) = 1 ≤ number

pub numbered_of_small : (most : ℕ) (a : Answer Layout) → Small most a → Numbered a
numbered_of_small most (answered plan) h = tt
numbered_of_small most (refused number place) h = h.0

pub numbered-plan : (job : Job) → Numbered (plan_answer job)
numbered-plan job =
    let most : ℕ = first_outside job.extents + first_zero job.least in numbered_of_small most (plan_answer job) (plan_small job most (omega arith) (omega arith))

pub plan_sized : (job : Job) (plan : Layout) → plan_answer job ≡ answered plan → Sized plan
plan_sized job plan e =
    let made = plan_answered job plan e in
    subst⁻¹ Sized made.plan_is (layout_with_sized job plan.cuts made.passed (chosen-length job made.passed plan.cuts made.cuts_are))

-- ---- what the checks alone say

-- the job that passed is the one that was asked
pub same_job : (job passed : Job) → answered passed ≡ job_answer job → passed ≡ job
same_job job passed e = (passed-on (job_checks job) [] job passed (answered job) e).0

-- a refusal by the checks is the planner's, and none of them is a 5
module _ (job : Job) (number place : ℕ) (e : ◌≡◌ {A = Answer Job} (refused number place) (job_answer job)) where
  pub checks_refuse : plan_answer job ≡ refused number place
  unfolding plan_answer
  checks_refuse = sym (turned_back-on (job_checks job) [] job (plan_with job (cheapest_for job)) e)

  pub checks-not-5 : number ≢ 5
  checks-not-5 five =
      let all = (job_passes_iff job).1 (passed_of-five job place (checks_refuse ∙ ap (λ (n : ℕ). refused n place) five)) in
      answered-ne-refused (sym (checked_passed (job_checks job) (answered job) all) ∙ sym e)

-- what passed the checks
pub checks_passed : (job passed : Job) → answered passed ≡ job_answer job → Passed passed
checks_passed job passed e =
    subst⁻¹ Passed (same_job job passed e) ((job_passes_iff job).0 ((checked_answered (job_checks job) (answered job) passed).0 (sym e)).0)
