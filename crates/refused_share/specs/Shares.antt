-- The smallest share of the machine that is refused too (document 02, request j).
use Rattle.std.specs.Prelude.{Bool, false, cond, ◌&&◌, ◌≡◌, ℕ, ◌%◌, ◌<◌, eqb}
use Rattle.std.proofs.Math.Option.{Option, none, some}
use Rattle.std.specs.Int.{◌∣◌}
use Rattle.multipartition.specs.Answers.{Answer, answered, refused}
use Rattle.multipartition.specs.Lists.{first_such}
use Rattle.multipartition.specs.Plans.{Job, Layout, thick_job}
use Rattle.multipartition.specs.Jobs.{plan_answer}

-- "the same job", for x processors
abbrev pub job_for : ℕ → Job → Job
job_for x job = thick_job x job.d job.extents job.weights job.least

-- "refused with 5"
unfoldable pub is_five : Answer Layout → Bool
is_five (answered plan) = false
is_five (refused number place) = eqb number 5

-- a "divisor of p for which the same job is refused with 5"
unfoldable pub is_refused_divisor : Job → ℕ → Bool
is_refused_divisor job x = eqb (job.p % x) 0 && is_five (plan_answer (job_for x job))

-- "the smallest divisor of p for which the same job is refused with 5": the first such number from 1 to p
unfoldable pub smallest_refused : Job → ℕ
smallest_refused job = first_such (is_refused_divisor job) 1 job.p

-- what is shown where the planner answers so: "For such a job the planner gives the smallest divisor .. For an accepted job it answers that there is
-- nothing to show; other refusals come back as before."
unfoldable pub share_of : Job → Answer Layout → Answer (Option ℕ)
share_of job (answered plan) = answered none
share_of job (refused number place) = cond (eqb number 5) (answered (some (smallest_refused job))) (refused number place)

-- the answer to a job
unfoldable pub share_answer : Job → Answer (Option ℕ)
share_answer job = share_of job (plan_answer job)

-- what the answer x says
pub record Smallest (job : Job) (x : ℕ) : Type 0 where
  -- it is a divisor of p, and is refused with 5
  pub divides : x ∣ job.p
  pub is_refused : plan_answer (job_for x job) ≡ refused 5 0
  -- every smaller divisor of p is accepted
  pub smaller : (y : ℕ) → y ∣ job.p → y < x → (plan : Layout) × (plan_answer (job_for y job) ≡ answered plan)
  -- every divisor of p that it divides is refused with 5 too
  pub multiples : (y : ℕ) → y ∣ job.p → x ∣ y → plan_answer (job_for y job) ≡ refused 5 0
