-- Document 02, request c: "Diagonal plans are shown even and never cheaper than the planner's". The calls promise the definitions diagonal_answer,
-- plan_answer and owner_answer, which stand here for them.
use Rattle.std.specs.Prelude.{[], ◌∷◌, ◌⊎◌, ◌≡◌, ℕ, ◌+◌, ◌-◌, ◌*◌, ◌%◌, ◌≤◌, pos, ◌-ℤ◌}
use Rattle.multipartition.specs.Answers.{Answer, answered}
use Rattle.multipartition.specs.Jobs.{plan_answer}
use Rattle.multipartition.specs.Matrix.{remainder}
use Rattle.multipartition.specs.Plans.{Job}
use Rattle.multipartition.specs.Tiles.{Inside}
use Rattle.layout.specs.declared.Plan.{Plan}
use Rattle.layout.specs.Plans.{layout_of}
use Rattle.planner.specs.Planned.{planned_answer}
use Rattle.rivals.specs.Demand3.{cuts_of, owner_in, EvenPlan, Accepted}

-- What holds of a plan that diagonal::diagonal_job answers.
pub record Diagonal (job : Job) (plan : Plan) : Type 0 where
  -- "a kind field: .. 1 for diagonal"
  pub kind_is : plan.kind ≡ 1
  -- "shown even"
  pub even : EvenPlan job plan
  -- "never cheaper than the planner's": the planner accepts the job too, and its plan costs no more
  pub planned_too : Accepted (planned_answer (plan_answer job))
  pub never_cheaper : (ours : Plan) → planned_answer (plan_answer job) ≡ answered ours → ours.cost ≤ plan.cost
  -- the layouts are for "d = 2" and for "d = 3 and p = s·s"
  pub suited : (job.d ≡ 2) ⊎ ((job.d ≡ 3) × ((s : ℕ) × (job.p ≡ s * s)))
  -- "For d = 2 there are p cuts each way and the owner is (i1 − i2) modulo p." "Their moduli are 1 p .. Row 1 is zero; row 2 is 1 p−1 for d = 2 ..
  -- each entry reduced modulo its row's modulus"
  pub cuts_2 : job.d ≡ 2 → cuts_of plan ≡ job.p ∷ job.p ∷ []
  pub moduli_2 : job.d ≡ 2 → (layout_of plan).moduli ≡ 1 ∷ job.p ∷ []
  pub rows_2 : job.d ≡ 2 → (layout_of plan).matrix ≡ (0 ∷ 0 ∷ []) ∷ (1 % job.p ∷ (job.p - 1) % job.p ∷ []) ∷ []
  pub owner_2 : job.d ≡ 2 → (i1 i2 : ℕ) → Inside (cuts_of plan) (i1 ∷ i2 ∷ []) → owner_in plan (i1 ∷ i2 ∷ []) ≡ remainder (pos i1 -ℤ pos i2) job.p
  -- "For d = 3 and p = s·s there are s cuts each way, and the owner is ((i1 − i3) modulo s)·s + ((i2 − i3) modulo s)" "moduli are .. 1 s s .. for
  -- d = 3, row 2 is 1 0 s−1 and row 3 is 0 1 s−1"
  pub cuts_3 : job.d ≡ 3 → (s : ℕ) → job.p ≡ s * s → cuts_of plan ≡ s ∷ s ∷ s ∷ []
  pub moduli_3 : job.d ≡ 3 → (s : ℕ) → job.p ≡ s * s → (layout_of plan).moduli ≡ 1 ∷ s ∷ s ∷ []
  pub rows_3 : job.d ≡ 3 → (s : ℕ) → job.p ≡ s * s
      → (layout_of plan).matrix ≡ (0 ∷ 0 ∷ 0 ∷ []) ∷ (1 % s ∷ 0 ∷ (s - 1) % s ∷ []) ∷ (0 ∷ 1 % s ∷ (s - 1) % s ∷ []) ∷ []
  pub owner_3 : job.d ≡ 3 → (s : ℕ) → job.p ≡ s * s → (i1 i2 i3 : ℕ) → Inside (cuts_of plan) (i1 ∷ i2 ∷ i3 ∷ [])
      → owner_in plan (i1 ∷ i2 ∷ i3 ∷ []) ≡ remainder (pos i1 -ℤ pos i3) s * s + remainder (pos i2 -ℤ pos i3) s

-- for a job that diagonal::diagonal_job answers with `answer`
abbrev pub DiagonalPlans : Job → Answer Plan → Type 0
DiagonalPlans job answer = (plan : Plan) → answer ≡ answered plan → Diagonal job plan
