-- What the planner answers to a job (document 01, "Choosing the cuts" and "Where each call turns back"; document 02, request g, for the least
-- thicknesses).
use Rattle.std.specs.Prelude.{Bool, not, ◌||◌, List, [], ◌∷◌, ◌≡◌, ℕ, ◌≤◌, ◌<◌, leb, eqb, length, get_or}
use Rattle.std.proofs.Math.Option.{Option, none, some}
use Rattle.multipartition.specs.Lists.{first_failing}
use Rattle.multipartition.specs.Answers.{Answer, answered, refused, Check, checked}
use Rattle.multipartition.specs.Cuts.{cheapest}
use Rattle.multipartition.specs.Plans.{Job, Layout, layout_with, between}

-- "d: 2 to 5. p: 1 to 4,096. Extent: 1 to 1,000,000."
pub record InRange (p : ℕ) (extents : List ℕ) : Type 0 where
  pub p_low : 1 ≤ p
  pub p_high : p ≤ 4096
  pub d_low : 2 ≤ length extents
  pub d_high : length extents ≤ 5
  pub extent_low : (k : ℕ) → k < length extents → 1 ≤ get_or extents k 0
  pub extent_high : (k : ℕ) → k < length extents → get_or extents k 0 ≤ 1000000

-- a job that passes the lines 1 to 4 and 13 of the table
pub record Passed (job : Job) : Type 0 where
  pub range : InRange job.p job.extents
  pub extents_many : length job.extents ≡ job.d
  pub weights_many : length job.weights ≡ job.d
  pub least_many : length job.least ≡ job.d
  pub least_low : (k : ℕ) → k < length job.least → 1 ≤ get_or job.least k 0

-- "first such dimension": of the first extent out of range, and of the first thickness of 0; 0 if there is none
abbrev pub first_outside : List ℕ → ℕ
first_outside extents = first_failing (between 1 1000000) 1 extents

abbrev pub first_zero : List ℕ → ℕ
first_zero least = first_failing (leb 1) 1 least

-- "d not 2..5"
abbrev pub dimensions_check : ℕ → Check
dimensions_check d = record { fails = not (between 2 5 d); number = 1; place = 0 }

-- "p not 1..4,096"
abbrev pub processors_check : ℕ → Check
processors_check p = record { fails = not (between 1 4096 p); number = 2; place = 0 }

-- document 02, request c: "12, p or d doesn't suit the layout, after 2 and before 3"
abbrev pub suits_check : Bool → Check
suits_check suits = record { fails = not suits; number = 12; place = 0 }

-- "extents or weights not d many"; document 02, request g: "refusal 3 covers a thickness list that is neither empty nor d long". By `least_of`, an empty
-- list stands for d ones.
abbrev pub lengths_check : Job → Check
lengths_check job = record {
  fails = not (eqb (length job.extents) job.d) || not (eqb (length job.weights) job.d) || not (eqb (length job.least) job.d);
  number = 3;
  place = 0;
}

-- "an extent out of range; place: first such dimension"
abbrev pub extents_check : Job → Check
extents_check job = record { fails = not (eqb (first_outside job.extents) 0); number = 4; place = first_outside job.extents }

-- document 02, request g: "13, a thickness of 0 in a job, with the first such dimension as place, after 4 and before 5"
abbrev pub least_check : Job → Check
least_check job = record { fails = not (eqb (first_zero job.least) 0); number = 13; place = first_zero job.least }

-- the lines 1 to 4 of the table, and 13
abbrev pub job_checks : Job → List Check
job_checks job = dimensions_check job.d ∷ processors_check job.p ∷ lengths_check job ∷ extents_check job ∷ least_check job ∷ []

-- the cuts chosen for a job
abbrev pub cheapest_for : Job → Option (List ℕ)
cheapest_for job = cheapest job.p job.extents job.least job.weights

-- "no even, fitting cuts" is a 5; else the plan has the cuts chosen
unfoldable pub plan_with : Job → Option (List ℕ) → Answer Layout
plan_with job none = refused 5 0
plan_with job (some cuts) = answered (layout_with job cuts)

-- the planner's answer
unfoldable pub plan_answer : Job → Answer Layout
plan_answer job = checked (job_checks job) (plan_with job (cheapest_for job))

-- what the answer `plan` to a job says
pub record PlanFor (job : Job) (plan : Layout) : Type 0 where
  pub passed : Passed job
  pub cuts_are : cheapest_for job ≡ some plan.cuts
  pub plan_is : plan ≡ layout_with job plan.cuts
