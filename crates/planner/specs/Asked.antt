-- The job that a call is asked (document 01, "Quantities"; document 02, request g), and what a plan of it needs.
use Rattle.std.specs.Prelude.{◌≡◌, ℕ, ◌≤◌, ◌<◌, length, get_or}
use Rattle.multipartition.specs.Plans.{Job as Asked, job_with}
use Rattle.planner.specs.declared.Job.{Job}

-- as the definitions have it: an empty list of least thicknesses stands for 1 in every dimension
abbrev pub asked : Job → Asked
asked job = job_with job.p job.d job.extents.now job.weights.now job.least.now

-- what the lines 1 to 3 of the table and 13 leave: the range of the extents, line 4, plays no part in the choice of cuts
pub record Measured (job : Asked) : Type 0 where
  pub p_low : 1 ≤ job.p
  pub p_high : job.p ≤ 4096
  pub d_low : 2 ≤ job.d
  pub d_high : job.d ≤ 5
  pub extents_many : length job.extents ≡ job.d
  pub weights_many : length job.weights ≡ job.d
  pub least_many : length job.least ≡ job.d
  pub least_low : (k : ℕ) → k < length job.least → 1 ≤ get_or job.least k 0
