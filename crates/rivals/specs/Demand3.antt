-- Demand 3 (document 01, "The rival of demand 3"): what holds of the plan that the planner answers, and of what the owner and neighbour questions
-- answer about it, against every rival; and what holds of every even plan. The calls promise the definitions plan_answer, owner_answer and
-- neighbour_answer, which stand here for them.
use Rattle.std.specs.Prelude.{Bool, true, List, ◌⊎◌, ◌↔◌, ◌≢◌, ◌≡◌, ℕ, ◌+◌, ◌-◌, ◌*◌, ◌/◌, ◌≤◌, ◌<◌, length, get_or}
use Rattle.std.proofs.Math.Option.{some}
use Rattle.std.specs.Int.{◌∣◌}
use Rattle.numbers.specs.Products.{product}
use Rattle.multipartition.specs.Answers.{Answer, answered, refused}
use Rattle.multipartition.specs.Cuts.{Even, Fits, cost_of}
use Rattle.multipartition.specs.Plans.{Job, job_of, in_shape}
use Rattle.multipartition.specs.Questions.{owner_answer, neighbour_answer, slab_answer}
use Rattle.multipartition.specs.Rivals.{Rival, held, Balanced, Face}
use Rattle.multipartition.specs.Tiles.{Inside, one_step_on}
use Rattle.layout.specs.declared.Plan.{Plan}
use Rattle.layout.specs.Plans.{layout_of}

-- the cuts of a plan
abbrev pub cuts_of : Plan → List ℕ
cuts_of plan = (layout_of plan).cuts

-- the processor that an answer names; none is 0
abbrev pub processor_in : Answer ℕ → ℕ
processor_in (answered q) = q
processor_in (refused number place) = 0

-- "a tile's owner is the owner question's answer for that plan and position"
unfoldable pub owner_in : Plan → List ℕ → ℕ
owner_in plan position = processor_in (owner_answer (layout_of plan) position)

-- What holds of a plan that shares out a job's grid evenly: of every plan that the planner answers, and of every diagonal plan.
pub record EvenPlan (job : Job) (plan : Plan) : Type 0 where
  -- it is the job's: "A plan holds d, p, extents, weights", and its least thicknesses
  pub holds_job : job_of (layout_of plan) ≡ job
  -- no question about it is refused with 6
  pub is_in_shape : in_shape (layout_of plan) ≡ true
  pub fits : Fits job.extents job.least (cuts_of plan)
  -- document 02, request g: "Slabs no thinner than the stencil": no slab of dimension k, counted from 1, has fewer elements than the job asks for
  pub no_thinner : (k s : ℕ) (ends : ℕ × ℕ) → slab_answer (layout_of plan) k s ≡ answered ends → ends.0 + get_or job.least (k - 1) 0 ≤ ends.1
  -- the owner question names a processor for every tile
  pub owner_answered : (x : List ℕ) → Inside (cuts_of plan) x → owner_answer (layout_of plan) x ≡ answered (owner_in plan x)
  pub owner_below : (x : List ℕ) → Inside (cuts_of plan) x → owner_in plan x < job.p
  -- "Cuts are even if p divides the product of all cuts but bk, for every k."
  pub cuts_even : Even job.p (cuts_of plan)
  -- it "gives every processor equally many tiles in every slab": "every processor owns exactly tiles / (bk · p) tiles of each slab of dimension k"
  pub balanced : Balanced job.p (cuts_of plan) (owner_in plan)
  pub shares : (k s q : ℕ) → k < length (cuts_of plan) → s < get_or (cuts_of plan) k 0 → q < job.p
      → held (cuts_of plan) (owner_in plan) k s q ≡ product (cuts_of plan) / (get_or (cuts_of plan) k 0 * job.p)
  -- that share is exact, not rounded
  pub share_exact : (k : ℕ) → k < length (cuts_of plan) → get_or (cuts_of plan) k 0 * job.p ∣ product (cuts_of plan)
  -- "its cost is the one in the plan, summed from the plan's cuts"
  pub cost_summed : plan.cost ≡ cost_of job.weights (cuts_of plan)
  -- "Where the tile one step up or down along k from a tile of processor q is inside the grid, its owner is the neighbour question's answer for
  -- q, k and that direction": dimensions are counted from 1
  pub one_neighbour : (k : ℕ) (up : Bool) (x y : List ℕ) → 1 ≤ k → k ≤ plan.d → Inside (cuts_of plan) x → one_step_on (cuts_of plan) (k - 1) up x ≡ some y
      → neighbour_answer (layout_of plan) (owner_in plan x) k up ≡ answered (some (owner_in plan y))
  -- all tiles one step in one direction from one processor's tiles have one owner
  pub one_owner : (k : ℕ) (up : Bool) (x y x' y' : List ℕ) → 1 ≤ k → k ≤ plan.d → Inside (cuts_of plan) x → Inside (cuts_of plan) x'
      → one_step_on (cuts_of plan) (k - 1) up x ≡ some y → one_step_on (cuts_of plan) (k - 1) up x' ≡ some y' → owner_in plan x ≡ owner_in plan x'
      → owner_in plan y ≡ owner_in plan y'

-- What holds of a plan that the planner answers.
pub record Ours (job : Job) (plan : Plan) : Type 0 where
  -- document 02, request c: "a kind field: 0 for the planner's"
  pub kind_is : plan.kind ≡ 0
  pub even : EvenPlan job plan
  -- no balanced rival costs less; document 02, request a: "The rival's cost is counted in the same way from here on."
  pub cheapest_of_all : (rival : Rival job) → Balanced job.p rival.cuts rival.owner → plan.cost ≤ cost_of job.weights rival.cuts
  -- document 02, request f: "A rival of equal cost that gives every processor equally many tiles in every slab may no longer have fewer tiles than
  -- ours."
  pub fewest_of_equals : (rival : Rival job) → Balanced job.p rival.cuts rival.owner → plan.cost ≡ cost_of job.weights rival.cuts
      → product (cuts_of plan) ≤ product rival.cuts
  -- tiles with a common face have different owners
  pub faces_differ : (x y : List ℕ) → Inside (cuts_of plan) x → Inside (cuts_of plan) y → Face x y → owner_in plan x ≢ owner_in plan y

-- an answer is a plan
abbrev pub Accepted : Answer Plan → Type 0
Accepted answer = (plan : Plan) × (answer ≡ answered plan)

-- Demand 3 for a job that planner::plan_job answers with `answer`.
pub record Demand3 (job : Job) (answer : Answer Plan) : Type 0 where
  -- "ours accepts exactly when some rival gives every processor equally many tiles in every slab"
  pub accepts : Accepted answer ↔ ((rival : Rival job) × Balanced job.p rival.cuts rival.owner)
  -- and else refuses with 5
  pub refuses : Accepted answer ⊎ (answer ≡ refused 5 0)
  -- "ours then does too, and costs no more"; faces and neighbours
  pub ours : (plan : Plan) → answer ≡ answered plan → Ours job plan
