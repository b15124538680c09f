-- What a job and a plan hold, and when a plan is in shape (document 01, "Quantities" and "Where each call turns back"; document 02, request c, for the
-- kind, and request g, for the least thicknesses).
use Rattle.std.specs.Prelude.{Bool, ◌&&◌, List, [], ◌∷◌, ◌≡◌, ℕ, ◌*◌, ◌≤◌, ◌<◌, leb, ltb, eqb, get_or, replicate}
use Rattle.numbers.specs.Products.{product}
use Rattle.multipartition.specs.Lists.{all_below}
use Rattle.multipartition.specs.Cuts.{cost_of}
use Rattle.multipartition.specs.Moduli.{moduli_of}
use Rattle.multipartition.specs.Matrix.{matrix_of}

-- "The planner takes a processor count p, a number of dimensions d, d extents and d weights": a job has them, as many as there are. Document 02,
-- request g: "A job and a plan gain a least thickness for each dimension".
pub record Job : Type 0 where
  pub p : ℕ
  pub d : ℕ
  pub extents : List ℕ
  pub weights : List ℕ
  pub least : List ℕ

-- the job with just these thicknesses
abbrev pub thick_job : ℕ → ℕ → List ℕ → List ℕ → List ℕ → Job
thick_job p d extents weights least = record { p = p; d = d; extents = extents; weights = weights; least = least }

-- the least thicknesses of d dimensions by the list given: "1 where none is given"
abbrev pub least_of : ℕ → List ℕ → List ℕ
least_of d [] = replicate d 1
least_of d (t ∷ given) = t ∷ given

-- the job of what a call is given, with a list of thicknesses that may be empty
abbrev pub job_with : ℕ → ℕ → List ℕ → List ℕ → List ℕ → Job
job_with p d extents weights given = thick_job p d extents weights (least_of d given)

-- "A plan holds d, p, extents, weights, cuts, cost, moduli, matrix": each list has d numbers, the matrix d rows of d numbers. "Places past d
-- .. are never read": a layout has none. Document 02, request c: plans have "a kind field: 0 for the planner's, 1 for diagonal"; request g: and "a
-- least thickness for each dimension".
pub record Layout : Type 0 where
  pub d : ℕ
  pub p : ℕ
  pub extents : List ℕ
  pub weights : List ℕ
  pub cuts : List ℕ
  pub cost : ℕ
  pub moduli : List ℕ
  pub matrix : List (List ℕ)
  pub kind : ℕ
  pub least : List ℕ

-- the job that a plan holds
abbrev pub job_of : Layout → Job
job_of plan = thick_job plan.p plan.d plan.extents plan.weights plan.least

-- the planner's plan with the cuts that it chose
abbrev pub layout_with : Job → List ℕ → Layout
layout_with job cuts = record {
  d = job.d;
  p = job.p;
  extents = job.extents;
  weights = job.weights;
  cuts = cuts;
  cost = cost_of job.weights cuts;
  moduli = moduli_of job.p cuts;
  matrix = matrix_of job.p cuts;
  kind = 0;
  least = job.least;
}

-- "tiles = b1 × ... × bd"
abbrev pub tiles_of : Layout → ℕ
tiles_of plan = product plan.cuts

-- "d: 2 to 5. p: 1 to 4,096. Extent: 1 to 1,000,000."
abbrev pub between : ℕ → ℕ → ℕ → Bool
between low high n = leb low n && leb n high

-- extent and cut of dimension k, counted from 0: not "an extent is out of range, a cut is 0 or above its extent or above 4,096"
abbrev pub dimension_ok : List ℕ → List ℕ → ℕ → Bool
dimension_ok extents cuts k = between 1 1000000 (get_or extents k 0) && between 1 (get_or extents k 0) (get_or cuts k 0) && leb (get_or cuts k 0) 4096

-- its least thickness: not "A plan that breaks the rule or holds a thickness of 0", the rule being that "bk times the least thickness of k is at most nk"
abbrev pub least_ok : List ℕ → List ℕ → List ℕ → ℕ → Bool
least_ok extents least cuts k = leb 1 (get_or least k 0) && leb (get_or cuts k 0 * get_or least k 0) (get_or extents k 0)

-- the entry of row i and column j, both counted from 0
abbrev pub entry_at : List (List ℕ) → ℕ → ℕ → ℕ
entry_at matrix i j = get_or (get_or matrix i []) j 0

-- row i, counted from 0: not "a modulus is 0", nor "a matrix entry is not below its row's modulus"
abbrev pub row_ok : ℕ → List ℕ → List (List ℕ) → ℕ → Bool
row_ok d moduli matrix i = leb 1 (get_or moduli i 0) && all_below d (λ j. ltb (entry_at matrix i j) (get_or moduli i 0))

-- "A plan is out of shape if d, p or an extent is out of range, a cut is 0 or above its extent or above 4,096, there are more than 16,777,216
-- tiles, a modulus is 0, the moduli don't multiply to p, or a matrix entry is not below its row's modulus." Document 02, request c: "a kind above 1
-- is a 6"; request g: "A plan that breaks the rule or holds a thickness of 0 is a 6."
unfoldable pub in_shape : Layout → Bool
in_shape plan =
    between 2 5 plan.d
    && between 1 4096 plan.p
    && all_below plan.d (dimension_ok plan.extents plan.cuts)
    && leb (tiles_of plan) 16777216
    && all_below plan.d (row_ok plan.d plan.moduli plan.matrix)
    && eqb (product plan.moduli) plan.p
    && leb plan.kind 1
    && all_below plan.d (least_ok plan.extents plan.least plan.cuts)

-- the same as facts, a field for each clause; dimensions, rows and columns are counted from 0
pub record InShape (plan : Layout) : Type 0 where
  pub d_range : (2 ≤ plan.d) × (plan.d ≤ 5)
  pub p_range : (1 ≤ plan.p) × (plan.p ≤ 4096)
  pub extent_range : (k : ℕ) → k < plan.d → (1 ≤ get_or plan.extents k 0) × (get_or plan.extents k 0 ≤ 1000000)
  pub cut_range : (k : ℕ) → k < plan.d
      → (1 ≤ get_or plan.cuts k 0) × (get_or plan.cuts k 0 ≤ get_or plan.extents k 0) × (get_or plan.cuts k 0 ≤ 4096)
  pub tiles_high : tiles_of plan ≤ 16777216
  pub modulus_low : (i : ℕ) → i < plan.d → 1 ≤ get_or plan.moduli i 0
  pub moduli_product : product plan.moduli ≡ plan.p
  pub entry_below : (i j : ℕ) → i < plan.d → j < plan.d → entry_at plan.matrix i j < get_or plan.moduli i 0
  pub kind_high : plan.kind ≤ 1
  pub least_low : (k : ℕ) → k < plan.d → 1 ≤ get_or plan.least k 0
  pub least_fits : (k : ℕ) → k < plan.d → get_or plan.cuts k 0 * get_or plan.least k 0 ≤ get_or plan.extents k 0
