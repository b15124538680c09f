-- The diagonal layouts (document 02, request c; source document 001, section 2), for every number of dimensions at once: s slabs each way, and s to
-- the power d - 1 processors.
use Rattle.std.specs.Prelude.{Bool, cond, not, ◌&&◌, Option, None, Some, List, [], ◌∷◌, ◌≡◌, ℕ, zero, suc, ◌+◌, ◌-◌, ◌*◌, ◌%◌, ◌^◌, ◌≤◌, leb, eqb, length, get_or, replicate}
use Rattle.numbers.specs.Sums.{same}
use Rattle.multipartition.specs.Answers.{Answer, answered, Check, checked}
use Rattle.multipartition.specs.Lists.{all_below, first_such, list_of}
use Rattle.multipartition.specs.Cuts.{Fits, cost_of}
use Rattle.multipartition.specs.Owners.{owner_at}
use Rattle.multipartition.specs.Plans.{Job, Layout, between}
use Rattle.multipartition.specs.Jobs.{Passed, dimensions_check, processors_check, suits_check, lengths_check, extents_check, least_check}

-- "For d = 2 there are p cuts each way", for d = 3 "s cuts each way"
abbrev pub diagonal_cuts : ℕ → ℕ → List ℕ
diagonal_cuts d s = replicate d s

-- "Their moduli are 1 p and 1 s s."
unfoldable pub diagonal_moduli : ℕ → ℕ → List ℕ
diagonal_moduli zero s = []
diagonal_moduli (suc n) s = 1 ∷ replicate n s

-- Row i + 1, in columns 1 to d: 1 in column i and s - 1 in column d. "row 2 is 1 p−1 for d = 2; for d = 3, row 2 is 1 0 s−1 and row 3 is 0 1 s−1, each
-- entry reduced modulo its row's modulus"
unfoldable pub diagonal_row : ℕ → ℕ → ℕ → List ℕ
diagonal_row d s i = list_of 1 d (λ k. (same k i + (s - 1) * same k d) % s)

-- n such rows, the first of them row i + 1
unfoldable pub diagonal_rows : ℕ → ℕ → ℕ → ℕ → List (List ℕ)
diagonal_rows d s i zero = []
diagonal_rows d s i (suc n) = diagonal_row d s i ∷ diagonal_rows d s (suc i) n

-- "Row 1 is zero", and the others follow.
unfoldable pub diagonal_matrix : ℕ → ℕ → List (List ℕ)
diagonal_matrix zero s = []
diagonal_matrix (suc n) s = replicate (suc n) 0 ∷ diagonal_rows (suc n) s 1 n

-- the owner of a position
unfoldable pub diagonal_owner : ℕ → ℕ → List ℕ → ℕ
diagonal_owner d s = owner_at (diagonal_moduli d s) (diagonal_matrix d s)

-- "Both are offered as plans, with a kind field: .. 1 for diagonal."
abbrev pub diagonal_plan : Job → ℕ → Layout
diagonal_plan job s = record {
  d = job.d;
  p = job.p;
  extents = job.extents;
  weights = job.weights;
  cuts = diagonal_cuts job.d s;
  cost = cost_of job.weights (diagonal_cuts job.d s);
  moduli = diagonal_moduli job.d s;
  matrix = diagonal_matrix job.d s;
  kind = 1;
  least = job.least;
}

-- "p = s·s", and p = s for d = 2: s is the side of the layout for p processors
unfoldable pub is_side : ℕ → ℕ → ℕ → Bool
is_side d p s = eqb (s ^ (d - 1)) p

-- the side; p + 1 if there is none
unfoldable pub side_of : ℕ → ℕ → ℕ
side_of d p = first_such (is_side d p) 1 p

-- the layouts are for d = 2 and for "d = 3 and p = s·s"
unfoldable pub suits : ℕ → ℕ → Bool
suits d p = between 2 3 d && leb (side_of d p) p

-- the side where p and d suit the layout
abbrev pub suited_side : ℕ → ℕ → Option ℕ
suited_side d p = cond (suits d p) (Some (side_of d p)) None

-- "Cuts fit only if bk times the least thickness of k is at most nk, .. for diagonal plans" (request g)
unfoldable pub side_fits : ℕ → List ℕ → List ℕ → Bool
side_fits s extents least = all_below (length extents) (λ k. leb (s * get_or least k 0) (get_or extents k 0))

-- "12 .. after 2 and before 3; a cut above its extent stays a 5"; request g: 13 "after 4 and before 5"
abbrev pub diagonal_checks : Job → List Check
diagonal_checks job =
    dimensions_check job.d
    ∷ processors_check job.p
    ∷ suits_check (suits job.d job.p)
    ∷ lengths_check job
    ∷ extents_check job
    ∷ least_check job
    ∷ record { fails = not (side_fits (side_of job.d job.p) job.extents job.least); number = 5; place = 0 }
    ∷ []

-- the answer to a job: its diagonal plan
unfoldable pub diagonal_answer : Job → Answer Layout
diagonal_answer job = checked (diagonal_checks job) (answered (diagonal_plan job (side_of job.d job.p)))

-- what it takes for a job to be answered, and with which plan
pub record DiagonalFor (job : Job) (plan : Layout) : Type 0 where
  -- d is 2 or 3
  pub n : ℕ
  pub few : n ≤ 1
  pub dimensions : job.d ≡ suc (suc n)
  -- p is s in two dimensions and "p = s·s" in three
  pub s : ℕ
  pub positive : 1 ≤ s
  pub processors : s ^ suc n ≡ job.p
  -- the lines 1 to 4 of the table and 13 pass
  pub passed : Passed job
  -- the cuts fit
  pub fits : Fits job.extents job.least (diagonal_cuts job.d s)
  pub plan_is : plan ≡ diagonal_plan job s
