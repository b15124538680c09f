-- The starred grids of document 01, "Grids to try", with the figures that its table names. Document 02, request a: "Every cost in document 01 drops by
-- the sum of its weights". Of request i, "For 8 8 8 on 4 the chain heads become 1 4 2 3, and the nexts are 8 7 6 5 0 0 0 0 as before"; of
-- request e, five stages of these chains. Of request f, "4 processors in three roomy dimensions" with "all
-- weights zero": "That job becomes 2 2 2." Of request g, "With p = 2 and thickness 3 both ways, 6 6 is cut 2 2 and 6 5 gives 5", and its refusals.
use Rattle.std.specs.Prelude.{true, List, [], ◌∷◌, map, ℕ, ◌-◌, length, get_or, replicate}
use Rattle.std.proofs.Math.Option.{Option, some}
use Rattle.multipartition.specs.Lists.{list_of}
use Rattle.multipartition.specs.Answers.{Answer, answered, refused}
use Rattle.multipartition.specs.Neighbours.{neighbour_at}
use Rattle.multipartition.specs.Chains.{heads_of, nexts_of, heads_at, nexts_at}
use Rattle.multipartition.specs.Plans.{Layout, job_with, tiles_of}
use Rattle.multipartition.specs.Questions.{tile_owner}
use Rattle.multipartition.specs.Jobs.{plan_answer}

-- a figure of the table, or a stage
pub data Figure : Type 0 where
  cuts : List ℕ → Figure
  cost : ℕ → Figure
  moduli : List ℕ → Figure
  -- row i, counted from 1
  row : ℕ → List ℕ → Figure
  -- the upward neighbours of processors 0 to p - 1 along dimension k, counted from 1
  up : ℕ → List (Option ℕ) → Figure
  heads : List ℕ → Figure
  nexts : List ℕ → Figure
  -- the two chain lists at stage t, where the second held the list named first
  stage : ℕ → List ℕ → List ℕ → List ℕ → Figure
  -- the job is turned down with this number and place
  turned_down : ℕ → ℕ → Figure

-- the upward neighbours of processors q, q + 1, .. along dimension k
abbrev pub neighbours_up : Layout → ℕ → List ℕ → List (Option ℕ)
neighbours_up plan k = map (neighbour_at plan.cuts plan.moduli plan.matrix (k - 1) true)

-- the same figure as the answer to the job has it; of a refusal its number and place
unfoldable pub figure_of : Answer Layout → Figure → Figure
figure_of (refused number place) figure = turned_down number place
figure_of (answered plan) (cuts l) = cuts plan.cuts
figure_of (answered plan) (cost n) = cost plan.cost
figure_of (answered plan) (moduli l) = moduli plan.moduli
figure_of (answered plan) (row i l) = row i (get_or plan.matrix (i - 1) [])
figure_of (answered plan) (up k l) = up k (neighbours_up plan k (list_of 0 plan.p (λ q. q)))
figure_of (answered plan) (heads l) = heads (heads_of (tile_owner plan) (tiles_of plan) plan.p)
figure_of (answered plan) (nexts l) = nexts (nexts_of (tile_owner plan) (tiles_of plan))
figure_of (answered plan) (stage t lent h l) =
    stage t lent (heads_at (tile_owner plan) (tiles_of plan) plan.p t) (nexts_at (tile_owner plan) (tiles_of plan) lent t)
figure_of (answered plan) (turned_down number place) = turned_down 0 0

-- a line of the table
pub record Grid : Type 0 where
  pub p : ℕ
  pub extents : List ℕ
  pub weights : List ℕ
  -- the least thicknesses given, none for 1 in every dimension
  pub least : List ℕ
  pub answer : List Figure

-- the figures of a line as the definitions have them
abbrev pub computed : Grid → List Figure
computed grid = map (figure_of (plan_answer (job_with grid.p (length grid.extents) grid.extents grid.weights grid.least))) grid.answer

-- the starred lines, and those of requests f and g
abbrev pub starred : List Grid
starred =
    record { p = 1; extents = 1 ∷ 1 ∷ []; weights = 5 ∷ 7 ∷ []; least = []; answer = cuts (1 ∷ 1 ∷ []) ∷ cost 0 ∷ [] }
    ∷ record { p = 2; extents = 2 ∷ 2 ∷ []; weights = 0 ∷ 0 ∷ []; least = []; answer = cuts (2 ∷ 2 ∷ []) ∷ cost 0 ∷ row 2 (1 ∷ 1 ∷ []) ∷ [] }
    ∷ record { p = 2; extents = 1 ∷ 9 ∷ []; weights = 1 ∷ 1 ∷ []; least = []; answer = turned_down 5 0 ∷ [] }
    ∷ record {
      p = 4;
      extents = 8 ∷ 8 ∷ 8 ∷ [];
      weights = 1 ∷ 1 ∷ 1 ∷ [];
      least = [];
      answer =
          cuts (2 ∷ 2 ∷ 2 ∷ [])
          ∷ cost 3
          ∷ moduli (1 ∷ 2 ∷ 2 ∷ [])
          ∷ row 1 (0 ∷ 0 ∷ 0 ∷ [])
          ∷ row 2 (1 ∷ 1 ∷ 0 ∷ [])
          ∷ row 3 (0 ∷ 1 ∷ 1 ∷ [])
          ∷ up 1 (some 2 ∷ some 3 ∷ some 0 ∷ some 1 ∷ [])
          ∷ up 2 (some 3 ∷ some 2 ∷ some 1 ∷ some 0 ∷ [])
          ∷ up 3 (some 1 ∷ some 0 ∷ some 3 ∷ some 2 ∷ [])
          ∷ heads (1 ∷ 4 ∷ 2 ∷ 3 ∷ [])
          ∷ nexts (8 ∷ 7 ∷ 6 ∷ 5 ∷ 0 ∷ 0 ∷ 0 ∷ 0 ∷ [])
          ∷ stage 8 (replicate 8 7) (0 ∷ 0 ∷ 0 ∷ 0 ∷ []) (7 ∷ 7 ∷ 7 ∷ 7 ∷ 7 ∷ 7 ∷ 7 ∷ 7 ∷ [])
          ∷ stage 7 (replicate 8 7) (8 ∷ 0 ∷ 0 ∷ 0 ∷ []) (7 ∷ 7 ∷ 7 ∷ 7 ∷ 7 ∷ 7 ∷ 7 ∷ 0 ∷ [])
          ∷ stage 4 (replicate 8 7) (8 ∷ 5 ∷ 7 ∷ 6 ∷ []) (7 ∷ 7 ∷ 7 ∷ 7 ∷ 0 ∷ 0 ∷ 0 ∷ 0 ∷ [])
          ∷ stage 2 (replicate 8 7) (8 ∷ 4 ∷ 7 ∷ 3 ∷ []) (7 ∷ 7 ∷ 6 ∷ 5 ∷ 0 ∷ 0 ∷ 0 ∷ 0 ∷ [])
          ∷ stage 0 (replicate 8 7) (1 ∷ 4 ∷ 2 ∷ 3 ∷ []) (8 ∷ 7 ∷ 6 ∷ 5 ∷ 0 ∷ 0 ∷ 0 ∷ 0 ∷ [])
          ∷ [];
    }
    ∷ record { p = 4; extents = 4 ∷ 4 ∷ 4 ∷ []; weights = 0 ∷ 0 ∷ 0 ∷ []; least = []; answer = cuts (2 ∷ 2 ∷ 2 ∷ []) ∷ cost 0 ∷ [] }
    ∷ record { p = 4; extents = 1 ∷ 3 ∷ 9 ∷ []; weights = 1 ∷ 1 ∷ 1 ∷ []; least = []; answer = turned_down 5 0 ∷ [] }
    ∷ record {
      p = 5;
      extents = 4 ∷ 9 ∷ 9 ∷ [];
      weights = 1 ∷ 1 ∷ 1 ∷ [];
      least = [];
      answer = cuts (1 ∷ 5 ∷ 5 ∷ []) ∷ cost 8 ∷ row 3 (0 ∷ 4 ∷ 1 ∷ []) ∷ [];
    }
    ∷ record {
      p = 6;
      extents = 9 ∷ 9 ∷ 9 ∷ [];
      weights = 1 ∷ 1 ∷ 1 ∷ [];
      least = [];
      answer = cuts (2 ∷ 3 ∷ 6 ∷ []) ∷ cost 8 ∷ moduli (1 ∷ 1 ∷ 6 ∷ []) ∷ row 3 (5 ∷ 4 ∷ 1 ∷ []) ∷ [];
    }
    ∷ record { p = 6; extents = 1 ∷ 9 ∷ 9 ∷ []; weights = 1 ∷ 1 ∷ 1 ∷ []; least = []; answer = cuts (1 ∷ 6 ∷ 6 ∷ []) ∷ cost 10 ∷ [] }
    ∷ record {
      p = 6;
      extents = 9 ∷ 9 ∷ 9 ∷ [];
      weights = 1 ∷ 1 ∷ 100 ∷ [];
      least = [];
      answer = cuts (6 ∷ 6 ∷ 1 ∷ []) ∷ cost 10 ∷ moduli (1 ∷ 6 ∷ 1 ∷ []) ∷ [];
    }
    ∷ record {
      p = 8;
      extents = 9 ∷ 9 ∷ 9 ∷ [];
      weights = 1 ∷ 1 ∷ 1 ∷ [];
      least = [];
      answer = cuts (2 ∷ 4 ∷ 4 ∷ []) ∷ cost 7 ∷ moduli (1 ∷ 2 ∷ 4 ∷ []) ∷ row 3 (0 ∷ 3 ∷ 1 ∷ []) ∷ [];
    }
    ∷ record { p = 2; extents = 6 ∷ 6 ∷ []; weights = 1 ∷ 1 ∷ []; least = 3 ∷ 3 ∷ []; answer = cuts (2 ∷ 2 ∷ []) ∷ cost 2 ∷ [] }
    ∷ record { p = 2; extents = 6 ∷ 5 ∷ []; weights = 1 ∷ 1 ∷ []; least = 3 ∷ 3 ∷ []; answer = turned_down 5 0 ∷ [] }
    ∷ record { p = 2; extents = 6 ∷ 6 ∷ []; weights = 1 ∷ 1 ∷ []; least = 3 ∷ 0 ∷ []; answer = turned_down 13 2 ∷ [] }
    ∷ record { p = 2; extents = 6 ∷ 0 ∷ []; weights = 1 ∷ 1 ∷ []; least = 0 ∷ 3 ∷ []; answer = turned_down 4 2 ∷ [] }
    ∷ record { p = 2; extents = 6 ∷ 6 ∷ []; weights = 1 ∷ 1 ∷ []; least = 3 ∷ []; answer = turned_down 3 0 ∷ [] }
    ∷ []
