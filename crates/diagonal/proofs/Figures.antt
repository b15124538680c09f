-- Figures of the diagonal layouts, computed from the definitions: plans of jobs, and refusals.
use mathlib.Core.Path.{◌≡◌, refl}
use mathlib.Core.List.{List, [], ◌∷◌, ◌++◌, map}
use Prim.Native.Nat.{ℕ}
use Rattle.numbers.specs.Sums.{same}
use Rattle.multipartition.specs.Answers.{Answer, answered, refused}
use Rattle.multipartition.specs.Cuts.{cut_cost}
use Rattle.multipartition.specs.Lists.{all_below, first_such, first_failing, list_of, starting_with}
use Rattle.multipartition.specs.MixedRadix.{number_from}
use Rattle.multipartition.specs.Owners.{times, coordinates_at, owner_at}
use Rattle.multipartition.specs.Plans.{Job, Layout, job_with}
use Rattle.multipartition.specs.Tiles.{positions}
use Rattle.diagonal.specs.Diagonal.{diagonal_moduli, diagonal_row, diagonal_rows, diagonal_matrix, diagonal_owner, is_side, side_of, suits, side_fits, diagonal_answer}

-- what a job is told: number and place of its refusal, or cuts, cost, moduli, matrix, kind, and the owners in the order of the tiles
pub data Told : Type 0 where
  planned : (cuts : List ℕ) (cost : ℕ) (moduli : List ℕ) (matrix : List (List ℕ)) (kind : ℕ) (owners : List ℕ) → Told
  not_planned : (number place : ℕ) → Told

abbrev told_by : Answer Layout → Told
told_by (answered plan) =
    planned plan.cuts plan.cost plan.moduli plan.matrix plan.kind (map (owner_at plan.moduli plan.matrix) (positions plan.cuts))
told_by (refused number place) = not_planned number place

pub record Case : Type 0 where
  pub job : Job
  pub told : Told

abbrev computed : Case → Case
computed case = record { job = case.job; told = told_by (diagonal_answer case.job) }

abbrev cases : List Case
cases =
    record {
      job = job_with 1 2 (1 ∷ 1 ∷ []) (1 ∷ 1 ∷ []) [];
      told = planned (1 ∷ 1 ∷ []) 0 (1 ∷ 1 ∷ []) ((0 ∷ 0 ∷ []) ∷ (0 ∷ 0 ∷ []) ∷ []) 1 (0 ∷ []);
    }
    ∷ record {
      job = job_with 1 3 (1 ∷ 2 ∷ 3 ∷ []) (1 ∷ 1 ∷ 1 ∷ []) [];
      told = planned (1 ∷ 1 ∷ 1 ∷ []) 0 (1 ∷ 1 ∷ 1 ∷ []) ((0 ∷ 0 ∷ 0 ∷ []) ∷ (0 ∷ 0 ∷ 0 ∷ []) ∷ (0 ∷ 0 ∷ 0 ∷ []) ∷ []) 1 (0 ∷ []);
    }
    ∷ record {
      job = job_with 3 2 (9 ∷ 9 ∷ []) (1 ∷ 1 ∷ []) [];
      told = planned (3 ∷ 3 ∷ []) 4 (1 ∷ 3 ∷ []) ((0 ∷ 0 ∷ []) ∷ (1 ∷ 2 ∷ []) ∷ []) 1 (0 ∷ 2 ∷ 1 ∷ 1 ∷ 0 ∷ 2 ∷ 2 ∷ 1 ∷ 0 ∷ []);
    }
    ∷ record {
      job = job_with 4 3 (8 ∷ 8 ∷ 8 ∷ []) (1 ∷ 1 ∷ 1 ∷ []) [];
      told = planned (2 ∷ 2 ∷ 2 ∷ []) 3 (1 ∷ 2 ∷ 2 ∷ []) ((0 ∷ 0 ∷ 0 ∷ []) ∷ (1 ∷ 0 ∷ 1 ∷ []) ∷ (0 ∷ 1 ∷ 1 ∷ []) ∷ []) 1 (0 ∷ 3 ∷ 1 ∷ 2 ∷ 2 ∷ 1 ∷ 3 ∷ 0 ∷ []);
    }
    ∷ record {
      job = job_with 9 3 (9 ∷ 9 ∷ 9 ∷ []) (1 ∷ 2 ∷ 3 ∷ []) [];
      told =
          planned (3 ∷ 3 ∷ 3 ∷ []) 12 (1 ∷ 3 ∷ 3 ∷ []) ((0 ∷ 0 ∷ 0 ∷ []) ∷ (1 ∷ 0 ∷ 2 ∷ []) ∷ (0 ∷ 1 ∷ 2 ∷ []) ∷ []) 1
          (0 ∷ 8 ∷ 4 ∷ 1 ∷ 6 ∷ 5 ∷ 2 ∷ 7 ∷ 3 ∷ 3 ∷ 2 ∷ 7 ∷ 4 ∷ 0 ∷ 8 ∷ 5 ∷ 1 ∷ 6 ∷ 6 ∷ 5 ∷ 1 ∷ 7 ∷ 3 ∷ 2 ∷ 8 ∷ 4 ∷ 0 ∷ []);
    }
    ∷ record { job = job_with 64 3 (8 ∷ 8 ∷ 7 ∷ []) (1 ∷ 1 ∷ 1 ∷ []) []; told = not_planned 5 0 }
    ∷ record { job = job_with 6 3 (9 ∷ 9 ∷ 9 ∷ []) (1 ∷ 1 ∷ 1 ∷ []) []; told = not_planned 12 0 }
    ∷ record { job = job_with 8 4 (9 ∷ 9 ∷ 9 ∷ 9 ∷ []) (1 ∷ 1 ∷ 1 ∷ 1 ∷ []) []; told = not_planned 12 0 }
    ∷ record { job = job_with 4 6 [] [] []; told = not_planned 1 0 }
    ∷ record { job = job_with 4097 2 (9 ∷ 9 ∷ []) (1 ∷ 1 ∷ []) []; told = not_planned 2 0 }
    ∷ record { job = job_with 0 4 (9 ∷ 9 ∷ []) (1 ∷ 1 ∷ []) []; told = not_planned 2 0 }
    ∷ record { job = job_with 5 3 (9 ∷ 9 ∷ []) (1 ∷ 1 ∷ []) []; told = not_planned 12 0 }
    ∷ record { job = job_with 5 2 (9 ∷ 9 ∷ 9 ∷ []) (1 ∷ 1 ∷ []) []; told = not_planned 3 0 }
    ∷ record { job = job_with 8 2 (9 ∷ 0 ∷ []) (1 ∷ 1 ∷ []) []; told = not_planned 4 2 }
    ∷ record {
      job = job_with 2 2 (6 ∷ 6 ∷ []) (1 ∷ 1 ∷ []) (3 ∷ 3 ∷ []);
      told = planned (2 ∷ 2 ∷ []) 2 (1 ∷ 2 ∷ []) ((0 ∷ 0 ∷ []) ∷ (1 ∷ 1 ∷ []) ∷ []) 1 (0 ∷ 1 ∷ 1 ∷ 0 ∷ []);
    }
    ∷ record { job = job_with 2 2 (6 ∷ 5 ∷ []) (1 ∷ 1 ∷ []) (3 ∷ 3 ∷ []); told = not_planned 5 0 }
    ∷ record { job = job_with 4 3 (8 ∷ 8 ∷ 8 ∷ []) (1 ∷ 1 ∷ 1 ∷ []) (1 ∷ 1 ∷ 5 ∷ []); told = not_planned 5 0 }
    ∷ record { job = job_with 4 3 (8 ∷ 8 ∷ 3 ∷ []) (1 ∷ 1 ∷ 1 ∷ []) (1 ∷ 0 ∷ 5 ∷ []); told = not_planned 13 2 }
    ∷ record { job = job_with 4 3 (8 ∷ 8 ∷ 0 ∷ []) (1 ∷ 1 ∷ 1 ∷ []) (1 ∷ 0 ∷ 5 ∷ []); told = not_planned 4 3 }
    ∷ record { job = job_with 4 3 (8 ∷ 8 ∷ 8 ∷ []) (1 ∷ 1 ∷ 1 ∷ []) (1 ∷ 1 ∷ []); told = not_planned 3 0 }
    ∷ record { job = job_with 5 3 (8 ∷ 8 ∷ 8 ∷ []) (1 ∷ 1 ∷ 1 ∷ []) (1 ∷ 1 ∷ []); told = not_planned 12 0 }
    ∷ []

pub figures : map computed cases ≡ cases
unfolding diagonal_answer suits is_side side_of side_fits first_such first_failing all_below cut_cost diagonal_moduli diagonal_row diagonal_rows diagonal_matrix owner_at coordinates_at times number_from list_of same positions starting_with
figures = refl

-- 16 processors, the layout of the first figure of source document 001: the owners of the plane i3 = 0 and of the plane i3 = 1, row by row
abbrev plane : ℕ → List ℕ
plane i3 = map (λ (x : List ℕ). diagonal_owner 3 4 (x ++ (i3 ∷ []))) (positions (4 ∷ 4 ∷ []))

pub figure_1 : (plane 0 ∷ plane 1 ∷ [])
    ≡ ((0 ∷ 1 ∷ 2 ∷ 3 ∷ 4 ∷ 5 ∷ 6 ∷ 7 ∷ 8 ∷ 9 ∷ 10 ∷ 11 ∷ 12 ∷ 13 ∷ 14 ∷ 15 ∷ [])
    ∷ (15 ∷ 12 ∷ 13 ∷ 14 ∷ 3 ∷ 0 ∷ 1 ∷ 2 ∷ 7 ∷ 4 ∷ 5 ∷ 6 ∷ 11 ∷ 8 ∷ 9 ∷ 10 ∷ [])
    ∷ [])
unfolding diagonal_moduli diagonal_row diagonal_rows diagonal_matrix diagonal_owner owner_at coordinates_at times number_from list_of same positions starting_with
figure_1 = refl
