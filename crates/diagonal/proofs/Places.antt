-- The cost of diagonal cuts, by the sum of the weights, and the matrix in its 25 places.
use mathlib.Core.Path.{◌≡◌, refl, sym, ap, ap₂, ◌∙◌}
use mathlib.Core.List.{List, [], ◌∷◌, ◌++◌}
use Prim.Native.Nat.{ℕ, zero, suc, ◌+◌, ◌-◌, ◌*◌, ◌%◌, ◌≤◌, ◌<◌}
use native.Mathlib.Nat.{mul-add, mod-eq_of_lt, zero-mod}
use native.Mathlib.Omega.{arith}
use lib.ListN.{length, get_or, take, replicate}
use Rattle.std.specs.Prelude.{sum}
use Rattle.std.proofs.lemmas.List.Sums.{sum_by-cons}
use Rattle.numbers.specs.Sums.{same}
use Rattle.multipartition.specs.Cuts.{cut_cost, cost_of}
use Rattle.multipartition.specs.Lists.{list_of}
use Rattle.layout.specs.Plans.{flat}
use Rattle.diagonal.specs.Diagonal.{diagonal_cuts, diagonal_moduli, diagonal_row, diagonal_rows, diagonal_matrix}

-- the cost by the sum of the weights
pub cost_is : (s : ℕ) (weights : List ℕ) → (s - 1) * sum weights ≡ cost_of weights (diagonal_cuts (length weights) s)
unfolding cut_cost
cost_is s [] = omega arith
cost_is s (w ∷ weights) =
    ap (λ (n : ℕ). (s - 1) * n) (sum_by-cons (λ x. x) w weights)
    ∙ mul-add (s - 1) w (sum weights)
    ∙ ap (λ (n : ℕ). (s - 1) * w + n) (cost_is s weights)

-- weights that are small each
pub few-sum : (most : ℕ) (weights : List ℕ) → ((k : ℕ) → get_or weights k 0 ≤ most) → sum weights ≤ length weights * most
few-sum most [] small = omega arith
few-sum most (w ∷ weights) small = omega (arith, sum_by-cons (λ x. x) w weights, small 0, few-sum most weights (λ k. small (suc k)))

-- ---- the three entries that a row has

entry_none : (s : ℕ) → (0 + (s - 1) * 0) % s ≡ 0
entry_none s = ap (λ (n : ℕ). n % s) (omega arith) ∙ zero-mod s

entry-one : (s : ℕ) → (1 + (s - 1) * 0) % s ≡ 1 % s
entry-one s = ap (λ (n : ℕ). n % s) (omega arith)

entry_last : (s : ℕ) → (0 + (s - 1) * 1) % s ≡ (s - 1) % s
entry_last s = ap (λ (n : ℕ). n % s) (omega arith)

-- ---- the matrix

-- "Row 1 is zero; row 2 is 1 p−1 for d = 2", reduced
pub matrix_of-2 : (s : ℕ) → diagonal_matrix 2 s ≡ (0 ∷ 0 ∷ []) ∷ (1 % s ∷ (s - 1) % s ∷ []) ∷ []
unfolding diagonal_matrix diagonal_rows diagonal_row list_of same
matrix_of-2 s = ap₂ (λ (one last : ℕ). (0 ∷ 0 ∷ []) ∷ (one ∷ last ∷ []) ∷ []) (entry-one s) (entry_last s)

-- "for d = 3, row 2 is 1 0 s−1 and row 3 is 0 1 s−1", reduced
pub matrix_of-3 : (s : ℕ) → diagonal_matrix 3 s ≡ (0 ∷ 0 ∷ 0 ∷ []) ∷ (1 % s ∷ 0 ∷ (s - 1) % s ∷ []) ∷ (0 ∷ 1 % s ∷ (s - 1) % s ∷ []) ∷ []
unfolding diagonal_matrix diagonal_rows diagonal_row list_of same
matrix_of-3 s =
    ap₂ (λ (one last : ℕ). rows ((0 + (s - 1) * 0) % s) one last) (entry-one s) (entry_last s)
    ∙ ap (λ (none : ℕ). rows none (1 % s) ((s - 1) % s)) (entry_none s)
  where
    rows : ℕ → ℕ → ℕ → List (List ℕ)
    rows none one last = (0 ∷ 0 ∷ 0 ∷ []) ∷ (one ∷ none ∷ last ∷ []) ∷ (none ∷ one ∷ last ∷ []) ∷ []

-- the same in 25 places, the rows five apart

abbrev placed : List (List ℕ) → List ℕ
placed rows = take 25 (flat rows ++ replicate 25 0)

abbrev pub rows2 : ℕ → ℕ → List ℕ
rows2 one last = 0 ∷ 0 ∷ 0 ∷ 0 ∷ 0 ∷ one ∷ last ∷ 0 ∷ 0 ∷ 0 ∷ replicate 15 0

abbrev pub rows3 : ℕ → ℕ → List ℕ
rows3 one last = 0 ∷ 0 ∷ 0 ∷ 0 ∷ 0 ∷ one ∷ 0 ∷ last ∷ 0 ∷ 0 ∷ 0 ∷ one ∷ last ∷ 0 ∷ 0 ∷ replicate 10 0

last_reduced : (s : ℕ) → 1 ≤ s → (s - 1) % s ≡ s - 1
last_reduced s l = let below : s - 1 < s = omega arith in mod-eq_of_lt below

pub matrix-2 : (s : ℕ) → 1 ≤ s → rows2 (1 % s) (s - 1) ≡ take 25 (flat (diagonal_matrix 2 s) ++ replicate 25 0)
unfolding flat
matrix-2 s l = sym (ap placed (matrix_of-2 s) ∙ ap (rows2 (1 % s)) (last_reduced s l))

pub matrix-3 : (s : ℕ) → 1 ≤ s → rows3 (1 % s) (s - 1) ≡ take 25 (flat (diagonal_matrix 3 s) ++ replicate 25 0)
unfolding flat
matrix-3 s l = sym (ap placed (matrix_of-3 s) ∙ ap (rows3 (1 % s)) (last_reduced s l))

-- ---- cuts and moduli

pub cuts_from-first : (d s : ℕ) → 1 ≤ d → (s ∷ replicate (d - 1) s) ≡ diagonal_cuts d s
cuts_from-first zero s l = absurd (omega arith)
cuts_from-first (suc n) s l = let less : suc n - 1 ≡ n = omega arith in ap (λ (m : ℕ). s ∷ replicate m s) less

pub moduli_from-first : (d s : ℕ) → 1 ≤ d → (1 ∷ replicate (d - 1) s) ≡ diagonal_moduli d s
unfolding diagonal_moduli
moduli_from-first zero s l = absurd (omega arith)
moduli_from-first (suc n) s l = let less : suc n - 1 ≡ n = omega arith in ap (λ (m : ℕ). 1 ∷ replicate m s) less

-- ---- moduli of two and three dimensions

pub moduli_of-2 : (s : ℕ) → diagonal_moduli 2 s ≡ 1 ∷ s ∷ []
unfolding diagonal_moduli
moduli_of-2 s = refl

pub moduli_of-3 : (s : ℕ) → diagonal_moduli 3 s ≡ 1 ∷ s ∷ s ∷ []
unfolding diagonal_moduli
moduli_of-3 s = refl
