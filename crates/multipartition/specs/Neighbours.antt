-- The neighbour of a processor (document 01, "Owners"). Dimension k is counted from 0. A direction is a yes-or-no value: true is up.
use Rattle.std.specs.Prelude.{Bool, true, false, cond, List, [], ◌∷◌, ℕ, ◌+◌, ◌%◌, eqb, pos, ◌-ℤ◌, get_or}
use Rattle.std.proofs.Math.Option.{Option, none, some}
use Rattle.multipartition.specs.Lists.{first, rest, first_list, rest_lists}
use Rattle.multipartition.specs.MixedRadix.{number_from, digits_of}
use Rattle.multipartition.specs.Moduli.{moduli_of}
use Rattle.multipartition.specs.Matrix.{remainder, matrix_of}

-- column k of a matrix, an entry for each modulus
unfoldable pub column_of : ℕ → List ℕ → List (List ℕ) → List ℕ
column_of k [] matrix = []
column_of k (m ∷ moduli) matrix = get_or (first_list matrix) k 0 ∷ column_of k moduli (rest_lists matrix)

-- a coordinate plus an entry (up) or minus it (down), modulo m
unfoldable pub turn : Bool → ℕ → ℕ → ℕ → ℕ
turn true m c a = (c + a) % m
turn false m c a = remainder (pos c -ℤ pos a) m

-- coordinates plus or minus a column, "each modulo mi"
unfoldable pub turned : Bool → List ℕ → List ℕ → List ℕ → List ℕ
turned up [] coordinates column = []
turned up (m ∷ moduli) coordinates column = turn up m (first coordinates) (first column) ∷ turned up moduli (rest coordinates) (rest column)

-- "The neighbour of processor q along k, upward, has q's coordinates plus column k, each modulo mi; downward, minus."
unfoldable pub next_owner : List ℕ → List (List ℕ) → ℕ → Bool → ℕ → ℕ
next_owner moduli matrix k up q = number_from 0 moduli (turned up moduli (digits_of moduli q) (column_of k moduli matrix))

-- "If bk = 1 the answer is 'no neighbour', and in no other case."
unfoldable pub neighbour_at : List ℕ → List ℕ → List (List ℕ) → ℕ → Bool → ℕ → Option ℕ
neighbour_at cuts moduli matrix k up q = cond (eqb (get_or cuts k 0) 1) none (some (next_owner moduli matrix k up q))

-- the neighbour in the planner's plan for p processors with these cuts
unfoldable pub neighbour_of : ℕ → List ℕ → ℕ → Bool → ℕ → Option ℕ
neighbour_of p cuts k up q = neighbour_at cuts (moduli_of p cuts) (matrix_of p cuts) k up q
