-- The owner of a position (document 01, "Owners"), for the moduli and the matrix of a plan, whoever made it.
use Rattle.std.specs.Prelude.{List, [], ◌∷◌, ℕ, ◌+◌, ◌*◌, ◌%◌}
use Rattle.multipartition.specs.Lists.{first, rest, first_list, rest_lists}
use Rattle.multipartition.specs.MixedRadix.{number_from}
use Rattle.multipartition.specs.Moduli.{moduli_of}
use Rattle.multipartition.specs.Matrix.{matrix_of}

-- a row times a position
unfoldable pub times : List ℕ → List ℕ → ℕ
times [] position = 0
times (a ∷ row) position = a * first position + times row (rest position)

-- "The owner of position (i1..id) has coordinates ci = (row i times position) modulo mi."
unfoldable pub coordinates_at : List ℕ → List (List ℕ) → List ℕ → List ℕ
coordinates_at [] matrix position = []
coordinates_at (m ∷ moduli) matrix position = (times (first_list matrix) position % m) ∷ coordinates_at moduli (rest_lists matrix) position

-- "Its number is found by starting at 0 and, for i = 1 to d, multiplying by mi and adding ci."
unfoldable pub owner_at : List ℕ → List (List ℕ) → List ℕ → ℕ
owner_at moduli matrix position = number_from 0 moduli (coordinates_at moduli matrix position)

-- the owner of a position in the planner's plan for p processors with these cuts
unfoldable pub owner_of : ℕ → List ℕ → List ℕ → ℕ
owner_of p cuts position = owner_at (moduli_of p cuts) (matrix_of p cuts) position
