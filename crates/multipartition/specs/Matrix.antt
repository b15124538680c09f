-- The matrix (document 01, "Owners"; source 001, section 6). Its rows are rows of whole numbers until the last row is finished.
-- Where rows are finished, the lists run backward, from dimension i - 1 down to dimension 2: that is the order in which row i takes them.
use Rattle.std.specs.Prelude.{List, [], ◌∷◌, reverse, ℕ, suc, ◌+◌, ◌-◌, ◌*◌, ◌/◌, ◌%◌, ℤ, pos, negsuc, ◌-ℤ◌, ◌*ℤ◌, length}
use Rattle.numbers.specs.Gcd.{gcd}
use Rattle.numbers.specs.Sums.{same}
use Rattle.multipartition.specs.Lists.{first, rest, list_of}
use Rattle.multipartition.specs.Moduli.{moduli_of}

-- the remainder of a whole number, from 0 to m - 1; negsuc n is -(n + 1)
unfoldable pub remainder : ℤ → ℕ → ℕ
remainder (pos n) m = n % m
remainder (negsuc n) m = m - suc (n % m)

-- a row of whole numbers, by its columns, counted from 1
abbrev pub Row : Type 0
Row = ℕ → ℤ

abbrev pub first_row : List Row → Row
first_row [] k = pos 0
first_row (row ∷ rows) k = row k

abbrev pub rest_rows : List Row → List Row
rest_rows [] = []
rest_rows (row ∷ rows) = rows

-- "Row i starts with 1 in column 1 and in column i, else 0", for i from 2 on
abbrev pub start_row : ℕ → Row
start_row i k = pos (same k i + same k 1)

-- "t = r / gcd(r, bj)"
abbrev pub factor : ℕ → ℕ → ℕ
factor r b = r / gcd r b

-- "r becomes gcd(t·mj, r)"
abbrev pub next : ℕ → ℕ → ℕ → ℕ
next r b m = gcd (factor r b * m) r

-- "for j from i - 1 down to 2, t = r / gcd(r, bj), then t times finished row j is taken from row i, then r becomes gcd(t·mj, r)":
-- the lists hold the cuts, the moduli and the finished rows from j down to 2
unfoldable pub finish : Row → ℕ → List ℕ → List ℕ → List Row → Row
finish row r [] moduli finished = row
finish row r (b ∷ cuts) moduli finished =
    finish (λ k. row k -ℤ pos (factor r b) *ℤ first_row finished k) (next r b (first moduli)) cuts (rest moduli) (rest_rows finished)

-- the finished rows from i down to 2, whose cuts and moduli are given; "r begins as mi"
unfoldable pub finished_rows : List ℕ → List ℕ → List Row
finished_rows [] moduli = []
finished_rows (b ∷ cuts) moduli =
    finish (start_row (length cuts + 2)) (first moduli) cuts (rest moduli) (finished_rows cuts (rest moduli)) ∷ finished_rows cuts (rest moduli)

-- all d rows, from row 1 on, which is 1 in column 1 and never changes
unfoldable pub rows_of : List ℕ → List ℕ → List Row
rows_of [] moduli = []
rows_of (b ∷ cuts) moduli = (λ k. pos (same k 1)) ∷ reverse (finished_rows (reverse cuts) (reverse (rest moduli)))

-- "After the last row, each row i is replaced by its remainders modulo mi", in d columns
unfoldable pub remainders_of : ℕ → List ℕ → List Row → List (List ℕ)
remainders_of d [] rows = []
remainders_of d (m ∷ moduli) rows = list_of 1 d (λ k. remainder (first_row rows k) m) ∷ remainders_of d moduli (rest_rows rows)

-- the matrix for p processors and some cuts
unfoldable pub matrix_of : ℕ → List ℕ → List (List ℕ)
matrix_of p cuts = remainders_of (length cuts) (moduli_of p cuts) (rows_of cuts (moduli_of p cuts))
