-- The rows of the matrix by their places, as the code finishes them (document 01, "Owners"). Rows and columns are counted from 0 here: row i is
-- that of dimension i + 1, and the columns of a row of whole numbers are counted from 1.
use Rattle.std.specs.Prelude.{◌≡◌, cond, ◌||◌, List, [], ◌∷◌, ℕ, zero, suc, pred, ◌+◌, ◌-◌, ◌*◌, ◌/◌, ◌%◌, ◌≤◌, ◌<◌, leb, pos, get_or, length}
use Rattle.std.specs.Int.{◌∣◌}
use Rattle.numbers.specs.Sums.{same}
use Rattle.multipartition.specs.Matrix.{Row, start_row, factor, next, finish, finished_rows}
use Rattle.multipartition.specs.WholeNumbers.{Stands}

-- f n, .., f 1
unfoldable pub backward : {A : Type 0} → (ℕ → A) → ℕ → List A
backward f zero = []
backward f (suc n) = f (suc n) ∷ backward f n

-- row i as it starts
abbrev pub start_at : ℕ → Row
start_at zero k = pos (same k 1)
start_at (suc i) k = start_row (i + 2) k

-- row i when it has taken the rows before it, by the cuts and the moduli at their places
unfoldable pub row_at : (ℕ → ℕ) → (ℕ → ℕ) → ℕ → Row
row_at cut modulus i =
    finish (start_at i) (modulus i) (backward cut (pred i)) (backward modulus (pred i)) (finished_rows (backward cut (pred i)) (backward modulus (pred i)))

-- "r begins as mi" and "becomes gcd(t·mj, r)": r of row i when it has taken n rows, from row i - 1 down
unfoldable pub r_after : (ℕ → ℕ) → (ℕ → ℕ) → ℕ → ℕ → ℕ
r_after cut modulus i zero = modulus i
r_after cut modulus i (suc n) = next (r_after cut modulus i n) (cut (i - suc n)) (modulus (i - suc n))

-- "t = r / gcd(r, bj)": the multiplier with which row i takes row j
unfoldable pub multiplier_at : (ℕ → ℕ) → (ℕ → ℕ) → ℕ → ℕ → ℕ
multiplier_at cut modulus i j = factor (r_after cut modulus i (i - suc j)) (cut j)

-- the number at a place
abbrev pub at : List ℕ → ℕ → ℕ
at xs k = get_or xs k 0

-- each of the first d moduli divides p
abbrev pub Dividing : ℕ → List ℕ → ℕ → Type 0
Dividing p moduli d = (k : ℕ) → k < d → at moduli k ∣ p

-- The rows are kept modulo p until the last one is finished: row i stands at places 5 * i on, and the first n places hold numbers that stand for
-- the finished rows.
pub record Finished (p : ℕ) (cuts moduli rows : List ℕ) (n : ℕ) : Type 0 where
  pub long : length rows ≡ 25
  pub stands : (i c : ℕ) → c < 5 → i * 5 + c < n → Stands p (row_at (at cuts) (at moduli) i (suc c)) (at rows (i * 5 + c))
  pub small : (k : ℕ) → k < n → at rows k ≤ 4096

-- the moduli up to place i are neither 0 nor large
abbrev pub Moderate : List ℕ → ℕ → Type 0
Moderate moduli i = (k : ℕ) → k ≤ i → (1 ≤ at moduli k) × (at moduli k ≤ 4096)

-- the multipliers of row i stand at the places of the rows that it takes, and none is large
abbrev pub Multipliers : List ℕ → List ℕ → List ℕ → ℕ → Type 0
Multipliers cuts moduli ts i = (j : ℕ) → 1 ≤ j → j < i → (at ts j ≡ multiplier_at (at cuts) (at moduli) i j) × (at ts j ≤ 4096)

-- what is multiplied for column c of row i is not large
abbrev pub Bounded : List ℕ → List ℕ → ℕ → ℕ → Type 0
Bounded ts rows i c = (j : ℕ) → 1 ≤ j → j < i → (at ts j ≤ 4096) × (at rows (j * 5 + c) ≤ 4096)

-- what column c of row i is made from
pub record Before (p : ℕ) (cuts moduli rows : List ℕ) (i c : ℕ) : Type 0 where
  pub p_low : 1 ≤ p
  pub p_high : p ≤ 4096
  pub row : i < 5
  pub column : c < 5
  pub divides : Dividing p moduli (suc i)
  pub finished : Finished p cuts moduli rows (i * 5 + c)

-- x stands for column c of row i, by whichever cuts and moduli the multipliers and the rows before it are made
abbrev pub StandsFor : ℕ → List ℕ → List ℕ → ℕ → ℕ → ℕ → Type 0
StandsFor p ts rows i c x =
    (cuts moduli : List ℕ) → Before p cuts moduli rows i c → Multipliers cuts moduli ts i → Stands p (row_at (at cuts) (at moduli) i (suc c)) x

-- "After the last row, each row i is replaced by its remainders modulo mi": place n of the matrix, which is zero past row and column d
unfoldable pub reduced_at : List ℕ → List ℕ → ℕ → ℕ → ℕ
reduced_at moduli rows d n = cond (leb d (n / 5) || leb d (n % 5)) 0 (at rows n % at moduli (n / 5))
