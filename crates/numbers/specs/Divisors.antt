-- The divisors of a number, rising. They compute: divisors_of 6 is 1, 2, 3, 6.
use Rattle.std.specs.Prelude.{cond, List, [], ◌∷◌, ◌++◌, ℕ, zero, suc, ◌%◌, eqb, leb}

-- the numbers from 1 to v that divide n, rising
unfoldable pub divisors_to : ℕ → ℕ → List ℕ
divisors_to n zero = []
divisors_to n (suc v) = divisors_to n v ++ cond (eqb (n % suc v) 0) (suc v ∷ []) []

-- the divisors of n, rising
unfoldable pub divisors_of : ℕ → List ℕ
divisors_of n = divisors_to n n

-- what `divisors` answers: no divisors above 4096, and none of 0
unfoldable pub divisors_answer : ℕ → List ℕ
divisors_answer n = cond (leb n 4096) (divisors_of n) []
