-- The greatest common divisor, by Euclid's steps. It computes at numerals: gcd 12 18 is 6.
use Rattle.std.specs.Prelude.{ℕ, zero, suc, ◌%◌}

-- Euclid's steps, at most `fuel` many. The second number falls with each step, so that it is itself fuel enough.
unfoldable pub euclid : ℕ → ℕ → ℕ → ℕ
euclid zero a b = a
euclid (suc fuel) a zero = a
euclid (suc fuel) a (suc b) = euclid fuel (suc b) (a % suc b)

-- the greatest common divisor
unfoldable pub gcd : ℕ → ℕ → ℕ
unfolding euclid
gcd a b = euclid b a b
