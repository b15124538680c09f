-- The least factor above 1 of a number, which is its least prime factor. It computes at numerals: least_factor 91 is 7.
use Rattle.std.specs.Prelude.{◌≡◌, cond, List, ℕ, zero, suc, ◌%◌, ◌≤◌, ◌<◌, ltb, get_or}
use Rattle.std.specs.Int.{◌∣◌}

-- The first number from d on that divides n, among d and the next `fuel` ones; r is the remainder of n at d.
unfoldable pub first_factor : ℕ → ℕ → ℕ → ℕ → ℕ
first_factor zero n d r = d
first_factor (suc fuel) n d zero = d
first_factor (suc fuel) n d (suc r) = first_factor fuel n (suc d) (n % suc d)

-- the least factor of n above 1, for n above 1
unfoldable pub least_factor : ℕ → ℕ
unfolding first_factor
least_factor n = first_factor n n 2 (n % 2)

-- the list has at each place from 2 to 4096 the least factor of its number
abbrev pub LeastFactors : List ℕ → Type 0
LeastFactors xs = (n : ℕ) → 1 < n → n ≤ 4096 → get_or xs n 0 ≡ least_factor n

-- what `least_factor` answers: 0 below 2 and above 4096
unfoldable pub least_factor_answer : ℕ → ℕ
least_factor_answer n = cond (ltb n 2) 0 (cond (ltb 4096 n) 0 (least_factor n))

-- f is prime: above 1, with no factor above 1 but itself
pub record Prime (f : ℕ) : Type 0 where
  pub above_one : 1 < f
  pub only : (d : ℕ) → 1 < d → d ∣ f → d ≡ f
