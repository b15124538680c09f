-- Bounded sums and counts. A count is the sum of an indicator, which is 0 or 1.
use Rattle.std.specs.Prelude.{Bool, true, false, ℕ, zero, suc, ◌+◌, eqb}

-- f 0 + .. + f (b - 1)
unfoldable pub sum : ℕ → (ℕ → ℕ) → ℕ
sum zero f = zero
sum (suc b) f = sum b f + f b

-- 1 where the test passes, 0 where it fails
abbrev pub indicator : Bool → ℕ
indicator true = 1
indicator false = zero

-- 1 where the two numbers are equal, else 0
unfoldable pub same : ℕ → ℕ → ℕ
same x y = indicator (eqb x y)
