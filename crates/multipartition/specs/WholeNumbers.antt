-- Natural numbers that stand for whole numbers modulo m: rows of the matrix are kept so until the last one is finished.
use Rattle.std.specs.Prelude.{◌≡◌, ℕ, suc, ◌+◌, ◌%◌, ℤ, pos, negsuc}

-- the two parts of a whole number: it is the first less the second
abbrev pub plus : ℤ → ℕ
plus (pos n) = n
plus (negsuc n) = 0

abbrev pub minus : ℤ → ℕ
minus (pos n) = 0
minus (negsuc n) = suc n

-- the natural number n stands for the whole number z modulo m: z and n have the same remainder
unfoldable pub Stands : ℕ → ℤ → ℕ → Type 0
Stands m z n = (n + minus z) % m ≡ plus z % m
