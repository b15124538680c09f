-- The hypercube layout (document 02, request c). A position's places are counted from 0: i1 stands at place 0.
use Rattle.std.specs.Prelude.{Bool, cond, List, [], ◌∷◌, ℕ, zero, suc, ◌+◌, ◌*◌, ◌/◌, ◌%◌, ◌^◌, leb, eqb, get_or, Option, Some, None}
use Rattle.std.specs.Int.Bits.{bit_xor}
use Rattle.multipartition.specs.Answers.{Answer, answered, Check, checked}
use Rattle.multipartition.specs.Lists.{first_such}
use Rattle.multipartition.specs.Jobs.{processors_check, suits_check}
use Rattle.multipartition.specs.Questions.{range_check}
use Rattle.multipartition.specs.Tiles.{is_inside}

-- "the reflected Gray code, in which r becomes r exclusive-or floor(r/2)"
unfoldable pub gray : ℕ → ℕ
gray r = bit_xor r (r / 2)

-- "three dimensions of 2 to the power e slabs"
unfoldable pub hypercube_cuts : ℕ → List ℕ
hypercube_cuts e = 2 ^ e ∷ 2 ^ e ∷ 2 ^ e ∷ []

-- "The owner is the code of (i2 + i3) in the upper e bits and that of (i1 + i3) in the lower, both sums modulo 2 to the power e."
unfoldable pub hypercube_owner : ℕ → List ℕ → ℕ
hypercube_owner e position =
    gray ((get_or position 1 0 + get_or position 2 0) % 2 ^ e) * 2 ^ e + gray ((get_or position 0 0 + get_or position 2 0) % 2 ^ e)

-- ---- "owners of hypercube tiles with a common face along i1 or along i2 differ in just one bit and along i3 in just two"

-- the number of one bits among the lowest `count` bits of a number; a number has no more bits than its value
unfoldable pub ones_in : ℕ → ℕ → ℕ
ones_in zero n = 0
ones_in (suc count) zero = 0
ones_in (suc count) (suc n) = suc n % 2 + ones_in count (suc n / 2)

-- the number of one bits of a number
unfoldable pub ones : ℕ → ℕ
ones n = ones_in n n

-- in how many bits two numbers "differ"
unfoldable pub bits_apart : ℕ → ℕ → ℕ
bits_apart a b = ones (bit_xor a b)

-- "along i1 or along i2 .. in just one bit and along i3 in just two"
unfoldable pub bits_along : ℕ → ℕ
bits_along zero = 1
bits_along (suc zero) = 1
bits_along (suc (suc k)) = 2

-- ---- "a separate owner question on p and a position"

-- "p = 4 to the power e"
unfoldable pub is_exponent : ℕ → ℕ → Bool
is_exponent p e = eqb (4 ^ e) p

-- that e, "from 0 to 6", and 7 where there is none
unfoldable pub exponent_of : ℕ → ℕ
exponent_of p = first_such (is_exponent p) 0 7

-- 2 to the power of that e, if there is one
unfoldable pub side_of : ℕ → Option ℕ
side_of p = cond (leb (exponent_of p) 6) (Some (2 ^ exponent_of p)) None

-- "New numbers: 12, p or d doesn't suit the layout, after 2 and before 3": 2, then 12, then 8
abbrev pub hypercube_checks : ℕ → List ℕ → List Check
hypercube_checks p position =
    processors_check p
    ∷ suits_check (leb (exponent_of p) 6)
    ∷ range_check (is_inside (hypercube_cuts (exponent_of p)) position)
    ∷ []

-- who owns a position, or a refusal
unfoldable pub hypercube_answer : ℕ → List ℕ → Answer ℕ
hypercube_answer p position = checked (hypercube_checks p position) (answered (hypercube_owner (exponent_of p) position))
