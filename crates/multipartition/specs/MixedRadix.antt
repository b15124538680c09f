-- Numbers and their digits in mixed radix: processors by their coordinates, with the last digit running fastest, and tiles by their positions,
-- with the first.
use Rattle.std.specs.Prelude.{List, [], ◌∷◌, ℕ, ◌+◌, ◌*◌, ◌/◌, ◌%◌}
use Rattle.numbers.specs.Products.{product}
use Rattle.multipartition.specs.Lists.{first, rest}

-- starting at n and, for each base, multiplying by the base and adding the digit
unfoldable pub number_from : ℕ → List ℕ → List ℕ → ℕ
number_from n [] digits = n
number_from n (b ∷ bases) digits = number_from (n * b + first digits) bases (rest digits)

-- the digits of a number: each was multiplied by all later bases
unfoldable pub digits_of : List ℕ → ℕ → List ℕ
digits_of [] n = []
digits_of (b ∷ bases) n = (n / product bases % b) ∷ digits_of bases n

-- the first digit running fastest: the first digit, plus its base times the number of the others
unfoldable pub number_up : List ℕ → List ℕ → ℕ
number_up [] digits = 0
number_up (b ∷ bases) digits = first digits + b * number_up bases (rest digits)

-- its digits: the first is what is left over of its base, and the others are those of the quotient
unfoldable pub digits_up : List ℕ → ℕ → List ℕ
digits_up [] n = []
digits_up (b ∷ bases) n = (n % b) ∷ digits_up bases (n / b)
