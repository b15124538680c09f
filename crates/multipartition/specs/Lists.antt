-- Lists of numbers, as the definitions of this crate read them. A list has one number a dimension and runs from dimension 1 to dimension d, so
-- that place k, counted from 0, is dimension k + 1.
use Rattle.std.specs.Prelude.{Bool, true, cond, ◌&&◌, List, [], ◌∷◌, ◌++◌, map, ℕ, zero, suc, ◌+◌}

-- the first number, 0 where there is none, and the numbers after it
abbrev pub first : List ℕ → ℕ
first [] = 0
first (x ∷ xs) = x

abbrev pub rest : List ℕ → List ℕ
rest [] = []
rest (x ∷ xs) = xs

-- the same of a list of rows
abbrev pub first_list : List (List ℕ) → List ℕ
first_list [] = []
first_list (row ∷ rows) = row

abbrev pub rest_lists : List (List ℕ) → List (List ℕ)
rest_lists [] = []
rest_lists (row ∷ rows) = rows

-- the numbers below n all pass the test
unfoldable pub all_below : ℕ → (ℕ → Bool) → Bool
all_below zero test = true
all_below (suc n) test = all_below n test && test n

-- the first of `count` numbers, from `from` on, that passes the test; the number after them if none does
unfoldable pub first_such : (ℕ → Bool) → ℕ → ℕ → ℕ
first_such test from zero = from
first_such test from (suc count) = cond (test from) from (first_such test (suc from) count)

-- the place of the first number of a list that fails the test, counted on from k; 0 if none does
unfoldable pub first_failing : (ℕ → Bool) → ℕ → List ℕ → ℕ
first_failing test k [] = 0
first_failing test k (x ∷ xs) = cond (test x) (first_failing test (suc k) xs) k

-- f from, f (from + 1), ..: n of them
unfoldable pub list_of : ℕ → ℕ → (ℕ → ℕ) → List ℕ
list_of from zero f = []
list_of from (suc n) f = f from ∷ list_of (suc from) n f

-- the lists of xs with `from` in front, then those with from + 1 in front, and so on: n numbers in all
unfoldable pub starting_with : ℕ → ℕ → List (List ℕ) → List (List ℕ)
starting_with from zero xs = []
starting_with from (suc n) xs = map (λ x. from ∷ x) xs ++ starting_with (suc from) n xs

-- the sum of f over the lists
unfoldable pub sum_over : (List ℕ → ℕ) → List (List ℕ) → ℕ
sum_over f [] = 0
sum_over f (x ∷ xs) = f x + sum_over f xs

-- how many of the lists pass the test
unfoldable pub count : (List ℕ → Bool) → List (List ℕ) → ℕ
count test [] = 0
count test (x ∷ xs) = cond (test x) 1 0 + count test xs

-- those of the lists that pass the test
unfoldable pub those : (List ℕ → Bool) → List (List ℕ) → List (List ℕ)
those test [] = []
those test (x ∷ xs) = cond (test x) (x ∷ those test xs) (those test xs)
