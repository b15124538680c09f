-- Slabs of a whole probe line (document 02, request h). Dimensions are numbered from 1.
use Rattle.std.specs.Prelude.{Bool, cond, not, List, [], ◌∷◌, ◌++◌, map, ℕ, suc, ltb, leb, eqb, length, get_or, drop, Option, None, Some}
use Rattle.multipartition.specs.Answers.{Answer, answered, Check, checked}
use Rattle.multipartition.specs.Lists.{all_below}
use Rattle.multipartition.specs.Plans.{Layout}
use Rattle.multipartition.specs.Slabs.{slab_of}
use Rattle.multipartition.specs.Questions.{extent_of, cut_of, shape_check, dimension_check, range_check, length_check}

-- "an element out of range is an 8": whether every element is one of n
unfoldable pub all_within : ℕ → List ℕ → Bool
all_within n elements = all_below (length elements) (λ i. ltb (get_or elements i 0) n)

-- "an element smaller than the one before": the place of the first such, where the elements stand from place k on and `before` is the one before
-- them; 0 if there is none
unfoldable pub first_fall_from : ℕ → ℕ → List ℕ → ℕ
first_fall_from k before [] = 0
first_fall_from k before (x ∷ xs) = cond (ltb x before) k (first_fall_from (suc k) x xs)

-- "with the place of the first such counted from 1": the element at place 1 has none before it
unfoldable pub first_fall : List ℕ → ℕ
first_fall [] = 0
first_fall (x ∷ xs) = first_fall_from 2 x xs

-- the same as an option
abbrev pub fall_in : List ℕ → Option ℕ
fall_in elements = cond (eqb (first_fall elements) 0) None (Some (first_fall elements))

-- "14, an element smaller than the one before, with the place of the first such"
abbrev pub rising_check : List ℕ → Check
rising_check elements = record { fails = not (eqb (first_fall elements) 0); number = 14; place = first_fall elements }

-- what the second list holds: "the slab of each"; "Places of the second list past the first one's length keep their contents."
unfoldable pub slabs_into : ℕ → ℕ → List ℕ → List ℕ → List ℕ
slabs_into n b elements lent = map (slab_of n b) elements ++ drop (length elements) lent

-- the slabs of a list of elements of dimension k, in a second list that held `lent`: "an element out of range is an 8 and a second list shorter than
-- the first is a 9", and 14 "after 9"
unfoldable pub probes_answer : Layout → ℕ → List ℕ → List ℕ → Answer (List ℕ)
probes_answer plan k elements lent =
    checked
    (shape_check plan
    ∷ dimension_check plan k
    ∷ range_check (all_within (extent_of plan k) elements)
    ∷ length_check (leb (length elements) (length lent))
    ∷ rising_check elements
    ∷ [])
    (answered (slabs_into (extent_of plan k) (cut_of plan k) elements lent))
