-- Figures of the probe line, computed from the definitions.
use mathlib.Core.Path.{◌≡◌, refl}
use mathlib.Core.List.{List, [], ◌∷◌, map}
use Prim.Native.Nat.{ℕ}
use lib.ListN.{replicate}
use Rattle.numbers.specs.Gcd.{gcd}
use Rattle.numbers.specs.Sums.{same}
use Rattle.multipartition.specs.Answers.{Answer, answered, refused}
use Rattle.multipartition.specs.Lists.{all_below, list_of}
use Rattle.multipartition.specs.Moduli.{moduli_of}
use Rattle.multipartition.specs.Matrix.{remainder, finish, finished_rows, rows_of, remainders_of, matrix_of}
use Rattle.multipartition.specs.Plans.{Layout, job_with, layout_with, in_shape}
use Rattle.multipartition.specs.Slabs.{slab_start, slab_from, slab_of}
use Rattle.probes.specs.Probes.{all_within, first_fall_from, first_fall, slabs_into, probes_answer}

-- 4 processors on 10 10: slabs of 3, 3, 2 and 2 elements
abbrev square : Layout
square = layout_with (job_with 4 2 (10 ∷ 10 ∷ []) (1 ∷ 1 ∷ []) []) (4 ∷ 4 ∷ [])

-- a probe line along dimension 1: its elements, and what the second list holds before
abbrev pub along_square : List ℕ × List ℕ → Answer (List ℕ)
along_square (elements, lent) = probes_answer square 1 elements lent

-- so many 9s
abbrev nines : ℕ → List ℕ
nines n = replicate n 9

pub figures : map along_square
    ((0 ∷ 2 ∷ 3 ∷ 5 ∷ 5 ∷ 6 ∷ 9 ∷ [], nines 9)
    ∷ (0 ∷ 0 ∷ 9 ∷ 9 ∷ [], nines 4)
    ∷ ([], nines 2)
    ∷ ([], [])
    ∷ (5 ∷ 3 ∷ 2 ∷ [], nines 3)
    ∷ (1 ∷ 2 ∷ 2 ∷ 1 ∷ 0 ∷ [], nines 9)
    ∷ (5 ∷ 10 ∷ 3 ∷ [], nines 3)
    ∷ (5 ∷ 3 ∷ [], nines 1)
    ∷ (3 ∷ 2 ∷ 10 ∷ [], nines 1)
    ∷ [])
    ≡ answered (0 ∷ 0 ∷ 1 ∷ 1 ∷ 1 ∷ 2 ∷ 3 ∷ 9 ∷ 9 ∷ [])
    ∷ answered (0 ∷ 0 ∷ 3 ∷ 3 ∷ [])
    ∷ answered (9 ∷ 9 ∷ [])
    ∷ answered []
    ∷ refused 14 2
    ∷ refused 14 4
    ∷ refused 8 0
    ∷ refused 9 0
    ∷ refused 8 0
    ∷ []
unfolding gcd same all_below list_of moduli_of remainder finish finished_rows rows_of remainders_of matrix_of in_shape slab_start slab_from slab_of all_within first_fall_from first_fall slabs_into probes_answer
figures = refl

-- more slabs than elements: out of shape
abbrev too_fine : Layout
too_fine = layout_with (job_with 4 2 (10 ∷ 10 ∷ []) (1 ∷ 1 ∷ []) []) (12 ∷ 4 ∷ [])

-- an empty list is refused too, of a plan out of shape and along a dimension that there is not
pub refused_figures : (probes_answer too_fine 3 [] [] ≡ refused 6 0) × (probes_answer square 3 [] [] ≡ refused 7 0)
unfolding gcd same all_below list_of moduli_of remainder finish finished_rows rows_of remainders_of matrix_of in_shape all_within first_fall probes_answer
refused_figures = (refl, refl)
