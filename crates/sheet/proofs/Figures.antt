-- Figures of the slab sheet, computed from the definitions.
use mathlib.Core.Path.{◌≡◌, refl}
use mathlib.Core.List.{List, [], ◌∷◌, ◌++◌, map}
use Prim.Native.Nat.{ℕ}
use lib.ListN.{replicate}
use Rattle.numbers.specs.Gcd.{gcd}
use Rattle.numbers.specs.Sums.{same}
use Rattle.numerals.specs.Decimal.{decimal_within, decimal}
use Rattle.numerals.specs.Words.{bytes_of}
use Rattle.multipartition.specs.Answers.{Answer, answered, refused}
use Rattle.multipartition.specs.Lists.{all_below, list_of}
use Rattle.multipartition.specs.Moduli.{moduli_of}
use Rattle.multipartition.specs.Matrix.{remainder, finish, finished_rows, rows_of, remainders_of, matrix_of}
use Rattle.multipartition.specs.Plans.{Layout, job_with, layout_with, in_shape}
use Rattle.multipartition.specs.Slabs.{slab_start}
use Rattle.sheet.specs.Lines.{right_aligned, shown, left_aligned, slab_line}
use Rattle.sheet.specs.Pages.{tiles_each, sheet_line, lines_from, sheet_page, sheet_answer}
use Rattle.sheet.specs.Reading.{line_in}

-- the lines of a page that is answered, by their places
abbrev lines_of : List ℕ → Answer (List ℕ) → List (List ℕ)
lines_of places (answered bytes) = map (line_in bytes) places
lines_of places (refused number place) = (number ∷ place ∷ []) ∷ []

-- a line of text, with its newline
abbrev line : List ℕ → List ℕ
line columns = columns ++ (10 ∷ [])

-- 4 processors on 10 10, 4 slabs each way; a tab in the caption
abbrev square : Layout
square = layout_with (job_with 4 2 (10 ∷ 10 ∷ []) (1 ∷ 1 ∷ []) []) (4 ∷ 4 ∷ [])

abbrev tabbed : List ℕ
tabbed = bytes_of "Casting 17, gate side" ++ (9 ∷ bytes_of "A")

pub square_lines : lines_of (0 ∷ 2 ∷ 4 ∷ 49 ∷ []) (sheet_answer square 1 0 tabbed 3650)
    ≡ line (bytes_of "     0        0        3        1 Casting 17, gate side?A               ")
    ∷ line (bytes_of "     2        6        8        1 Casting 17, gate side?A               ")
    ∷ line (replicate 72 32)
    ∷ line (replicate 72 32)
    ∷ []
unfolding gcd same all_below list_of moduli_of remainder finish finished_rows rows_of remainders_of matrix_of in_shape slab_start decimal_within decimal right_aligned shown left_aligned slab_line tiles_each sheet_line lines_from sheet_page sheet_answer
square_lines = refl

-- 4,096 processors on 1,000,000 4,096: the last page, the 82nd, has 46 slabs; its caption is cut
abbrev longest : Layout
longest = layout_with (job_with 4096 2 (1000000 ∷ 4096 ∷ []) (1 ∷ 1 ∷ []) []) (4096 ∷ 4096 ∷ [])

pub last_page : lines_of (45 ∷ 46 ∷ []) (sheet_answer longest 1 81 (bytes_of "0123456789012345678901234567890123456789") 3650)
    ≡ line (bytes_of "  4095   999756  1000000        1 01234567890123456789012345678901234567")
    ∷ line (replicate 72 32)
    ∷ []
unfolding gcd same all_below list_of moduli_of remainder finish finished_rows rows_of remainders_of matrix_of in_shape slab_start decimal_within decimal right_aligned shown left_aligned slab_line tiles_each sheet_line lines_from sheet_page sheet_answer
last_page = refl

-- ---- tiles per processor

-- 6 processors with cuts 2 3 6, and a plan made by hand: 3 by 5 tiles for 4 processors
abbrev box : Layout
box = layout_with (job_with 6 3 (9 ∷ 9 ∷ 9 ∷ []) (1 ∷ 1 ∷ 1 ∷ []) []) (2 ∷ 3 ∷ 6 ∷ [])

abbrev uneven : Layout
uneven = layout_with (job_with 4 2 (9 ∷ 9 ∷ []) (1 ∷ 1 ∷ []) []) (3 ∷ 5 ∷ [])

pub shares : (map (tiles_each box) (1 ∷ 2 ∷ 3 ∷ []) ≡ 3 ∷ 2 ∷ 1 ∷ []) × (map (tiles_each uneven) (1 ∷ 2 ∷ []) ≡ 1 ∷ 0 ∷ [])
unfolding tiles_each
shares = (refl, refl)

-- ---- refusals

-- a plan that is out of shape: more slabs than elements
abbrev too_fine : Layout
too_fine = layout_with (job_with 4 2 (10 ∷ 10 ∷ []) (1 ∷ 1 ∷ []) []) (12 ∷ 4 ∷ [])

-- the first that applies is given: 6, 7, 8, 9; a page whose first line's number would pass 32 bits, and be 4 there, is an 8 too
pub refusals :
    (sheet_answer too_fine 3 1 [] 0 ≡ refused 6 0)
    × (sheet_answer square 3 1 [] 0 ≡ refused 7 0)
    × (sheet_answer square 1 1 [] 0 ≡ refused 8 0)
    × (sheet_answer square 1 85899346 [] 3650 ≡ refused 8 0)
    × (sheet_answer longest 1 82 [] 3650 ≡ refused 8 0)
    × (sheet_answer square 1 0 [] 3649 ≡ refused 9 0)
    × (sheet_answer square 1 0 [] 3651 ≡ refused 9 0)
unfolding gcd same all_below list_of moduli_of remainder finish finished_rows rows_of remainders_of matrix_of in_shape sheet_answer
refusals = (refl, refl, refl, refl, refl, refl, refl)
