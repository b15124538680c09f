-- The pages of a slab sheet (document 02, request k). Slabs, elements and pages are numbered from 0, dimensions from 1.
use Rattle.std.specs.Prelude.{cond, List, [], ◌∷◌, ◌++◌, ℕ, zero, suc, ◌-◌, ◌*◌, ◌/◌, ◌≤◌, ltb, leb, eqb}
use Rattle.multipartition.specs.Answers.{Answer, answered, checked}
use Rattle.multipartition.specs.Plans.{Layout, tiles_of}
use Rattle.multipartition.specs.Slabs.{slab_start, slab_end}
use Rattle.multipartition.specs.Questions.{extent_of, cut_of, shape_check, dimension_check, range_check, length_check}
use Rattle.sheet.specs.Lines.{blanks, slab_line}

-- "tiles per processor is exactly tiles / (bk · p); for any other plan the figure is that quotient rounded down"
unfoldable pub tiles_each : Layout → ℕ → ℕ
tiles_each plan k = tiles_of plan / (cut_of plan k * plan.p)

-- line s of a dimension of n elements in b slabs: "Each line is exactly 72 columns and starts as blanks." That of a slab is filled, and "the last [page]
-- filled up with blank ones".
unfoldable pub sheet_line : (n b share : ℕ) → List ℕ → ℕ → List ℕ
sheet_line n b share caption s = cond (ltb s b) (slab_line s (slab_start n b s) (slab_end n b s) share caption) (blanks 72)

-- "A newline follows each line.": so many lines, from line s on
unfoldable pub lines_from : (ℕ → List ℕ) → ℕ → ℕ → List ℕ
lines_from line s zero = []
lines_from line s (suc count) = line s ++ (10 ∷ lines_from line (suc s) count)

-- "A page has 50 lines": page n, "counted from 0", of dimension k
unfoldable pub sheet_page : Layout → ℕ → ℕ → List ℕ → List ℕ
sheet_page plan k page caption = lines_from (sheet_line (extent_of plan k) (cut_of plan k) (tiles_each plan k) caption) (page * 50) 50

-- one page of dimension k, for a lent list of so many bytes: "A page past the one with the last slab is an 8, and a list of another length is a 9."
unfoldable pub sheet_answer : Layout → ℕ → ℕ → List ℕ → ℕ → Answer (List ℕ)
sheet_answer plan k page caption places =
    checked
    (shape_check plan
    ∷ dimension_check plan k
    ∷ range_check (leb page ((cut_of plan k - 1) / 50))
    ∷ length_check (eqb places 3650)
    ∷ [])
    (answered (sheet_page plan k page caption))

-- what a plan in shape has of a dimension's elements, slabs and tiles per processor: no number of a line is too long for its field
pub record Fits (n b share : ℕ) : Type 0 where
  pub extent_high : n ≤ 1000000
  pub cut_low : 1 ≤ b
  pub cut_high : b ≤ 4096
  pub cut_fits : b ≤ n
  pub share_high : share ≤ 16777216
