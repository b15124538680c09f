-- What a page that the call answers says, beside what other calls answer (document 02, request k). `sheet_answer`, `slab_answer`, `owner_by` are what the
-- contracts of `sheet::slab_sheet`, of the slab question, `tiles::slabs::slab_elements`, and of the owner question promise.
use Rattle.std.specs.Prelude.{◌≡◌, List, [], ◌∷◌, ◌++◌, ℕ, ◌+◌, ◌-◌, ◌*◌, ◌/◌, ◌%◌, ◌≤◌, ◌<◌, length, take, drop}
use Rattle.multipartition.specs.Answers.{answered}
use Rattle.multipartition.specs.Plans.{Layout, tiles_of}
use Rattle.multipartition.specs.Questions.{cut_of, owner_by, slab_answer}
use Rattle.multipartition.specs.Rivals.{held}
use Rattle.sheet.specs.Lines.{blanks, slab_line}
use Rattle.sheet.specs.Pages.{tiles_each}

-- line i of a page, counted from 0, with its newline: 73 bytes
abbrev pub line_in : List ℕ → ℕ → List ℕ
line_in bytes i = take 73 (drop (i * 73) bytes)

-- what a page holds that is answered
pub record PageOf (plan : Layout) (k page : ℕ) (caption bytes : List ℕ) : Type 0 where
  pub long : length bytes ≡ 3650
  -- it is not "past the one with the last slab": it has a slab
  pub has_slab : page * 50 < cut_of plan k
  -- the line of every slab that stands on it: with the elements that the slab question answers, and the caption, "the same on each slab's line"
  pub slab_line_lem : (s first after : ℕ) → s / 50 ≡ page → slab_answer plan k s ≡ answered (first, after)
      → line_in bytes (s % 50) ≡ slab_line s first after (tiles_each plan k) caption ++ (10 ∷ [])
  -- "filled up with blank ones"
  pub blank_line : (i : ℕ) → i < 50 → cut_of plan k ≤ page * 50 + i → line_in bytes i ≡ blanks 72 ++ (10 ∷ [])

-- "For the planner's and diagonal plans tiles per processor is exactly tiles / (bk · p)": not rounded, and so many tiles of every slab of dimension k
-- every processor owns
pub record ExactShare (plan : Layout) (k : ℕ) : Type 0 where
  pub exact : tiles_each plan k * (cut_of plan k * plan.p) ≡ tiles_of plan
  pub owned : (s q : ℕ) → s < cut_of plan k → q < plan.p → held plan.cuts (owner_by plan) (k - 1) s q ≡ tiles_each plan k
