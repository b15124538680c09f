-- The printed plan (document 01, "The printed plan"). "Each line opens with its fixed word."
use Rattle.std.specs.Prelude.{List, [], ◌∷◌, ◌++◌, ℕ, zero, suc, get_or}
use Rattle.std.proofs.Math.Option.{Option, none, some}
use Rattle.numerals.specs.Words.{bytes_of}
use Rattle.numerals.specs.Decimal.{decimal}
use Rattle.numerals.specs.Lines.{line_of}
use Rattle.multipartition.specs.Lists.{list_of}
use Rattle.multipartition.specs.Answers.{Answer, answered, refused}
use Rattle.multipartition.specs.Plans.{Layout}
use Rattle.multipartition.specs.StarredGrids.{neighbours_up}

-- f 0, f 1 and so on, one after the other: n texts
unfoldable pub joined : ℕ → (ℕ → List ℕ) → List ℕ
joined zero f = []
joined (suc n) f = joined n f ++ f n

-- "row ", and row i, counted from 0
abbrev pub row_line : List (List ℕ) → ℕ → List ℕ
row_line matrix i = bytes_of "row " ++ line_of (get_or matrix i [])

-- the processors among the answers
unfoldable pub processors : List (Option ℕ) → List ℕ
processors [] = []
processors (none ∷ answers) = processors answers
processors (some q ∷ answers) = q ∷ processors answers

-- some processors, "or `none` in their stead"
abbrev pub or_none : List ℕ → List ℕ
or_none [] = bytes_of "none\n"
or_none (q ∷ numbers) = line_of (q ∷ numbers)

-- "up ", and of dimension k, counted from 1, "its number and the upward neighbours of processors 0 to p-1"
unfoldable pub up_line : Layout → ℕ → List ℕ
up_line plan k = bytes_of "up " ++ (decimal k ++ (32 ∷ or_none (processors (neighbours_up plan k (list_of 0 plan.p (λ q. q))))))

-- "The lines are: p and d; cuts; cost; moduli; d matrix rows; and for each dimension its number and the upward neighbours"
unfoldable pub plan_text : Layout → List ℕ
plan_text plan =
    (bytes_of "plan " ++ line_of (plan.p ∷ plan.d ∷ []))
    ++ (bytes_of "cuts " ++ line_of plan.cuts)
    ++ (bytes_of "cost " ++ line_of (plan.cost ∷ []))
    ++ (bytes_of "mod " ++ line_of plan.moduli)
    ++ joined plan.d (row_line plan.matrix)
    ++ joined plan.d (λ i. up_line plan (suc i))

-- "A refusal prints `refused N PLACE` alone."
abbrev pub refused_text : ℕ → ℕ → List ℕ
refused_text number place = bytes_of "refused " ++ line_of (number ∷ place ∷ [])

-- what is printed of the answer to a job
unfoldable pub answer_text : Answer Layout → List ℕ
answer_text (answered plan) = plan_text plan
answer_text (refused number place) = refused_text number place
