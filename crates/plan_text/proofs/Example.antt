-- Document 01's example: what is printed for its job is, byte for byte, what document 01 shows, with the cost of document 02: "the grid 8 8 8 on 4
-- prints `cost 3`".
use mathlib.Core.Path.{◌≡◌, refl}
use mathlib.Core.List.{List, [], ◌∷◌, ◌++◌}
use Prim.Native.Nat.{ℕ}
use Rattle.numerals.specs.Words.{bytes_of}
use Rattle.numerals.specs.Decimal.{decimal, decimal_within}
use Rattle.numbers.specs.Gcd.{gcd}
use Rattle.numbers.specs.Sums.{same}
use Rattle.multipartition.specs.Lists.{all_below, first_failing, list_of, starting_with, those}
use Rattle.multipartition.specs.Cuts.{is_even, cuts_within, most_of, cut_cost, not_later, not_more, precedes, preferred, chosen, cheapest_within}
use Rattle.multipartition.specs.Moduli.{moduli_of}
use Rattle.multipartition.specs.Matrix.{remainder, finish, finished_rows, rows_of, remainders_of, matrix_of}
use Rattle.multipartition.specs.MixedRadix.{number_from, digits_of}
use Rattle.multipartition.specs.Neighbours.{column_of, turn, turned, next_owner, neighbour_at}
use Rattle.multipartition.specs.Plans.{job_with}
use Rattle.multipartition.specs.Jobs.{plan_with, plan_answer}
use Rattle.plan_text.specs.PlanText.{joined, processors, up_line, plan_text, answer_text}

-- the ten lines
abbrev pub example_text : List ℕ
example_text =
    bytes_of "plan 4 3\n"
    ++ bytes_of "cuts 2 2 2\n"
    ++ bytes_of "cost 3\n"
    ++ bytes_of "mod 1 2 2\n"
    ++ bytes_of "row 0 0 0\n"
    ++ bytes_of "row 1 1 0\n"
    ++ bytes_of "row 0 1 1\n"
    ++ bytes_of "up 1 2 3 0 1\n"
    ++ bytes_of "up 2 3 2 1 0\n"
    ++ bytes_of "up 3 1 0 3 2\n"

pub example_printed : answer_text (plan_answer (job_with 4 3 (8 ∷ 8 ∷ 8 ∷ []) (1 ∷ 1 ∷ 1 ∷ []) [])) ≡ example_text
unfolding decimal decimal_within gcd same all_below first_failing list_of starting_with those is_even cuts_within most_of cut_cost not_later not_more precedes preferred chosen cheapest_within moduli_of remainder finish finished_rows rows_of remainders_of matrix_of number_from digits_of column_of turn turned next_owner neighbour_at plan_with plan_answer joined processors up_line plan_text answer_text
example_printed = refl
