-- Two inputs byte for byte. For document 01's example the program prints what the paper shows, and tells nothing; for that of document 02, request j,
-- "p = 12 on a grid of 5 by 5", it prints the refusal and tells 6.
use mathlib.Core.Path.{◌≡◌, refl, sym, ap}
use mathlib.Core.List.{[], ◌∷◌}
use mathlib.Core.Option.{none, some}
use native.Mathlib.Omega.{arith}
use Rattle.numerals.specs.Words.{bytes_of}
use Rattle.numerals.specs.Decimal.{decimal, decimal_within}
use Rattle.multipartition.specs.Answers.{answered}
use Rattle.multipartition.specs.Lists.{all_below, first_failing, first_such, starting_with, those}
use Rattle.multipartition.specs.Cuts.{is_even, cuts_within, most_of, cut_cost, not_later, not_more, precedes, preferred, chosen, cheapest_within}
use Rattle.multipartition.specs.Plans.{job_with}
use Rattle.multipartition.specs.Jobs.{plan_with, plan_answer}
use Rattle.refused_share.specs.Shares.{is_five, is_refused_divisor, smallest_refused, share_of, share_answer}
use Rattle.refused_share.proofs.Shares.{shown}
use Rattle.plan_text.specs.PlanText.{answer_text}
use Rattle.plan_text.proofs.Example.{example_text, example_printed}
use Rattle.plan.specs.ShareText.{share_text}
use Rattle.plan.specs.Prints.{job_of_line, program_answer, Prints}

example_share : share_answer (job_with 4 3 (8 ∷ 8 ∷ 8 ∷ []) (1 ∷ 1 ∷ 1 ∷ []) []) ≡ answered none
unfolding all_below first_failing starting_with those is_even cuts_within most_of cut_cost not_later not_more precedes preferred chosen cheapest_within plan_with plan_answer share_of share_answer
example_share = refl

pub example_prints : Prints (bytes_of "4 3 8 8 8 1 1 1\n") example_text []
unfolding decimal decimal_within program_answer job_of_line share_text
example_prints = record {
  read = answered (4 ∷ 3 ∷ 8 ∷ 8 ∷ 8 ∷ 1 ∷ 1 ∷ 1 ∷ []);
  finds = (record { enough = omega arith; few = omega arith; small = omega arith }, refl);
  prints = sym example_printed;
  tells = sym (ap share_text example_share);
}

refused_share : share_answer (job_with 12 2 (5 ∷ 5 ∷ []) (1 ∷ 1 ∷ []) []) ≡ answered (some 6)
unfolding all_below first_failing first_such starting_with those is_even cuts_within most_of cut_cost not_later not_more precedes preferred chosen cheapest_within plan_with plan_answer is_five is_refused_divisor smallest_refused share_of share_answer
refused_share = refl

pub refused_prints : Prints (bytes_of "12 2 5 5 1 1\n") (bytes_of "refused 5 0\n")
    (bytes_of "plan: no cuts that fit this grid give every processor equally many tiles in every slab; the smallest divisor of p for which none do is 6\n")
unfolding decimal decimal_within program_answer job_of_line answer_text share_text
refused_prints = record {
  read = answered (12 ∷ 2 ∷ 5 ∷ 5 ∷ 1 ∷ 1 ∷ []);
  finds = (record { enough = omega arith; few = omega arith; small = omega arith }, refl);
  prints = sym (ap answer_text (shown _ 6 refused_share).0);
  tells = sym (ap share_text refused_share);
}
