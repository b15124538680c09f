-- Figures of request j, computed from the definitions over all cut vectors: "For p = 12 on a grid of 5 by 5 with unit thicknesses, the answer is 6."
use mathlib.Core.Path.{◌≡◌, refl}
use mathlib.Core.List.{List, [], ◌∷◌, map}
use mathlib.Core.Option.{Option, none, some}
use Prim.Native.Nat.{ℕ}
use lib.ListN.{length}
use Rattle.multipartition.specs.Answers.{Answer, answered, refused}
use Rattle.multipartition.specs.Lists.{all_below, first_failing, first_such, starting_with, those}
use Rattle.multipartition.specs.Cuts.{is_even, cuts_within, most_of, cut_cost, not_later, not_more, precedes, preferred, chosen, cheapest_within}
use Rattle.multipartition.specs.Plans.{job_with}
use Rattle.multipartition.specs.Jobs.{plan_with, plan_answer}
use Rattle.refused_share.specs.Shares.{is_five, is_refused_divisor, smallest_refused, share_of, share_answer}

-- a job of weights 1, with as many thicknesses as given
pub record Asked : Type 0 where
  pub p : ℕ
  pub extents : List ℕ
  pub least : List ℕ

abbrev pub share_to : Asked → Answer (Option ℕ)
share_to asked =
    share_answer (job_with asked.p (length asked.extents) asked.extents (map (λ (n : ℕ). 1) asked.extents) asked.least)

abbrev pub jobs : List Asked
jobs =
    record { p = 12; extents = 5 ∷ 5 ∷ []; least = [] }
    ∷ record { p = 12; extents = 9 ∷ 9 ∷ []; least = [] }
    ∷ record { p = 12; extents = 12 ∷ 12 ∷ []; least = [] }
    ∷ record { p = 30; extents = 5 ∷ 5 ∷ 5 ∷ []; least = [] }
    ∷ record { p = 2; extents = 3 ∷ 3 ∷ []; least = 4 ∷ 1 ∷ [] }
    ∷ record { p = 12; extents = 5 ∷ 0 ∷ []; least = [] }
    ∷ []

pub figures : map share_to jobs
    ≡ answered (some 6) ∷ answered (some 12) ∷ answered none ∷ answered (some 6) ∷ answered (some 1) ∷ refused 4 2 ∷ []
unfolding all_below first_failing first_such starting_with those is_even cuts_within most_of cut_cost not_later not_more precedes preferred chosen cheapest_within plan_with plan_answer is_five is_refused_divisor smallest_refused share_of share_answer
figures = refl
