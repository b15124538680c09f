-- `cuts::cheapest_cuts` meets its contract. Without places there is no table.
use mathlib.Core.Path.{◌≡◌, ◌∙◌}
use Rattle.numbers.specs.Divisors.{divisors_of}
use Rattle.numbers.proofs.Divisors.{divisors_answer_inside}
use Rattle.cuts.proofs.Pairs.{shares_none}
use Rattle.cuts.proofs.cheapest_cuts.Goals as goal
use Rattle.cuts.proofs.cheapest_cuts.Goals.{After-as_slice}

-- the list is that of the divisors
listed : (c : After-as_slice) → c.as_slice.result.now ≡ divisors_of c.args.p
listed c = c.as_slice.ensures.value ∙ c.divisors-found.ensures ∙ divisors_answer_inside c.args.p c.requires.p_high

pub invariant_of-tables : goal.invariant_of-tables
invariant_of-tables c = record { asked = c.requires; divided = listed (goal.at.invariant_of-tables c).After-as_slice; table = shares_none _ }

pub invariant_of-tables-in-2 : goal.invariant_of-tables-in-2
invariant_of-tables-in-2 c = record { asked = c.requires; divided = listed (goal.at.invariant_of-tables-in-2 c).After-as_slice; table = shares_none _ }

pub invariant_of-tables-in_default : goal.invariant_of-tables-in_default
invariant_of-tables-in_default c = record { asked = c.requires; divided = listed (goal.at.invariant_of-tables-in_default c).After-as_slice; table = shares_none _ }
