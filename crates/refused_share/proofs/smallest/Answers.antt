-- `smallest` meets its contract.
use mathlib.Core.Path.{◌≡◌, sym, ◌∙◌}
use native.Mathlib.Omega.{arith}
use Rattle.numbers.specs.Divisors.{divisors_answer}
use Rattle.planner.specs.Planned.{passed_job}
use Rattle.planner.proofs.Checks.{measured_of-passed}
use Rattle.refused_share.proofs.Shares.{listed_some, listed_passed, smallest_listed, smallest_last}
use Rattle.refused_share.proofs.smallest.Goals as goal
use Rattle.refused_share.proofs.smallest.Goals.{After-as_slice-places}

-- the divisors
listed : (c : After-as_slice-places) → c.as_slice-places.result.now ≡ divisors_answer c.args.passed.job.p
listed c = c.as_slice-places.ensures.value ∙ c.divisors-found.ensures

pub slice_bounds-x-items-count : goal.slice_bounds-x-items-count
slice_bounds-x-items-count c =
    listed_some (passed_job c.args.passed) c.requires c.as_slice-places.result.now (listed (goal.at.slice_bounds-x-items-count c).After-as_slice-places)

pub invariant_of-share : goal.invariant_of-share
invariant_of-share c = record {
  measured =
      measured_of-passed _
      (listed_passed (passed_job c.args.passed) c.requires c.as_slice-places.result.now (listed (goal.at.invariant_of-share c).After-as_slice-places)
      c.loop-x.x-index (omega (arith, c.loop-x-test.true)));
}

pub is_five-requires : goal.is_five-requires
is_five-requires c =
    listed_passed (passed_job c.args.passed) c.requires c.as_slice-places.result.now (listed (goal.at.is_five-requires c).After-as_slice-places)
    c.loop-x.x-index (omega (arith, c.loop-x-test.true))

pub returns-then-is_five : goal.returns-then-is_five
returns-then-is_five c =
    smallest_listed (passed_job c.args.passed) c.requires c.as_slice-places.result.now (listed (goal.at.returns-then-is_five c).After-as_slice-places)
    c.loop-x.x-index c.loop-x.invariant (omega (arith, c.loop-x-test.true)) (sym c.is_five.ensures ∙ c.if-is_five.true)

pub returns : goal.returns
returns c =
    smallest_last (passed_job c.args.passed) c.requires c.as_slice-places.result.now (listed (goal.at.returns c).After-as_slice-places)
    c.loop-x.x-index c.loop-x.invariant c.loop-x-test.false
