-- `smallest_refused` meets its contract.
use mathlib.Core.Path.{◌≡◌, sym, ap, ◌∙◌}
use mathlib.Core.Option.{some}
use Rattle.std.proofs.lemmas.Result.{err_from_is_err_and}
use Rattle.multipartition.specs.Answers.{answered}
use Rattle.refusals.specs.Told.{number_of, place_of}
use Rattle.planner.specs.Asked.{asked}
use Rattle.planner.specs.Planned.{passed_job}
use Rattle.planner.proofs.Answers.{same_job, checks_refuse, checks-not-5, checks_passed}
use Rattle.refused_share.specs.Shares.{share_answer}
use Rattle.refused_share.proofs.Shares.{five_iff, shown_of-five, nothing_of_passed, refused_iff}
use Rattle.refused_share.proofs.smallest_refused.Goals as goal
use Rattle.refused_share.proofs.smallest_refused.Goals.{In_ok-passed}

pub returns-in_err-passed : goal.returns-in_err-passed
returns-in_err-passed c =
    let p = err_from_is_err_and c.from_residual.result c.from_residual.ensures.1 in
    let refusal = c.in_err-passed.field-0.0 in
    rw (p.1, p.2)
    (sym ((refused_iff (asked c.args.job) (number_of refusal) (place_of refusal)).1 (
      checks_refuse (asked c.args.job) (number_of refusal) (place_of refusal) c.in_err-passed.ensures,
      checks-not-5 (asked c.args.job) (number_of refusal) (place_of refusal) c.in_err-passed.ensures,
    )))

-- it is the job that was asked
same : (c : In_ok-passed) → passed_job c.in_ok-passed.passed ≡ asked c.args.job
same c = same_job (asked c.args.job) (passed_job c.in_ok-passed.passed) c.in_ok-passed.ensures

pub is_five-requires : goal.is_five-requires
is_five-requires c = checks_passed (asked c.args.job) (passed_job c.in_ok-passed.passed) c.in_ok-passed.ensures

pub returns-then-not-is_five : goal.returns-then-not-is_five
returns-then-not-is_five c =
    sym (nothing_of_passed (passed_job c.in_ok-passed.passed) (checks_passed (asked c.args.job) (passed_job c.in_ok-passed.passed) c.in_ok-passed.ensures) (sym c.is_five.ensures ∙ c.if-not-is_five.true))
    ∙ ap share_answer (same (goal.at.returns-then-not-is_five c).In_ok-passed)

pub smallest-x-requires : goal.smallest-x-requires
smallest-x-requires c = (five_iff (passed_job c.in_ok-passed.passed)).0 (sym c.is_five.ensures ∙ c.if-not-is_five.false)

pub returns : goal.returns
returns c =
    let job = passed_job c.in_ok-passed.passed in
    ap (λ x. answered (some x)) c.smallest-x.ensures
    ∙ sym (shown_of-five job ((five_iff job).0 (sym c.is_five.ensures ∙ c.if-not-is_five.false)))
    ∙ ap share_answer (same (goal.at.returns c).In_ok-passed)
