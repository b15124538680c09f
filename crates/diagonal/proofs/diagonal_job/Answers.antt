-- `diagonal_job` meets its contract: each line of the table that turns the job down, and the plan.
use mathlib.Core.Path.{◌≡◌, ap, sym, ◌∙◌}
use mathlib.Core.Bool.{Bool}
use Prim.Native.Nat.{ℕ}
use lib.ListN.{length}
use Rattle.std.specs.Option.{ok_or}
use Rattle.std.proofs.lemmas.Result.{err_from_is_err_and}
use Rattle.refusals.specs.declared.Refusal.TheVariants.{Unsuited}
use Rattle.planner.specs.Asked.{asked}
use Rattle.planner.specs.Planned.{passed_job}
use Rattle.planner.specs.declared.Job.{Job as Asked}
use Rattle.multipartition.specs.Plans.{least_of}
use Rattle.diagonal.specs.Diagonal.{side_fits}
use Rattle.diagonal.proofs.Steps.{no_side, some_side, sizes_refuse, suits_refuse, lists_refuse, extents_many, least_many, bounds, fit_refuses, answers}
use Rattle.diagonal.proofs.diagonal_job.Goals as goal

pub returns-in_err-sizes_checked : goal.returns-in_err-sizes_checked
returns-in_err-sizes_checked c =
    let p = err_from_is_err_and c.from_residual.result c.from_residual.ensures.1 in
    rw (p.1, p.2) (sizes_refuse (asked c.args.job) c.in_err-sizes_checked.ensures)

pub returns-in_err-s : goal.returns-in_err-s
returns-in_err-s c =
    let p = err_from_is_err_and c.from_residual-in_err-s.result c.from_residual-in_err-s.ensures.1 in
    let none = no_side c.args.job.d c.args.job.p c.in_err-s.field-0.0 (c.in_err-s.ensures.value ∙ ap (λ o. ok_or o Unsuited) c.side_of.ensures) in
    rw (p.1, p.2) (none.1 ∙ suits_refuse (asked c.args.job) c.in_ok-sizes_checked.ensures none.0)

pub returns-in_err-passed : goal.returns-in_err-passed
returns-in_err-passed c =
    let p = err_from_is_err_and c.from_residual-in_err-passed.result c.from_residual-in_err-passed.ensures.1 in
    rw (p.1, p.2)
    (lists_refuse (asked c.args.job) c.in_ok-sizes_checked.ensures
    (some_side c.args.job.d c.args.job.p c.in_ok-s.s (c.in_ok-s.ensures.value ∙ ap (λ o. ok_or o Unsuited) c.side_of.ensures)).0 c.in_err-passed.ensures)

-- what `cuts_fit` tells of the list given it tells of the thicknesses of the job
fit : (job : Asked) (s : ℕ) {r : Bool} → length job.extents.now ≡ job.d
    → r ≡ side_fits s job.extents.now (least_of (length job.extents.now) job.least.now) → r ≡ side_fits s (asked job).extents (asked job).least
fit job s many e = e ∙ ap (λ n. side_fits s job.extents.now (least_of n job.least.now)) many

pub returns-then-not-cuts_fit : goal.returns-then-not-cuts_fit
returns-then-not-cuts_fit c =
    let job = asked c.args.job in
    let side = some_side c.args.job.d c.args.job.p c.in_ok-s.s (c.in_ok-s.ensures.value ∙ ap (λ o. ok_or o Unsuited) c.side_of.ensures) in
    let passed = c.in_ok-passed.passed in
    let many = extents_many job c.in_ok-sizes_checked.ensures side.0 (passed_job passed) c.in_ok-passed.ensures passed.measured in
    fit_refuses job c.in_ok-sizes_checked.ensures side.0 (passed_job passed) c.in_ok-passed.ensures c.in_ok-s.s side.1
    c.cuts_fit.result (fit c.args.job c.in_ok-s.s many c.cuts_fit.ensures) c.if-not-cuts_fit.true

pub cuts_fit-requires : goal.cuts_fit-requires
cuts_fit-requires c =
    let job = asked c.args.job in
    let side = some_side c.args.job.d c.args.job.p c.in_ok-s.s (c.in_ok-s.ensures.value ∙ ap (λ o. ok_or o Unsuited) c.side_of.ensures) in
    let passed = c.in_ok-passed.passed in
    let many = extents_many job c.in_ok-sizes_checked.ensures side.0 (passed_job passed) c.in_ok-passed.ensures passed.measured in
    let least = least_many job c.in_ok-sizes_checked.ensures side.0 (passed_job passed) c.in_ok-passed.ensures passed.measured in
    ap (λ n. length (least_of n c.args.job.least.now)) many ∙ least ∙ sym many

pub plan_with-requires : goal.plan_with-requires
plan_with-requires c =
    let side = some_side c.args.job.d c.args.job.p c.in_ok-s.s (c.in_ok-s.ensures.value ∙ ap (λ o. ok_or o Unsuited) c.side_of.ensures) in
    bounds (asked c.args.job) c.in_ok-sizes_checked.ensures side.0 (passed_job c.in_ok-passed.passed) c.in_ok-passed.ensures c.in_ok-s.s side.1

pub returns : goal.returns
returns c =
    let job = asked c.args.job in
    let side = some_side c.args.job.d c.args.job.p c.in_ok-s.s (c.in_ok-s.ensures.value ∙ ap (λ o. ok_or o Unsuited) c.side_of.ensures) in
    let passed = c.in_ok-passed.passed in
    let many = extents_many job c.in_ok-sizes_checked.ensures side.0 (passed_job passed) c.in_ok-passed.ensures passed.measured in
    answers job c.in_ok-sizes_checked.ensures side.0 (passed_job passed) c.in_ok-passed.ensures c.in_ok-s.s side.1
    c.cuts_fit.result (fit c.args.job c.in_ok-s.s many c.cuts_fit.ensures) c.if-not-cuts_fit.false c.plan_with.result c.plan_with.ensures
