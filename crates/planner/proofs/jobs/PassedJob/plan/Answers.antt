-- `plan` meets its contract.
use mathlib.Core.Path.{ap, ◌∙◌}
use Rattle.std.specs.Option.{ok_or}
use Rattle.std.proofs.lemmas.Result.{err_from_is_err_and}
use Rattle.refusals.specs.declared.Refusal.TheVariants.{NoCuts}
use Rattle.layout.specs.Plans.{plan_of}
use Rattle.planner.specs.Asked.{asked}
use Rattle.planner.proofs.Choices.{Cut, cut, refused-5, answered_with}
use Rattle.planner.proofs.jobs.PassedJob.plan.Goals as goal
use Rattle.planner.proofs.jobs.PassedJob.plan.Goals.{In_ok-cost}

pub returns-in_err-cost : goal.returns-in_err-cost
returns-in_err-cost c =
    let p = err_from_is_err_and c.from_residual.result c.from_residual.ensures.1 in
    rw (p.1, p.2) (refused-5 (asked c.args.self.job) c.in_err-cost.field-0.0 (c.in_err-cost.ensures.value ∙ ap (λ o. ok_or o NoCuts) c.cuts_of.ensures))

-- the cuts found
found : (c : In_ok-cost) → Cut (asked c.args.self.job) c.in_ok-cost.field-0
found c = cut (asked c.args.self.job) c.args.self.measured c.in_ok-cost.field-0 (c.in_ok-cost.ensures.value ∙ ap (λ o. ok_or o NoCuts) c.cuts_of.ensures)

pub returns : goal.returns
unfolding plan_of
returns c =
    let job = asked c.args.self.job in
    let cuts = found (goal.at.returns c).In_ok-cost in
    answered_with job _ _ cuts.chosen
    (λ i. record {
      d = job.d;
      p = job.p;
      extents = c.padded.ensures i;
      weights = c.padded-2.ensures i;
      cuts = cuts.zeros i;
      cost = cuts.summed i;
      moduli = c.moduli_of-moduli.ensures i;
      matrix = c.matrix_of-matrix.ensures i;
      kind = 0;
      least = c.thicknesses.ensures i;
    })
