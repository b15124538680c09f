-- `plan_with` meets its contract.
use mathlib.Core.Path.{ap, ◌∙◌}
use Prim.Native.Nat.{ℕ, ◌≤◌}
use native.Mathlib.Omega.{arith}
use Rattle.multipartition.specs.Cuts.{cost_of}
use Rattle.layout.specs.Plans.{five, plan_of}
use Rattle.planner.specs.Planned.{passed_job}
use Rattle.diagonal.specs.Diagonal.{diagonal_cuts}
use Rattle.diagonal.proofs.Places.{cuts_from-first, moduli_from-first}
use Rattle.diagonal.proofs.plan_with.Goals as goal

pub returns : goal.returns
unfolding plan_of
returns c =
    let job = passed_job c.args.passed in
    let measured = c.args.passed.measured in
    let some : 1 ≤ job.d = omega (arith, measured.d_low) in
    let cuts = c.with_sides.ensures ∙ ap five (cuts_from-first job.d c.args.s some) in
    let moduli = c.with_sides-2.ensures ∙ ap five (moduli_from-first job.d c.args.s some) in
    let cost = c.cost_of.ensures ∙ ap (λ (n : ℕ). cost_of job.weights (diagonal_cuts n c.args.s)) measured.weights_many in
    λ i. record {
      d = job.d;
      p = job.p;
      extents = c.padded.ensures i;
      weights = c.padded-2.ensures i;
      cuts = cuts i;
      cost = cost i;
      moduli = moduli i;
      matrix = c.matrix_of.ensures i;
      kind = 1;
      least = c.thicknesses.ensures i;
    }
