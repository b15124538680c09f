-- `cuts_of` meets its contract: the bounds are the most slabs of each dimension.
use mathlib.Core.Path.{ap, ◌∙◌, subst⁻¹}
use mathlib.Core.List.{List}
use Prim.Native.Nat.{ℕ}
use Rattle.multipartition.specs.Cuts.{cheapest_within}
use Rattle.cuts.specs.Found.{Asked, found_of}
use Rattle.planner.specs.Asked.{asked}
use Rattle.planner.proofs.Slabs.{bounds_are, asked_of}
use Rattle.planner.proofs.jobs.PassedJob.cuts_of.Goals as goal

pub cheapest_cuts-requires : goal.cheapest_cuts-requires
cheapest_cuts-requires c =
    let job = asked c.args.self.job in
    subst⁻¹ (λ (most : List ℕ). Asked job.p most job.weights) (bounds_are job c.args.self.measured c.most_slabs-most.result c.most_slabs-most.ensures)
    (asked_of job c.args.self.measured)

pub returns : goal.returns
returns c =
    let job = asked c.args.self.job in
    c.cheapest_cuts.ensures
    ∙ ap (λ (most : List ℕ). found_of job.weights (cheapest_within job.p most job.weights))
    (bounds_are job c.args.self.measured c.most_slabs-most.result c.most_slabs-most.ensures)
