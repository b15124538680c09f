-- `cuts::search::rest_cost` meets its contract.
use mathlib.Core.Path.{◌∙◌, ap}
use Prim.Native.Nat.{ℕ}
use Rattle.multipartition.specs.Cuts.{cut_cost}
use native.Mathlib.Omega.{arith}
use Rattle.cuts.proofs.Answers.{cut_cost_small}
use Rattle.cuts.proofs.search.rest_cost.Goals as goal

pub returns : goal.returns
returns c =
    let last = c.first_of in
    let small = cut_cost_small c.args.unit last.result c.requires.2 last.ensures.1 in
    (c.cut_cost.ensures ∙ ap (λ (w : ℕ). cut_cost c.args.unit w) last.ensures.0, omega (arith, small, c.cut_cost.ensures))
