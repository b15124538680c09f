-- `layout::Plan::lent` meets its contract.
use Rattle.std.proofs.Common.{rules}
use mathlib.Core.Path.{sym, ◌∙◌}
use Rattle.layout.proofs.Shaped.{shaped}
use Rattle.layout.proofs.Plan.lent.Goals as goal

pub invariant_of-result : goal.invariant_of-result
invariant_of-result c = record { shaped = shaped _ (sym c.in_shape.ensures ∙ search rules) }
