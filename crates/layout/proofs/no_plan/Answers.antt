-- `layout::no_plan` meets its contract. Assumes nothing.
use mathlib.Core.Path.{refl}
use Rattle.layout.specs.Plans.{no_plan}
use Rattle.layout.proofs.no_plan.Goals as goal

pub returns : goal.returns
unfolding no_plan
returns c = refl
