-- `layout::Plan::has_dimension` meets its contract.
use Rattle.std.proofs.Common.{rules}
use Rattle.layout.specs.Plans.{layout_of}
use Rattle.layout.proofs.Plan.has_dimension.Goals as goal

pub returns : goal.returns
unfolding layout_of
returns c = search rules
