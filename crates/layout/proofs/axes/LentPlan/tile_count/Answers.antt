-- `layout::tile_count` meets its contract. Assumes nothing.
use borrow.Author.Rules.{rules}
use Rattle.layout.specs.Plans.{layout_of}
use Rattle.layout.proofs.axes.LentPlan.tile_count.Goals as goal

pub returns : goal.returns
unfolding layout_of
returns c = search rules
