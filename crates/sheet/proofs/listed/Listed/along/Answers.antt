-- `Listed::along` meets its contract.
use Rattle.std.proofs.Common.{◌≡◌, refl, ◌+◌, ◌/◌}
use Rattle.layout.specs.Plans.{layout_of}
use Rattle.tiles.proofs.Numbering.{cut_at}
use Rattle.sheet.specs.Pages.{tiles_each}
use Rattle.sheet.proofs.Outcomes.{fits-at}
use Rattle.sheet.proofs.listed.Listed.along.Goals as goal
use Rattle.sheet.proofs.listed.Listed.along.Goals.{After-tile_count-tiles}

share_is : (c : After-tile_count-tiles) → c.tile_count-tiles.result / c.from-owners.result ≡ tiles_each (layout_of c.args.axis.shaped.plan) (c.args.axis.k + 1)
unfolding layout_of tiles_each
share_is c =
    let axis = c.args.axis in
    rw (cut_at axis.shaped.plan axis.k axis.within, c.tile_count-tiles.ensures, c.from-owners.ensures, c.along-slabs.ensures.cut) refl

pub invariant_of-result : goal.invariant_of-result
invariant_of-result c =
    let axis = c.args.axis in
    record {
      fits = rw (c.along-slabs.ensures.extent, c.along-slabs.ensures.cut) (fits-at axis.shaped.plan axis.k _ axis.shaped.shaped axis.within (share_is (goal.at.invariant_of-result c).After-tile_count-tiles));
    }

pub returns : goal.returns
returns c = (c.along-slabs.ensures.extent, c.along-slabs.ensures.cut, share_is (goal.at.returns c).After-tile_count-tiles)
