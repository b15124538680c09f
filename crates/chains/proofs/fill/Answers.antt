-- `fill` meets its contract: the walk begins where no tile is visited.
use Rattle.std.proofs.Common.{rules}
use Rattle.multipartition.specs.Plans.{tiles_of}
use Rattle.multipartition.specs.Questions.{tile_owner}
use Rattle.multipartition.proofs.Stages.{stage_start}
use Rattle.layout.specs.Plans.{layout_of}
use mathlib.Core.Path.{◌≡◌}
use lib.ListN.{length, replicate}
use Rattle.chains.proofs.fill.Goals as goal

pub visit_above-requires-clause-visited : goal.visit_above-requires-clause-visited
visit_above-requires-clause-visited c =
    let zeros : c.fill.new.self ≡ replicate (length c.args.heads.now) 0 = search rules in
    rw (zeros, c.requires.1)
    (stage_start (tile_owner (layout_of c.args.shaped.now.plan)) (tiles_of (layout_of c.args.shaped.now.plan)) c.args.shaped.now.plan.p c.args.nexts.now c.requires.2)
