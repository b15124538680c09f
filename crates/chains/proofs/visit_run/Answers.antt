-- `visit_run` meets its contract: tile by tile, each owner one further on.
use Prim.Native.Nat.{◌<◌}
use native.Mathlib.Omega.{arith}
use lib.ListN.{length}
use Rattle.chains.specs.Walks.{along}
use Rattle.chains.proofs.Running.{visiting-step, along_below}
use Rattle.chains.proofs.visit_run.Goals as goal

pub along-requires : goal.along-requires
along-requires c = (length c.args.heads.now, c.requires.2, c.requires.3 c.loop-j.j c.loop-j-test.true)

pub visit-requires : goal.visit-requires
visit-requires c =
    let l = c.loop-j in
    let v = l.invariant in
    let owner : c.along.result < length c.args.heads.now
    = omega (arith, c.along.ensures, along_below c.args.rising (length c.args.heads.now) c.args.q l.j (c.requires.3 l.j c.loop-j-test.true)) in (
      omega (arith, v.tile_is, c.loop-j-test.true, c.requires.0),
      omega (arith, v.tile_is, c.requires.1, v.onward.nexts_kept),
      omega (arith, owner, c.requires.2),
      omega (arith, owner, v.onward.heads_kept),
    )

pub loop-j-preserved : goal.loop-j-preserved
loop-j-preserved c =
    let l = c.loop-j in
    visiting-step (along c.args.rising c.args.q) c.args.top c.args.count c.args.heads.now c.args.nexts.now l.j l.tile l.heads l.nexts l.invariant _ _ _ _ c.loop-j-test.true c.along.ensures
    (omega (arith, l.invariant.tile_is, c.loop-j-test.true, c.requires.0)) c.visit.ensures
