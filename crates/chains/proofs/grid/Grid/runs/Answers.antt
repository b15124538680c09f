-- `runs` meets its contract: each run by that of the processor before.
use mathlib.Core.Path.{◌≡◌, ◌∙◌}
use Prim.Native.Nat.{◌+◌, ◌-◌, ◌<◌}
use native.Mathlib.Omega.{arith}
use lib.ListN.{length-set}
use Rattle.chains.specs.Walks.{lower, nth}
use Rattle.chains.proofs.Running.{Follows, nth_below, follows_short, follows-next, runs_more, runs_made}
use Rattle.chains.proofs.grid.Grid.runs.Goals as goal

pub longer-run-requires : goal.longer-run-requires
longer-run-requires c =
    let q : c.nth-q.result < c.args.self.now.p = omega (arith, c.nth-q.ensures, nth_below c.args.rising c.args.self.now.p c.loop-i.i c.loop-i-test.true) in (
      omega (arith, q, c.args.self.now.tables.few),
      omega (arith, c.lower.ensures, c.args.self.now.tables.below 0 c.nth-q.result (omega arith) q, c.args.self.now.tables.few),
      omega (arith, c.loop-i.invariant.1, c.loop-i-test.true, c.args.self.now.tables.few),
    )

pub loop-i-preserved : goal.loop-i-preserved
loop-i-preserved c =
    let l = c.loop-i in
    let more = c.loop-i-test.true in
    let same : l.i + 1 - 1 ≡ l.i = omega arith in
    let below : lower c.args.self.now.downs.now 0 (nth c.args.rising c.args.self.now.p l.i) < c.args.self.now.p
    = c.args.self.now.tables.below 0 (nth c.args.rising c.args.self.now.p l.i) (omega arith) (nth_below c.args.rising c.args.self.now.p l.i more) in
    let next : Follows c.args.rising c.args.self.now.p c.args.self.now.downs.now (nth c.args.rising c.args.self.now.p l.i) c.longer-run.result
    = follows-next c.args.rising c.args.self.now.p c.args.self.now.downs.now l.i l.run c.longer-run.result more below l.invariant.2
    (rw (c.lower.ensures, c.nth-q.ensures) at c.longer-run.ensures) in (
      length-set l.runs _ _ ∙ l.invariant.0,
      follows_short c.args.rising c.args.self.now.p c.args.self.now.downs.now l.i c.longer-run.result more next,
      λ low. rw same next,
      rw c.nth-q.ensures (runs_more c.args.rising c.args.self.now.p c.args.self.now.downs.now l.runs l.i c.longer-run.result more (omega (arith, l.invariant.0, c.args.self.now.tables.few)) l.invariant.3 next),
    )

pub returns : goal.returns
returns c =
    let l = c.loop-i in
    runs_made c.args.rising c.args.self.now.p c.args.self.now.downs.now l.runs l.i c.loop-i-test.false l.invariant.0 l.invariant.3
