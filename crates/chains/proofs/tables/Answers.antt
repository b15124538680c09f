-- `tables` meets its contract.
use mathlib.Core.Path.{◌≡◌}
use Prim.Native.Nat.{◌+◌}
use native.Mathlib.Omega.{arith}
use Rattle.chains.proofs.Counting.{grouped-first, collected_end}
use Rattle.chains.proofs.tables.Goals as goal

pub loop-k-init : goal.loop-k-init
loop-k-init c = grouped-first c.args.shaped.now.plan c.args.shaped.now.shaped _ (rw c.requires at c.table.ensures)

pub returns : goal.returns
returns c =
    let l = c.loop-k in
    let all : l.k ≡ c.args.shaped.now.plan.d = omega (arith, c.loop-k-test.false, l.auto.k-end, c.args.shaped.now.shaped.d_low) in
    collected_end c.args.shaped.now.plan c.args.shaped.now.shaped (l.group.at + 1) l.counts l.downs (rw all at l.invariant.collected)
