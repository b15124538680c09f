-- `join` meets its contract.
use mathlib.Core.Path.{◌≡◌, refl}
use mathlib.Core.Bool.{Bool, true, false, not}
use Prim.Native.Nat.{ℕ, ◌≤◌}
use native.Mathlib.Omega.{arith}
use lib.Dec.{eqb}
use lib.ListN.{get_or}
use mir.Val.{bool_byte}
use borrow.Author.Tests.{eqb-true}
use Rattle.chains.proofs.Counting.{group_high, grouped_on, grouped_more}
use Rattle.chains.proofs.join.Goals as goal

-- a group of more than one tile is left where it is
several : (g n : ℕ) → n ≡ bool_byte (not (eqb g 1)) → (n ≤ 1) × (n ≡ 0 → g ≡ 1)
several g n e = go (eqb g 1) refl e
  where
    go : (b : Bool) → eqb g 1 ≡ b → n ≡ bool_byte (not b) → (n ≤ 1) × (n ≡ 0 → g ≡ 1)
    go true one none = (omega (arith, none), λ z. eqb-true g 1 one)
    go false more some = (omega (arith, some), λ z. absurd (omega (arith, z, some)))

pub overflow_mul-counts : goal.overflow_mul-counts
overflow_mul-counts c =
    let a = c.args.axis.now in
    omega (arith, rw (← c.cut-b.ensures) at (group_high a.shaped.plan a.shaped.shaped a.k c.args.group.at c.args.group.first c.args.counts.now c.args.downs.now a.within c.requires))

pub returns-then-continues : goal.returns-then-continues
returns-then-continues c =
    let a = c.args.axis.now in
    rw c.cut-b.ensures
    (grouped_on a.shaped.plan a.shaped.shaped a.k c.args.group.at c.args.group.first c.args.counts.now c.args.downs.now a.within c.requires (c.continues.ensures c.if-continues.true))

pub returns : goal.returns
returns c =
    let a = c.args.axis.now in
    rw c.cut-b.ensures
    (grouped_more a.shaped.plan a.shaped.shaped a.k c.args.group.at c.args.group.first c.args.counts.now c.args.downs.now a.within c.requires c.from.result _ (several (get_or c.args.counts.now c.args.group.at 0) c.from.result c.from.ensures).0 (several (get_or c.args.counts.now c.args.group.at 0) c.from.result c.from.ensures).1 c.table.ensures)
