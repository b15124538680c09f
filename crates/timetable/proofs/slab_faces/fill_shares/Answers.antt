-- `fill_shares` meets its contract: the walk stands at the processor t steps down, and the table is that of the first t slabs.
use mathlib.Core.Path.{◌≡◌, subst}
use mathlib.Core.Bool.{false}
use Prim.Native.Nat.{ℕ}
use native.Mathlib.Omega.{arith}
use lib.ListN.{get_or}
use Rattle.walks.proofs.Walking.{next_asked}
use Rattle.timetable.specs.Rows.{Shares}
use Rattle.timetable.proofs.Tables.{within_table, share_fits, sharing_more}
use Rattle.timetable.proofs.Walks.{walk_none}
use Rattle.timetable.proofs.slab_faces.fill_shares.Goals as goal

pub loop-t-init : goal.loop-t-init
loop-t-init c =
    let row = c.args.row in
    record { walk = walk_none row.shaped.plan row.shaped.shaped row.k row.within false c.args.q _ c.requires.0 c.with_coordinates-at.ensures; shares = c.requires.1 }

pub bounds-table-o : goal.bounds-table-o
bounds-table-o c =
    let row = c.args.row in
    let slabs = c.along-slabs in
    within_table row.shaped.plan row.shaped.shaped row.k row.within _ _ _ _ c.loop-t.invariant _ _ slabs.ensures.extent slabs.ensures.cut c.loop-t-test.true _ c.thickness.ensures

pub plus-requires : goal.plus-requires
plus-requires c =
    let row = c.args.row in
    let slabs = c.along-slabs in
    share_fits row.shaped.plan row.shaped.shaped row.k row.within _ _ _ _ c.loop-t.invariant _ _ slabs.ensures.extent slabs.ensures.cut c.loop-t-test.true _ c.thickness.ensures

pub next-at-requires : goal.next-at-requires
next-at-requires c =
    let row = c.args.row in
    next_asked row.shaped.plan row.shaped.shaped row.k row.within false _ c.stride_along-down.ensures _ c.loop-t.at c.loop-t.invariant.walk.stands

pub loop-t-preserved : goal.loop-t-preserved
loop-t-preserved c =
    let row = c.args.row in
    let slabs = c.along-slabs in
    sharing_more row.shaped.plan row.shaped.shaped row.k row.within _ _ _ _ c.loop-t.invariant _ _ slabs.ensures.extent slabs.ensures.cut c.loop-t-test.true _ c.thickness.ensures _ c.plus.ensures _ _ c.stride_along-down.ensures c.next-at.ensures

pub returns : goal.returns
returns c =
    let row = c.args.row in
    let all : c.loop-t.t ≡ get_or row.shaped.plan.cuts row.k 0 = omega (arith, c.loop-t-test.false, c.loop-t.auto.t-end, c.along-slabs.ensures.cut) in
    subst (λ (n : ℕ). Shares row.shaped.plan row.k c.args.q n c.loop-t.table) all c.loop-t.invariant.shares
