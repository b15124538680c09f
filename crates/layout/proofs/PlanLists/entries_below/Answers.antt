-- `layout::PlanLists::entries_below` meets its contract: a part of row i has the row's first d entries.
use Rattle.std.proofs.Common.{rules, ◌≡◌, ◌+◌, ◌*◌, ◌-◌, take, drop, length, length-take, length-drop, ltb}
use mathlib.Core.Path.{refl, sym}
use native.Mathlib.Omega.{arith}
use lib.ListN.{get_or}
use lib.Seq.{get_or-take, get_or-drop}
use Rattle.multipartition.specs.Lists.{all_below}
use Rattle.layout.specs.Shaped.{entry_of}
use Rattle.layout.proofs.Lists.{all_none, all-add-one}
use Rattle.layout.proofs.PlanLists.entries_below.Goals as goal

pub loop-entry-init : goal.loop-entry-init
loop-entry-init c = sym (all_none _)

pub loop-entry-preserved : goal.loop-entry-preserved
loop-entry-preserved c =
    let a = c.args in
    let l = c.loop-entry in
    let row = take (a.i * 5 + a.self.d - a.i * 5) (drop (a.i * 5) a.self.matrix.now) in
    let same : get_or row l.entry-index 0 ≡ entry_of a.self.matrix.now a.i l.entry-index = grind (arith, get_or-take, get_or-drop, length-take, length-drop) in
    rw (all-add-one, same, l.invariant) refl

pub returns : goal.returns
returns c =
    let all : c.loop-entry.entry-index ≡ c.args.self.d = grind (arith, length-take, length-drop) in
    rw (← all) c.loop-entry.invariant
