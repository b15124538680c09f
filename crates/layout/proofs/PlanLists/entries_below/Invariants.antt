-- `layout::PlanLists::entries_below` meets its contract: the first entries of the row are below m.
use Rattle.std.proofs.Common.{◌≡◌, ltb}
use Rattle.multipartition.specs.Lists.{all_below}
use Rattle.layout.specs.Shaped.{entry_of}
use Rattle.layout.proofs.PlanLists.entries_below.Given as goal

abbrev pub invariant-loop-entry : goal.invariant-loop-entry
invariant-loop-entry l = l.ok ≡ all_below l.entry-index (λ k. ltb (entry_of l.self.matrix.now l.i k) l.m)
