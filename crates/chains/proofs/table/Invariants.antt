use mathlib.Core.Path.{◌≡◌}
use mathlib.Core.Bool.{false}
use Prim.Native.Nat.{ℕ, ◌<◌}
use lib.ListN.{length, get_or}
use Rattle.multipartition.specs.Neighbours.{next_owner}
use Rattle.layout.specs.Plans.{layout_of}
use Rattle.chains.proofs.table.Given as goal

abbrev pub invariant-loop-q : goal.invariant-loop-q
invariant-loop-q l =
    (length l.below-items ≡ l.fn.axis.shaped.plan.p)
    × ((r : ℕ) → r < l.q → get_or l.below-items r 0 ≡ next_owner (layout_of l.fn.axis.shaped.plan).moduli (layout_of l.fn.axis.shaped.plan).matrix l.fn.axis.k false r)
