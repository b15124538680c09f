-- `all_within` meets its contract. The loop's invariant: it is said of the elements so far.
use mathlib.Core.Path.{◌≡◌}
use Prim.Native.Nat.{◌-◌}
use lib.Dec.{ltb}
use lib.ListN.{length, get_or}
use Rattle.multipartition.specs.Lists.{all_below}
use Rattle.probes.proofs.all_within.Given as goal

abbrev pub invariant-loop-element : goal.invariant-loop-element
invariant-loop-element l = l.ok ≡ all_below l.element-index (λ j. ltb (get_or l.elements j 0) l.n)

abbrev pub decreases-loop-element : goal.decreases-loop-element
decreases-loop-element l = length l.elements - l.element-index
