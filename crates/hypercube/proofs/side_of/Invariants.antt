use mathlib.Core.Path.{◌≡◌}
use Prim.Native.Nat.{◌-◌, ◌^◌, ◌≤◌}
use Rattle.hypercube.proofs.Exponents.{From}
use Rattle.hypercube.proofs.side_of.Given as goal

abbrev pub invariant-loop-e : goal.invariant-loop-e
invariant-loop-e l = (l.e ≤ 7) × (l.power ≡ 4 ^ l.e) × (l.side ≡ 2 ^ l.e) × From l.p l.e

abbrev pub decreases-loop-e : goal.decreases-loop-e
decreases-loop-e l = 7 - l.e
