-- `digits` meets its contract: storing the digits of what is left from place k on gives the answer at each turn.
use mathlib.Core.Path.{◌≡◌}
use Prim.Native.Nat.{◌-◌}
use lib.ListN.{replicate}
use Rattle.tiles.proofs.Numbers.{finished}
use Rattle.tiles.proofs.positions.digits.Given as goal

abbrev pub invariant-loop-k : goal.invariant-loop-k
invariant-loop-k l = finished l.b-items l.at l.rest l.k ≡ finished l.b-items (replicate 5 0) l.n 0

abbrev pub decreases-loop-k : goal.decreases-loop-k
decreases-loop-k l = l.k-end - l.k
