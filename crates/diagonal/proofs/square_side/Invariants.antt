use Prim.Native.Nat.{◌-◌, ◌*◌, ◌≤◌}
use Rattle.diagonal.proofs.square_side.Given as goal

abbrev pub invariant-loop-s : goal.invariant-loop-s
invariant-loop-s l = (l.s ≤ 64) × (l.s * l.s ≤ l.p)

abbrev pub decreases-loop-s : goal.decreases-loop-s
decreases-loop-s l = 64 - l.s
