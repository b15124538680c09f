use Prim.Native.Nat.{◌<◌}
use mathlib.Core.Logic.{◌≢◌}
use Rattle.timetable.proofs.slab_faces.widest.Given as goal

abbrev pub invariant-loop-i : goal.invariant-loop-i
invariant-loop-i l = (l.j < l.fn.shaped.plan.d) × (l.j ≢ l.k)
