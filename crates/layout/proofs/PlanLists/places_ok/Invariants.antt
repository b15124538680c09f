use Rattle.std.proofs.Common.{◌≤◌}
use Rattle.layout.proofs.Shaped.{Passed}
use Rattle.layout.proofs.PlanLists.places_ok.Given as goal

abbrev pub invariant-loop-k : goal.invariant-loop-k
invariant-loop-k l = let a = l.self in (l.k ≤ a.d) × Passed a.d a.extents.now a.cuts.now a.moduli.now a.matrix.now a.least.now l.k l.tiles l.processors
