-- The loop's invariant: the first k places hold the quotients, the others the extents.
use mathlib.Core.Path.{◌≡◌}
use Prim.Native.Nat.{ℕ, ◌/◌, ◌≤◌, ◌<◌}
use lib.ListN.{length, get_or}
use Rattle.layout.specs.Plans.{five}
use Rattle.planner.proofs.jobs.PassedJob.most_slabs.Given as goal

abbrev pub invariant-loop-k : goal.invariant-loop-k
invariant-loop-k l = record {
  places : length l.most ≡ 5;
  divided : (i : ℕ) → i < l.k → get_or l.most i 0 ≡ get_or l.self.job.extents.now i 0 / get_or l.self.job.least.now i 0;
  others : (i : ℕ) → l.k ≤ i → get_or l.most i 0 ≡ get_or (five l.self.job.extents.now) i 0;
}
