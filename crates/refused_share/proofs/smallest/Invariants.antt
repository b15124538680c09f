-- The loop's invariant: the divisors before this one are not refused with 5.
use mathlib.Core.Bool.{false}
use mathlib.Core.Path.{◌≡◌}
use Prim.Native.Nat.{ℕ, ◌<◌}
use lib.ListN.{get_or}
use Rattle.multipartition.specs.Jobs.{plan_answer}
use Rattle.planner.specs.Planned.{passed_job}
use Rattle.refused_share.specs.Shares.{is_five, job_for}
use Rattle.refused_share.proofs.smallest.Given as goal

abbrev pub invariant-loop-x : goal.invariant-loop-x
invariant-loop-x l = (i : ℕ) → i < l.x-index → is_five (plan_answer (job_for (get_or l.x-items i 0) (passed_job l.passed))) ≡ false
