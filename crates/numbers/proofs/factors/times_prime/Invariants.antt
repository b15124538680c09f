-- `times_prime` meets its contract. The loop's invariant is `Merging`: the divisors up to `last` are written. `last` rises to f * m.
use Prim.Native.Nat.{◌-◌}
use Rattle.numbers.proofs.Merge.{Merging}
use Rattle.numbers.proofs.factors.times_prime.Given as goal

abbrev pub invariant-loop-last : goal.invariant-loop-last
invariant-loop-last l = Merging l.f l.m l.last l.kept l.times l.merged.items

abbrev pub decreases-loop-last : goal.decreases-loop-last
decreases-loop-last l = l.n - l.last
