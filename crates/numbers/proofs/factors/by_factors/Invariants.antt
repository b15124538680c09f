-- `by_factors` meets its contract. The loop's invariant: done * rest is n, and the divisors of `done` are known.
-- `rest` falls, since its least factor is above 1.
use mathlib.Core.Path.{◌≡◌}
use Rattle.numbers.specs.Divisors.{divisors_of}
use Rattle.numbers.proofs.LeastFactor.{Factoring}
use Rattle.numbers.proofs.factors.by_factors.Given as goal

abbrev pub invariant-loop-rest : goal.invariant-loop-rest
invariant-loop-rest l = Factoring l.n l.done l.rest × (l.known.items ≡ divisors_of l.done)

abbrev pub decreases-loop-rest : goal.decreases-loop-rest
decreases-loop-rest l = l.rest
