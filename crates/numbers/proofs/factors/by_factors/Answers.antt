use mathlib.Core.Path.{sym, ◌∙◌, ap}
use mathlib.Core.List.{List, [], ◌∷◌, ◌++◌}
use Prim.Native.Nat.{ℕ}
use native.Mathlib.Omega.{arith}
use Rattle.numbers.specs.Divisors.{divisors_of}
use Rattle.numbers.proofs.LeastFactor.{factoring-step, factoring_end, done-le, rest_falls, done_pos, factor_prime}
use Rattle.numbers.proofs.Merge.{divisors_of-one}
use Rattle.numbers.proofs.factors.by_factors.Goals as goal

pub loop-rest-init : goal.loop-rest-init
loop-rest-init c = (
  record { whole = omega arith; positive = omega arith },
  c.push.ensures.items ∙ ap (λ (l : List ℕ). l ++ (1 ∷ [])) c.new-known.ensures ∙ sym divisors_of-one,
)

pub times_prime-known-requires-clause-m_nonzero : goal.times_prime-known-requires-clause-m_nonzero
times_prime-known-requires-clause-m_nonzero c =
    let S = c.loop-rest.invariant.0 in
    (done_pos S, omega (arith, done-le S (c.from-f.ensures ∙ c.least.ensures) (omega (arith, c.loop-rest-test.true))))

pub times_prime-known-requires-clause-prime : goal.times_prime-known-requires-clause-prime
times_prime-known-requires-clause-prime c = factor_prime c.loop-rest.invariant.0 (c.from-f.ensures ∙ c.least.ensures) (omega (arith, c.loop-rest-test.true))

pub nonzero_div-rest : goal.nonzero_div-rest
nonzero_div-rest c = omega (arith, (factor_prime c.loop-rest.invariant.0 (c.from-f.ensures ∙ c.least.ensures) (omega (arith, c.loop-rest-test.true))).above_one)

pub loop-rest-smaller : goal.loop-rest-smaller
loop-rest-smaller c = rest_falls c.loop-rest.invariant.0 (c.from-f.ensures ∙ c.least.ensures) (omega (arith, c.loop-rest-test.true))

pub loop-rest-preserved : goal.loop-rest-preserved
loop-rest-preserved c = (
  factoring-step c.loop-rest.invariant.0 (c.from-f.ensures ∙ c.least.ensures) (omega (arith, c.loop-rest-test.true)),
  c.times_prime-known.ensures,
)

pub returns : goal.returns
returns c = c.loop-rest.invariant.1 ∙ ap divisors_of (factoring_end c.loop-rest.invariant.0 (omega arith))
