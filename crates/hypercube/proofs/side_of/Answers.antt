-- `hypercube::side_of` meets its contract. Assumes nothing.
use mathlib.Core.Path.{refl, sym, ap, ◌∙◌}
use Prim.Native.Nat.{◌≤◌}
use native.Mathlib.Omega.{arith}
use Rattle.std.specs.Prelude.{Some}
use Rattle.hypercube.proofs.Exponents.{power-next, powers_high, exponent_iff, from_start, from_next, from_end, a_side, no_side}
use Rattle.hypercube.proofs.side_of.Goals as goal

pub loop-e-init : goal.loop-e-init
loop-e-init c = (omega arith, refl, refl, from_start _)

pub returns-then-power-p : goal.returns-then-power-p
returns-then-power-p c =
    let at = c.loop-e in
    let high : at.e ≤ 6 = omega arith in
    ap Some at.invariant.2 ∙ sym (a_side _ at.e high ((exponent_iff _ at.e high).1 (sym at.invariant.1 ∙ c.if-power-p.true)))

pub overflow_mul-power : goal.overflow_mul-power
overflow_mul-power c = record { fits = omega (arith, (powers_high c.loop-e.e (omega arith)).0) }

pub overflow_mul-side : goal.overflow_mul-side
overflow_mul-side c = omega (arith, (powers_high c.loop-e.e (omega arith)).1)

pub loop-e-preserved : goal.loop-e-preserved
loop-e-preserved c =
    let at = c.loop-e in (
      omega arith,
      omega (arith, at.invariant.1, power-next 4 at.e),
      omega (arith, at.invariant.2, power-next 2 at.e),
      from_next _ at.e (omega arith) (λ q. c.if-power-p.false (at.invariant.1 ∙ q)) at.invariant.3,
    )

pub returns : goal.returns
returns c =
    let at = c.loop-e in
    sym (no_side _ at.e (omega arith) (from_end _ at.e (omega arith) at.invariant.3))
