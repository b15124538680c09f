use mathlib.Core.Path.{◌≡◌, refl, sym, ap, ◌∙◌}
use Prim.Native.Nat.{ℕ}
use native.Mathlib.Nat.{mod-lt}
use native.Mathlib.Omega.{arith}
use Rattle.numbers.specs.Gcd.{gcd}
use Rattle.numbers.proofs.Gcd.{gcd-zero, gcd-step}
use Rattle.numbers.proofs.euclid.gcd.Goals as goal

pub loop-y-init : goal.loop-y-init
loop-y-init c = refl

pub nonzero_rem-r : goal.nonzero_rem-r
nonzero_rem-r c = omega arith

pub loop-y-smaller : goal.loop-y-smaller
loop-y-smaller c = mod-lt _ (omega arith)

pub loop-y-preserved : goal.loop-y-preserved
loop-y-preserved c = sym (gcd-step _ _) ∙ c.loop-y.invariant

pub returns : goal.returns
returns c =
    let x : ℕ = c.loop-y.x in
    let stop : c.loop-y.y ≡ 0 = omega arith in
    sym (gcd-zero x) ∙ sym (ap (gcd x) stop) ∙ c.loop-y.invariant
