-- `cuts::question::spare_after` meets its contract.
use mathlib.Core.Path.{◌≡◌, sym, ◌∙◌, ap, subst⁻¹}
use Prim.Native.Nat.{ℕ, zero, ◌*◌, ◌/◌, ◌≤◌, ◌<◌}
use native.Mathlib.Nat.{mul-le-mul_left, div-le_self, one-dvd, mul-one}
use native.Mathlib.Omega.{arith}
use Rattle.numbers.specs.Gcd.{gcd}
use Rattle.numbers.proofs.Gcd.{gcd_comm, gcd_pos, gcd_of-dvd}
use Rattle.cuts.proofs.question.spare_after.Goals as goal

pub returns-then-spare-eq1 : goal.returns-then-spare-eq1
returns-then-spare-eq1 c =
    let args = c.args in
    let one : args.spare / gcd args.spare args.b ≡ 1 =
    subst⁻¹ (λ (n : ℕ). n / gcd n args.b ≡ 1) c.if-spare-eq1.true (ap (λ (n : ℕ). 1 / n) (gcd_of-dvd 1 args.b (one-dvd args.b))) in
    sym (ap (λ (n : ℕ). args.g * n) one ∙ mul-one args.g)

pub nonzero_div-result : goal.nonzero_div-result
nonzero_div-result c =
    subst⁻¹ (λ (n : ℕ). zero < n) (c.gcd.ensures ∙ gcd_comm _ _) (gcd_pos _ _ c.requires.0)

pub overflow_mul-result : goal.overflow_mul-result
overflow_mul-result c =
    let args = c.args in
    let less : args.g * (args.spare / c.gcd.result) ≤ args.g * args.spare = mul-le-mul_left args.g (div-le_self args.spare c.gcd.result) in
    omega (arith, c.requires.1)

pub returns : goal.returns
returns c =
    let args = c.args in
    ap (λ (n : ℕ). args.g * (args.spare / n)) (c.gcd.ensures ∙ gcd_comm args.b args.spare)
