-- `Tables::spare_left` meets its contract.
use mathlib.Core.Path.{◌≡◌, sym, ◌∙◌, ap, subst⁻¹}
use Prim.Native.Nat.{ℕ, zero, ◌*◌, ◌/◌, ◌≤◌, ◌<◌}
use native.Mathlib.Nat.{mul-le-mul_left, div-le_self, one-dvd, mul-one}
use native.Mathlib.Omega.{arith}
use Rattle.numbers.specs.Gcd.{gcd}
use Rattle.numbers.proofs.Gcd.{gcd_pos, gcd_of-dvd}
use Rattle.cuts.proofs.tables.Tables.spare_left.Goals as goal

pub returns-then-spare-eq1 : goal.returns-then-spare-eq1
returns-then-spare-eq1 c =
    let args = c.args in
    let one : args.spare / gcd args.spare args.t ≡ 1 =
    subst⁻¹ (λ (n : ℕ). n / gcd n args.t ≡ 1) c.if-spare-eq1.true (ap (λ (n : ℕ). 1 / n) (gcd_of-dvd 1 args.t (one-dvd args.t))) in
    sym (ap (λ (n : ℕ). args.g * n) one ∙ mul-one args.g)

pub nonzero_div-result : goal.nonzero_div-result
nonzero_div-result c =
    subst⁻¹ (λ (n : ℕ). zero < n) c.shared.ensures (gcd_pos _ _ c.requires.2)

pub overflow_mul-result : goal.overflow_mul-result
overflow_mul-result c =
    let args = c.args in
    let less : args.g * (args.spare / c.shared.result) ≤ args.g * args.spare = mul-le-mul_left args.g (div-le_self args.spare c.shared.result) in
    omega (arith, c.requires.3)

pub returns : goal.returns
returns c =
    let args = c.args in
    ap (λ (n : ℕ). args.g * (args.spare / n)) c.shared.ensures
