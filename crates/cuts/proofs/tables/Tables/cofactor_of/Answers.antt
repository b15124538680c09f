-- `Tables::cofactor_of` meets its contract.
use mathlib.Core.Path.{sym, ◌∙◌, ap, subst⁻¹}
use Prim.Native.Nat.{ℕ, zero, ◌/◌, ◌<◌}
use native.Mathlib.Omega.{arith}
use Rattle.numbers.proofs.Gcd.{gcd_pos}
use Rattle.cuts.proofs.Questions.{spare_pos, spare-one, each-one, product_small, cofactor_two, cofactor_more}
use Rattle.cuts.proofs.Chosen.{served}
use Rattle.cuts.proofs.tables.Tables.cofactor_of.Goals as goal

pub nonzero_div-result : goal.nonzero_div-result
nonzero_div-result c =
    subst⁻¹ (λ (n : ℕ). zero < n) c.shared.ensures (gcd_pos _ _ (spare_pos _ _ _ (served c.args.self.now).0 c.requires))

pub returns-then-left-eq2 : goal.returns-then-left-eq2
returns-then-left-eq2 c =
    let args = c.args in
    ap (λ (n : ℕ). args.spare / n) c.shared.ensures ∙ sym (cofactor_two args.left args.spare args.each c.if-left-eq2.true)

pub returns : goal.returns
returns c =
    let args = c.args in
    sym (cofactor_more args.left args.spare args.each c.if-left-eq2.false)

pub shared-requires : goal.shared-requires
shared-requires c =
    let t = c.args.self.now in
    let q = c.args in
    (spare-one t.divisors.now q.spare q.each (served t).0 c.requires, each-one t.divisors.now q.spare q.each (served t).0 c.requires)

pub overflow_mul-result : goal.overflow_mul-result
overflow_mul-result c =
    let t = c.args.self.now in
    let q = c.args in
    omega (arith, product_small t.divisors.now q.spare q.each (served t).0 c.requires)
