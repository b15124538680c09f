-- `layout::ShapedPlan::along` meets its contract.
use Rattle.std.proofs.Common.{◌≡◌, ◌+◌, ◌-◌, ◌≤◌, true, false}
use mathlib.Core.Path.{refl, ap, sym, ◌∙◌}
use native.Mathlib.Omega.{arith}
use Prim.Native.Nat.{ℕ}
use Rattle.multipartition.specs.Plans.{between}
use Rattle.multipartition.proofs.Tests.{between-true_iff}
use Rattle.multipartition.specs.Answers.{answered}
use Rattle.layout.specs.Plans.{layout_of}
use Rattle.layout.proofs.axes.ShapedPlan.along.Goals as goal
use Rattle.layout.proofs.axes.ShapedPlan.along.Goals.{Else-not-has_dimension}

pub returns-then-not-has_dimension : goal.returns-then-not-has_dimension
unfolding layout_of
returns-then-not-has_dimension c =
    let outside : between 1 c.args.self.plan.d c.args.dimension ≡ false = sym c.has_dimension.ensures ∙ c.if-not-has_dimension.true in rw outside refl

-- once the test has passed
inside : (c : Else-not-has_dimension) → (1 ≤ c.args.dimension) × (c.args.dimension ≤ c.args.self.plan.d)
unfolding layout_of
inside c = (between-true_iff 1 c.args.self.plan.d c.args.dimension).0 (sym c.has_dimension.ensures ∙ c.if-not-has_dimension.false)

pub invariant_of-result : goal.invariant_of-result
invariant_of-result c = record { within = omega (arith, inside c) }

pub returns : goal.returns
unfolding layout_of
returns c =
    let inside : between 1 c.args.self.plan.d c.args.dimension ≡ true = sym c.has_dimension.ensures ∙ c.if-not-has_dimension.false in
    let place : c.args.dimension - 1 + 1 ≡ c.args.dimension = omega (arith, (between-true_iff 1 c.args.self.plan.d c.args.dimension).0 inside) in
    rw inside (ap (λ (k : ℕ). answered (c.args.self.plan, k)) place)
