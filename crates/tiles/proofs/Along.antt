-- Questions about a dimension of a plan: they begin with the checks that `Plan::along` makes.
use mathlib.Core.Path.{◌≡◌, refl, sym, ap, ◌∙◌, subst}
use mathlib.Core.List.{List, ◌++◌}
use Prim.Native.Nat.{ℕ, ◌+◌, ◌-◌}
use native.Mathlib.Omega.{arith}
use lib.ListN.{get_or}
use Rattle.multipartition.specs.Answers.{Answer, answered, refused, Check, checked}
use Rattle.multipartition.specs.Questions.{extent_of, cut_of}
use Rattle.std.specs.Prelude.{Err}
use Rattle.refusals.specs.declared.Refusal.{Refusal}
use Rattle.refusals.specs.Told.{turned_back, Answers}
use Rattle.refusals.proofs.Laws.{turned_back-on, passed-on}
use Rattle.layout.specs.declared.Plan.{Plan}
use Rattle.layout.specs.declared.axes.Axis.{Axis}
use Rattle.layout.specs.Plans.{layout_of}
use Rattle.layout.specs.Checked.{axis_checks, axis_answer, axis_of}
use Rattle.tiles.proofs.Numbering.{extent-at, cut_at}

-- an axis is dimension k of a plan
pub record IsAlong (plan : Plan) (k : ℕ) (axis : Axis) : Type 0 where
  pub plan_is : axis.shaped.plan ≡ plan
  pub place : axis.k ≡ k - 1
  pub number : axis.k + 1 ≡ k
  pub extent_is : get_or axis.shaped.plan.extents axis.k 0 ≡ extent_of (layout_of plan) k
  pub cut_is : get_or axis.shaped.plan.cuts axis.k 0 ≡ cut_of (layout_of plan) k

is_along : (axis : Axis) (plan : Plan) (k : ℕ) → axis_of axis ≡ (plan, k) → IsAlong plan k axis
is_along axis plan k e =
    let plan_is : axis.shaped.plan ≡ plan = ap (λ (asked : Plan × ℕ). asked.0) e in
    let number : axis.k + 1 ≡ k = ap (λ (asked : Plan × ℕ). asked.1) e in
    record {
      plan_is = plan_is;
      place = omega (arith, number);
      number = number;
      extent_is = sym (extent-at axis.shaped.plan axis.k axis.within) ∙ rw (plan_is, number) refl;
      cut_is = sym (cut_at axis.shaped.plan axis.k axis.within) ∙ rw (plan_is, number) refl;
    }

module _ {B : Type 0} (plan : Plan) (k : ℕ) (others : List Check) (answer : Answer B) where
  -- they turn back what asks of no dimension
  pub turned_back-along : {number place : ℕ} → refused number place ≡ axis_answer plan k → refused number place ≡ checked (axis_checks plan k ++ others) answer
  turned_back-along e = turned_back-on (axis_checks plan k) others (plan, k) answer e

  -- a dimension has passed them
  pub passed-along : (axis : Axis) → answered (axis_of axis) ≡ axis_answer plan k → IsAlong plan k axis × (checked (axis_checks plan k ++ others) answer ≡ checked others answer)
  passed-along axis e =
      let h = passed-on (axis_checks plan k) others (plan, k) (axis_of axis) answer e in
      (is_along axis plan k h.0, h.1)

-- a call that lends lists and turns back leaves them as they were
pub answers-refused : {A U : Type 0} (answer : Answer A) (lent : A) (r : Refusal) → turned_back r ≡ answer → Answers {U = U} answer (Err r) lent lent
answers-refused {A} {U} answer lent r e = subst (λ (a : Answer A). Answers {U = U} a (Err r) lent lent) e (record { told = refl; held = refl })
