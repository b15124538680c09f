-- `questions::neighbour_answered` meets its contract. Assumes nothing.
use mathlib.Core.Path.{◌≡◌, ◌∙◌, sym, ap}
use mathlib.Core.Bool.{true, false}
use mathlib.Core.Option.{some}
use Prim.Native.Nat.{ℕ, ◌≤◌}
use native.Mathlib.Omega.{arith}
use Rattle.multipartition.specs.Answers.{answered}
use Rattle.multipartition.specs.Plans.{between, in_shape}
use Rattle.std.proofs.Common.{rules}
use Rattle.multipartition.proofs.Tests.{between-true_iff}
use Rattle.layout.specs.Lent.{plan_lent}
use Rattle.layout.specs.Plans.{layout_of}
use Rattle.questions.proofs.Answers.{neighbour_of_misshapen}
use Rattle.questions.proofs.Lent.{lent, shaped_lent, reduced_lent, no_such_dimension, no_such_processor, nobody_lent, neighbour_lent}
use Rattle.questions.proofs.neighbour_answered.Goals as goal
use Rattle.questions.proofs.neighbour_answered.Goals.{Else-not-in_shape, Else-not-contains}

-- the lists' plan is in shape, once the first check has passed
shape : (c : Else-not-in_shape) → in_shape (layout_of (plan_lent c.args.lists)) ≡ true
shape c = sym c.in_shape.ensures ∙ c.if-not-in_shape.false

-- and the dimension is one of its own, once the second has
within : (c : Else-not-contains) → (1 ≤ c.args.dimension) × (c.args.dimension ≤ c.args.lists.d)
within c = let inside : between 1 c.args.lists.d c.args.dimension ≡ true = search rules in (between-true_iff _ _ _).0 inside

pub returns-then-not-in_shape : goal.returns-then-not-in_shape
returns-then-not-in_shape c = sym (neighbour_of_misshapen _ _ _ _ (sym c.in_shape.ensures ∙ c.if-not-in_shape.true))

pub returns-then-not-contains : goal.returns-then-not-contains
returns-then-not-contains c =
    let s = shape (goal.at.returns-then-not-contains c).Else-not-in_shape in
    let outside : between 1 c.args.lists.d c.args.dimension ≡ false = search rules in
    sym (no_such_dimension c.args.lists s _ _ _ outside)

pub returns-then-lists-processor : goal.returns-then-lists-processor
returns-then-lists-processor c =
    let s = shape (goal.at.returns-then-lists-processor c).Else-not-in_shape in
    let w = within (goal.at.returns-then-lists-processor c).Else-not-contains in
    sym (no_such_processor c.args.lists s _ _ _ w.0 w.1 (omega arith))

pub offset_bounds-lists-k : goal.offset_bounds-lists-k
offset_bounds-lists-k c =
    let s = shape (goal.at.offset_bounds-lists-k c).Else-not-in_shape in
    let w = within (goal.at.offset_bounds-lists-k c).Else-not-contains in
    record { fits = omega (arith, w.1, (shaped_lent c.args.lists s).d_high) }

pub bounds-lists-k : goal.bounds-lists-k
bounds-lists-k c =
    let s = shape (goal.at.bounds-lists-k c).Else-not-in_shape in
    let w = within (goal.at.bounds-lists-k c).Else-not-contains in
    omega (arith, w.0, w.1, (shaped_lent c.args.lists s).d_high, (lent c.args.lists s).cuts_places)

pub returns-then-lists-k-eq1 : goal.returns-then-lists-k-eq1
returns-then-lists-k-eq1 c =
    let s = shape (goal.at.returns-then-lists-k-eq1 c).Else-not-in_shape in
    let w = within (goal.at.returns-then-lists-k-eq1 c).Else-not-contains in
    sym (nobody_lent c.args.lists s _ _ _ w.0 w.1 (omega arith) (omega arith))

pub invariant_of-owners : goal.invariant_of-owners
invariant_of-owners c =
    let s = shape (goal.at.invariant_of-owners c).Else-not-in_shape in
    record { reduced = reduced_lent c.args.lists s; places = (lent c.args.lists s).matrix_places }

pub returns : goal.returns
returns c =
    let s = shape (goal.at.returns c).Else-not-in_shape in
    let w = within (goal.at.returns c).Else-not-contains in
    ap (λ (q : ℕ). answered (some q)) c.neighbour.ensures
    ∙ sym (neighbour_lent c.args.lists s _ _ _ w.0 w.1 (omega arith) (λ one. omega (arith, one)))
