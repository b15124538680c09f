-- `questions::owner_over` meets its contract. Assumes nothing.
use mathlib.Core.Path.{◌≡◌, ◌∙◌, sym, ap}
use mathlib.Core.Bool.{true}
use native.Mathlib.Omega.{arith}
use lib.ListN.{take}
use lib.Seq.{length-take-le}
use Rattle.multipartition.specs.Answers.{answered}
use Rattle.multipartition.specs.Plans.{in_shape}
use Rattle.multipartition.specs.Tiles.{is_inside}
use Rattle.layout.specs.Lent.{plan_lent}
use Rattle.layout.specs.Plans.{layout_of}
use Rattle.questions.proofs.Answers.{owner_of_misshapen}
use Rattle.questions.proofs.Lent.{lent, shaped_lent, reduced_lent, outside_lent, small_lent, owner_lent}
use Rattle.questions.proofs.owner_over.Goals as goal
use Rattle.questions.proofs.owner_over.Goals.{Else-not-in_shape, Else-not-is_inside}

-- the checks that have passed
shape : (c : Else-not-in_shape) → in_shape (layout_of (plan_lent c.args.lists)) ≡ true
shape c = sym c.in_shape.ensures ∙ c.if-not-in_shape.false

inside : (c : Else-not-is_inside) → is_inside (take c.args.lists.d c.args.lists.cuts.now) c.args.position.now ≡ true
inside c = sym c.is_inside.ensures ∙ c.if-not-is_inside.false

pub returns-then-not-in_shape : goal.returns-then-not-in_shape
returns-then-not-in_shape c = sym (owner_of_misshapen _ _ (sym c.in_shape.ensures ∙ c.if-not-in_shape.true))

pub slice_bounds-is_inside-end : goal.slice_bounds-is_inside-end
slice_bounds-is_inside-end c =
    let s = shape (goal.at.slice_bounds-is_inside-end c).Else-not-in_shape in
    sym (length-take-le _ _ (omega (arith, (shaped_lent c.args.lists s).d_high, (lent c.args.lists s).cuts_places)))

pub returns-then-not-is_inside : goal.returns-then-not-is_inside
returns-then-not-is_inside c =
    sym (outside_lent c.args.lists (shape (goal.at.returns-then-not-is_inside c).Else-not-in_shape) _ (sym c.is_inside.ensures ∙ c.if-not-is_inside.true))

pub invariant_of-owners : goal.invariant_of-owners
invariant_of-owners c =
    let s = shape (goal.at.invariant_of-owners c).Else-not-in_shape in
    record { reduced = reduced_lent c.args.lists s; places = (lent c.args.lists s).matrix_places }

pub owner-requires : goal.owner-requires
owner-requires c =
    let h = (goal.at.owner-requires c).Else-not-is_inside in
    small_lent c.args.lists (shape (goal.at.owner-requires c).Else-not-in_shape) _ (inside h)

pub returns : goal.returns
returns c =
    let h = (goal.at.returns c).Else-not-is_inside in
    ap answered c.owner.ensures ∙ sym (owner_lent c.args.lists (shape (goal.at.returns c).Else-not-in_shape) _ (inside h))
