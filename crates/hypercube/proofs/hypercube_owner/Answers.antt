-- `hypercube::hypercube_owner` meets its contract. Assumes nothing.
use mathlib.Core.Bool.{true, false}
use mathlib.Core.List.{[], ◌∷◌}
use mathlib.Core.Path.{◌≡◌, ◌∙◌, sym, ap}
use native.Mathlib.Omega.{arith}
use Rattle.std.proofs.Common.{rules}
use Rattle.std.specs.Prelude.{Some, None, Err}
use Rattle.multipartition.specs.Answers.{answered}
use Rattle.multipartition.specs.Plans.{between}
use Rattle.multipartition.specs.Tiles.{is_inside}
use Rattle.multipartition.proofs.Tiles.{inside_of_test, inside-length, inside_below}
use Rattle.refusals.specs.Told.{told}
use Rattle.refusals.specs.declared.Refusal.TheVariants as R
use Rattle.hypercube.specs.Hypercube.{side_of}
use Rattle.hypercube.proofs.Answers.{refused-2, refused-12, refused_8, side_high, owned}
use Rattle.hypercube.proofs.hypercube_owner.Goals as goal
use Rattle.hypercube.proofs.hypercube_owner.Goals.{Else-not-contains, Else-not-is_inside}

pub returns-then-not-contains : goal.returns-then-not-contains
returns-then-not-contains c = let outside : between 1 4096 c.args.p ≡ false = search rules in sym (refused-2 _ _ outside)

pub returns-in_err-side : goal.returns-in_err-side
returns-in_err-side c =
    let within : between 1 4096 c.args.p ≡ true = search rules in
    let nothing : side_of c.args.p ≡ None = search rules in
    let passed_on : c.from_residual.result ≡ Err R.Unsuited = search rules in
    ap told passed_on ∙ sym (refused-12 _ _ within nothing)

pub returns-then-not-is_inside : goal.returns-then-not-is_inside
returns-then-not-is_inside c =
    let within : between 1 4096 c.args.p ≡ true = search rules in
    let side : side_of c.args.p ≡ Some c.in_ok-side.side = search rules in
    sym (refused_8 _ _ within _ side (sym c.is_inside.ensures ∙ c.if-not-is_inside.true))

-- the position is inside, once the last check has passed
passed : (c : Else-not-is_inside) → let side = c.in_ok-side.side in
    is_inside (side ∷ side ∷ side ∷ []) c.args.position.now ≡ true
passed c = sym c.is_inside.ensures ∙ c.if-not-is_inside.false

pub bounds-position-0 : goal.bounds-position-0
bounds-position-0 c = omega (arith, inside-length _ _ (inside_of_test _ _ (passed (goal.at.bounds-position-0 c).Else-not-is_inside)))

pub bounds-position-1 : goal.bounds-position-1
bounds-position-1 c = omega (arith, inside-length _ _ (inside_of_test _ _ (passed (goal.at.bounds-position-1 c).Else-not-is_inside)))

pub bounds-position-2 : goal.bounds-position-2
bounds-position-2 c = omega (arith, inside-length _ _ (inside_of_test _ _ (passed (goal.at.bounds-position-2 c).Else-not-is_inside)))

pub owner_number-requires : goal.owner_number-requires
owner_number-requires c =
    let position = inside_below _ _ (inside_of_test _ _ (passed (goal.at.owner_number-requires c).Else-not-is_inside)) in
    let within : between 1 4096 c.args.p ≡ true = search rules in
    let side : side_of c.args.p ≡ Some c.in_ok-side.side = search rules in
    (position 0 (omega arith), position 1 (omega arith), position 2 (omega arith), side_high _ c.args.position.now within _ side)

pub returns : goal.returns
returns c =
    let within : between 1 4096 c.args.p ≡ true = search rules in
    let side : side_of c.args.p ≡ Some c.in_ok-side.side = search rules in
    ap answered c.owner_number.ensures ∙ sym (owned _ _ within _ side (passed (goal.at.returns c).Else-not-is_inside))
