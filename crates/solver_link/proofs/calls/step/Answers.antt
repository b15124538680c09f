-- `solver_link::calls::step` meets its contract. Assumes nothing.
use borrow.Author.Rules.{rules}
use mathlib.Core.Bool.{not}
use mathlib.Core.Path.{◌≡◌, sym, ap, ◌∙◌}
use Prim.Native.Nat.{◌+◌}
use native.Mathlib.Omega.{arith}
use lib.Dec.{eqb}
use lib.ListN.{length}
use lib.Seq.{length-take-le}
use Rattle.link_lists.proofs.Positions.{step_with}
use Rattle.solver_link.specs.Link.{step_link}
use Rattle.solver_link.proofs.Steps.{stepped, few, front}
use Rattle.solver_link.proofs.calls.step.Goals as goal

pub returns-in_err-next : goal.returns-in_err-next
unfolding step_link
returns-in_err-next c =
    let a = c.args in
    let same = step_with c.plan_in.result a.position.now a.dimension (not (eqb a.up 0)) in
    grind (arith, same)

pub slice_bounds-places-end : goal.slice_bounds-places-end
slice_bounds-places-end c =
    let a = c.args in
    let long : length c.step_places-places.result ≡ 6 = search rules in
    omega (arith, few c.plan_in.result a.position.now c.position_in.result c.position_in.ensures a.dimension (not (eqb a.up 0)) c.in_ok-next.next c.in_ok-next.ensures.told)

pub slice_bounds-numbers-end : goal.slice_bounds-numbers-end
slice_bounds-numbers-end c =
    let a = c.args in
    let long : length c.step_places-places.result ≡ 6 = search rules in
    sym (length-take-le (length a.position.now + 1) c.step_places-places.result (omega (arith, few c.plan_in.result a.position.now c.position_in.result c.position_in.ensures a.dimension (not (eqb a.up 0)) c.in_ok-next.next c.in_ok-next.ensures.told)))

pub returns : goal.returns
unfolding step_link
returns c =
    let a = c.args in
    let long : length c.step_places-places.result ≡ 6 = search rules in
    let told = stepped c.plan_in.result a.position.now c.position_in.result c.position_in.ensures a.dimension (not (eqb a.up 0)) c.in_ok-next.next c.in_ok-next.ensures.told in
    let numbers = front c.plan_in.result a.position.now c.position_in.result c.position_in.ensures a.dimension (not (eqb a.up 0)) c.in_ok-next.next c.in_ok-next.ensures.told
    (sym (ap length c.step_places-places.ensures) ∙ long) in
    grind (arith, told, numbers)
