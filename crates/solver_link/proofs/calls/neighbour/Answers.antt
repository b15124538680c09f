-- `solver_link::calls::neighbour` meets its contract. Assumes nothing.
use borrow.Author.Rules.{rules}
use mathlib.Core.Bool.{not}
use mathlib.Core.Path.{◌≡◌}
use native.Mathlib.Omega.{arith}
use lib.Dec.{eqb}
use lib.ListN.{length}
use Rattle.link_lists.proofs.Plans.{neighbour_over_lists, arrays_in}
use Rattle.solver_link.specs.Link.{neighbour_link}
use Rattle.solver_link.proofs.calls.neighbour.Goals as goal

pub returns-in_err-found : goal.returns-in_err-found
unfolding neighbour_link
returns-in_err-found c =
    let a = c.args in
    let long : length c.in_ok-list.list.now ≡ 55 = search rules in
    let same = neighbour_over_lists _ _ (arrays_in c.in_ok-list.list.now long) c.lists_in.ensures a.processor a.dimension (not (eqb a.up 0)) in
    grind (arith, same)

pub returns : goal.returns
unfolding neighbour_link
returns c =
    let a = c.args in
    let long : length c.in_ok-list.list.now ≡ 55 = search rules in
    let same = neighbour_over_lists _ _ (arrays_in c.in_ok-list.list.now long) c.lists_in.ensures a.processor a.dimension (not (eqb a.up 0)) in
    grind (arith, same)
