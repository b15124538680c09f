-- `solver_link::calls::owner` meets its contract. Assumes nothing.
use borrow.Author.Rules.{rules}
use mathlib.Core.Path.{◌≡◌}
use native.Mathlib.Omega.{arith}
use lib.ListN.{length}
use Rattle.link_lists.proofs.Plans.{owner_over_lists, arrays_in}
use Rattle.solver_link.specs.Link.{owner_link}
use Rattle.solver_link.proofs.calls.owner.Goals as goal

pub returns-in_err-owner : goal.returns-in_err-owner
unfolding owner_link
returns-in_err-owner c =
    let a = c.args in
    let long : length c.in_ok-list.list.now ≡ 55 = search rules in
    let same = owner_over_lists _ _ (arrays_in c.in_ok-list.list.now long) c.lists_in.ensures a.position.now in
    grind (arith, same)

pub returns : goal.returns
unfolding owner_link
returns c =
    let a = c.args in
    let long : length c.in_ok-list.list.now ≡ 55 = search rules in
    let same = owner_over_lists _ _ (arrays_in c.in_ok-list.list.now long) c.lists_in.ensures a.position.now in
    grind (arith, same)
