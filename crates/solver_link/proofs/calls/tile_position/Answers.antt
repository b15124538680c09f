-- `solver_link::calls::tile_position` meets its contract. Assumes nothing.
use borrow.Author.Rules.{rules}
use mathlib.Core.List.{List}
use mathlib.Core.Path.{◌≡◌, sym, subst}
use Prim.Native.Nat.{ℕ}
use native.Mathlib.Omega.{arith}
use lib.ListN.{length}
use Rattle.refusals.specs.Told.{Answers}
use Rattle.tiles.specs.Positions.{coordinates}
use Rattle.tiles.proofs.Coordinates.{length-coordinates}
use Rattle.link_lists.specs.Lists.{into}
use Rattle.link_lists.proofs.Positions.{position_few, coordinates_front}
use Rattle.solver_link.specs.Link.{tile_position_link}
use Rattle.solver_link.proofs.calls.tile_position.Goals as goal

pub shared_ref_as_front-coordinates : goal.shared_ref_as_front-coordinates
shared_ref_as_front-coordinates c =
    let position = c.in_ok-position.position in
    omega (arith, position_few c.plan_in.result c.args.tile (coordinates position) (sym c.in_ok-position.ensures.told), length-coordinates position)

pub returns : goal.returns
unfolding tile_position_link
returns c =
    let a = c.args in
    let position = c.in_ok-position.position in
    let long : length position.at ≡ 5 = search rules in
    let few = position_few c.plan_in.result a.tile (coordinates position) (sym c.in_ok-position.ensures.told) in
    let front = coordinates_front position (omega (arith, few, length-coordinates position)) in
    let stored = subst (λ (numbers : List ℕ). Answers (into (length a.answer.now) numbers) c.put.result a.answer.now c.put.new.answer) (sym front) c.put.ensures in
    grind (arith, stored)
