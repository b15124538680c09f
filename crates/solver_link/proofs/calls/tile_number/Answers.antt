-- `solver_link::calls::tile_number` meets its contract. Assumes nothing.
use native.Mathlib.Omega.{arith}
use Rattle.link_lists.proofs.Positions.{number_with}
use Rattle.solver_link.specs.Link.{tile_number_link}
use Rattle.solver_link.proofs.calls.tile_number.Goals as goal

pub returns-in_err-tile : goal.returns-in_err-tile
unfolding tile_number_link
returns-in_err-tile c = let same = number_with c.plan_in.result c.args.position.now in grind (arith, same)

pub returns : goal.returns
unfolding tile_number_link
returns c = let same = number_with c.plan_in.result c.args.position.now in grind (arith, same)
