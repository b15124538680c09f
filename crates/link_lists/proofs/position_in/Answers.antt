-- `link_lists::position_in` meets its contract. Assumes nothing.
use mathlib.Core.Path.{ap}
use mathlib.Core.List.{List}
use Prim.Native.Nat.{ℕ}
use borrow.Author.Rules.{rules}
use lib.ListN.{length}
use Rattle.tiles.specs.declared.positions.Position.{Position}
use Rattle.link_lists.proofs.Positions.{five_asked}
use Rattle.link_lists.proofs.position_in.Goals as goal

pub returns : goal.returns
returns c =
    let list = c.args.list.now in
    ap (λ (at : List ℕ). let p : Position = record { d = length list; at = at } in p) (five_asked _ _ list c.from_fn.result (λ p k y q e h. search rules) c.from_fn.ensures.items)
