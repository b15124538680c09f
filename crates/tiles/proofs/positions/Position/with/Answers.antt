-- `Position::with` meets its contract.
use Rattle.std.proofs.Common.{rules}
use lib.ListN.{set, length-set}
use Rattle.tiles.specs.Positions.{coordinates}
use Rattle.tiles.proofs.Coordinates.{length-coordinates, five_places}
use Rattle.tiles.proofs.positions.Position.with.Goals as goal

pub returns : goal.returns
returns c =
    let a = c.args in
    let xs = set (coordinates a.self) a.k a.x in
    let items = c.from_fn.ensures.items in
    rw (five_places c.from_fn.result xs items.long (λ i l. let here = items.at i 0 l in search rules), length-set (coordinates a.self) a.k a.x, length-coordinates a.self)
