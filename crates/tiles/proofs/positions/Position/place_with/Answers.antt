-- `Position::place_with` meets its contract.
use mathlib.Core.Path.{sym, ◌∙◌}
use native.Mathlib.Omega.{arith}
use lib.ListN.{set, length-set, get_or-eq_default}
use lib.Seq.{get_or-set_same, get_or-set_other}
use Rattle.tiles.specs.Positions.{coordinates}
use Rattle.tiles.proofs.Coordinates.{length-coordinates, coordinate-at}
use Rattle.tiles.proofs.positions.Position.place_with.Goals as goal

pub returns-then-i-k : goal.returns-then-i-k
returns-then-i-k c =
    let a = c.args in
    rw c.if-i-k.true (sym (get_or-set_same (coordinates a.self) a.k a.x 0 (omega (arith, length-coordinates a.self))))

pub returns-then-i-self : goal.returns-then-i-self
returns-then-i-self c =
    let a = c.args in
    sym (get_or-set_other (coordinates a.self) a.k a.i a.x 0 c.if-i-k.false ∙ coordinate-at a.self a.i c.if-i-self.true)

pub returns-else-i-self : goal.returns-else-i-self
returns-else-i-self c =
    let a = c.args in
    sym (get_or-eq_default (set (coordinates a.self) a.k a.x) 0 (omega (arith, length-set (coordinates a.self) a.k a.x, length-coordinates a.self)))
