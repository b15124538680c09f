-- A position by value and the list of its coordinates (document 01, "Tiles, slabs, chains").
use Rattle.std.specs.Prelude.{List, ◌++◌, ℕ, length, take, replicate}
use Rattle.layout.specs.Plans.{five}
use Rattle.tiles.specs.declared.positions.Position.{Position}

-- the coordinates: d of them, so that "a position of another length than d" is another list than any position of the grid
unfoldable pub coordinates : Position → List ℕ
coordinates position = take position.d (position.at ++ replicate position.d 0)

-- the position with these coordinates, zero past them
abbrev pub position_with : List ℕ → Position
position_with coordinates = record { d = length coordinates; at = five coordinates }
