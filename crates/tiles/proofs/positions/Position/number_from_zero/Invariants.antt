-- `Position::number_from_zero` meets its contract: after each turn the number is that of the coordinates that have come.
use Rattle.std.specs.Slice.Iter.{iter_rest}
use Rattle.std.specs.Iterator.Adapters.{rev_source, zip_first, zip_second}
use lib.ListN.{take}
use Rattle.tiles.proofs.Numbers.{NumberOf}
use Rattle.tiles.proofs.positions.Position.number_from_zero.Given as goal

abbrev pub invariant-loop-i : goal.invariant-loop-i
invariant-loop-i l =
    NumberOf (take l.d l.fn.grid.plan.now.cuts) (take l.d l.fn.self.at) l.number
    (iter_rest (rev_source (zip_first l.i-iterator)))
    (iter_rest (rev_source (zip_second l.i-iterator)))
