use mathlib.Core.Path.{◌≡◌}
use lib.ListN.{length}
use Rattle.std.specs.Iterator.Adapters.{enumerate_source, enumerate_count, rev_source}
use Rattle.std.specs.Slice.Iter.{iter_rest}
use Rattle.questions.proofs.Behind.{Before}
use Rattle.questions.proofs.Neighbours.{Walked}
use Rattle.questions.proofs.reduced.Owners.neighbour.Given as goal

abbrev pub invariant-loop-i : goal.invariant-loop-i
invariant-loop-i l =
    let at = rev_source l.i-iterator in
    let left = iter_rest (enumerate_source at) in
    (enumerate_count at ≡ 0)
    × Before l.self.moduli.now l.self.d (length left) left
    × Walked l.self.d l.self.moduli.now l.self.matrix.now l.k l.up l.fn.processor (length left) l.number l.radix l.rest
