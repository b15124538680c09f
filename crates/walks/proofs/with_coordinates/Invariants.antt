use mathlib.Core.Path.{◌≡◌}
use lib.ListN.{length}
use Rattle.std.specs.Iterator.Adapters.{enumerate_source, enumerate_count, rev_source}
use Rattle.std.specs.Slice.Iter.{iter_rest}
use Rattle.questions.proofs.Behind.{Before}
use Rattle.walks.proofs.Filling.{Standing}
use Rattle.walks.proofs.with_coordinates.Given as goal

abbrev pub invariant-loop-i : goal.invariant-loop-i
invariant-loop-i l =
    let at = rev_source l.i-iterator in
    let left = iter_rest (enumerate_source at) in
    (enumerate_count at ≡ 0) × Before l.fn.shaped.plan.moduli l.fn.shaped.plan.d (length left) left × Standing l.fn.shaped.plan l.fn.processor (length left) l.rest l.coordinates
