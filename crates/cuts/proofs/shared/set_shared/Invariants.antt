use Rattle.cuts.proofs.Pairs as pairs
use Rattle.cuts.proofs.shared.set_shared.Given as goal

abbrev pub invariant-loop-i : goal.invariant-loop-i
invariant-loop-i l = pairs.Filling l.divisors l.fn.places l.places l.i 0 l.at

abbrev pub invariant-loop-y : goal.invariant-loop-y
invariant-loop-y l = pairs.Filling l.divisors l.fn.places l.places l.i l.y-index l.at
