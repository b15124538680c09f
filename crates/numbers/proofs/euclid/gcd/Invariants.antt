-- `gcd` meets its contract. The loop's invariant: the two numbers in hand have the gcd that is asked for.
-- The measure is the second of them.
use mathlib.Core.Path.{◌≡◌}
use Rattle.numbers.specs.Gcd.{gcd}
use Rattle.numbers.proofs.euclid.gcd.Given as goal

abbrev pub invariant-loop-y : goal.invariant-loop-y
invariant-loop-y l = gcd l.x l.y ≡ gcd l.a l.b

abbrev pub decreases-loop-y : goal.decreases-loop-y
decreases-loop-y l = l.y
