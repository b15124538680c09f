-- `cuts::shared::set_shared` meets its contract. The steps are the laws of proofs/Pairs.
use mathlib.Core.Path.{◌≡◌, ◌∙◌, ap}
use Prim.Native.Nat.{◌+◌, ◌<◌}
use native.Mathlib.Omega.{arith}
use lib.ListN.{length, get_or, take}
use lib.Seq.{length-take-le, get_or-take}
use Rattle.numbers.specs.Gcd.{gcd}
use Rattle.cuts.proofs.Pairs as pairs
use Rattle.cuts.proofs.shared.set_shared.Goals as goal

pub loop-i-init : goal.loop-i-init
loop-i-init c = pairs.filling_start c.args.divisors.now c.args.places.now c.requires.1

pub returns-then-places-at : goal.returns-then-places-at
returns-then-places-at c =
    let loop = c.loop-y in
    pairs.filling_end c.args.divisors.now c.args.places.now loop.places c.loop-i.i loop.y-index loop.at loop.invariant (λ a b h l inside. omega (arith, inside, c.if-places-at.true))

pub loop-y-preserved : goal.loop-y-preserved
loop-y-preserved c =
    let loop = c.loop-y in
    let divisors = c.args.divisors.now in
    let row : length (take (c.loop-i.i + 1) divisors) ≡ c.loop-i.i + 1 = length-take-le (c.loop-i.i + 1) divisors (omega (arith, c.loop-i-test.true)) in
    let inside : loop.y-index < c.loop-i.i + 1 = omega (arith, c.loop-y-test.true) in
    pairs.filling_on divisors c.args.places.now loop.places c.loop-i.i loop.y-index loop.at c.gcd.result c.place_of.result
    c.requires.0 loop.invariant c.loop-i-test.true (omega arith) c.if-places-at.false
    (c.gcd.ensures ∙ ap (gcd (get_or divisors c.loop-i.i 0)) (get_or-take (c.loop-i.i + 1) divisors loop.y-index 0 inside)) c.place_of.ensures.0

pub loop-i-preserved : goal.loop-i-preserved
loop-i-preserved c =
    let loop = c.loop-y in
    let row : length (take (c.loop-i.i + 1) c.args.divisors.now) ≡ c.loop-i.i + 1 =
    length-take-le (c.loop-i.i + 1) c.args.divisors.now (omega (arith, c.loop-i-test.true)) in
    let done : loop.y-index ≡ c.loop-i.i + 1 = omega (arith, c.loop-y-test.false, loop.auto.y-index-end) in
    pairs.filling_row c.args.divisors.now c.args.places.now loop.places c.loop-i.i loop.at (rw done at loop.invariant)

pub returns : goal.returns
returns c =
    let loop = c.loop-i in
    pairs.filling_end c.args.divisors.now c.args.places.now loop.places loop.i 0 loop.at loop.invariant
    (λ a b h l inside. omega (arith, loop.invariant.here, pairs.pair_before a b loop.i 0 h (omega (arith, l, c.loop-i-test.false))))
