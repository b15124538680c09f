use mathlib.Core.Path.{◌≡◌, refl, sym, ◌∙◌}
use native.Mathlib.Omega.{arith}
use lib.ListN.{length}
use Rattle.multipartition.specs.MixedRadix.{digits_up}
use Rattle.multipartition.proofs.MixedRadix.{length-digits_up}
use Rattle.layout.specs.Plans.{layout_of, five}
use Rattle.layout.proofs.Places.{cuts_length}
use Rattle.tiles.proofs.Coordinates.{stored}
use Rattle.tiles.proofs.Numbers.{finished-next, finished_all}
use Rattle.tiles.proofs.positions.digits.Goals as goal

pub loop-k-init : goal.loop-k-init
loop-k-init c = refl

pub loop-k-preserved : goal.loop-k-preserved
loop-k-preserved c = let l = c.loop-k in finished-next _ l.at l.rest l.k c.loop-k-test.true ∙ l.invariant

pub returns : goal.returns
unfolding layout_of
returns c =
    let l = c.loop-k in
    let plan = c.args.grid.plan.now in
    let shaped = c.args.grid.shaped in
    let digits = digits_up (layout_of plan).cuts c.args.n in
    let long : length digits ≡ plan.d = length-digits_up (layout_of plan).cuts c.args.n ∙ cuts_length plan shaped in
    let all : l.at ≡ five digits
    = sym (finished_all (layout_of plan).cuts l.at l.rest l.k c.loop-k-test.false) ∙ l.invariant ∙ stored digits (omega (arith, shaped.d_high)) in
    rw (all, long)
