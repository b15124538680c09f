-- `walks::stride_along` meets its contract. Assumes nothing.
use mathlib.Core.Path.{◌≡◌}
use Prim.Native.Nat.{◌<◌}
use native.Mathlib.Omega.{arith}
use lib.Seq.{get_or-take, length-take-le}
use Rattle.walks.proofs.Filling.{striding_none, striding-next}
use Rattle.walks.proofs.stride_along.Goals as goal

pub loop-i-init : goal.loop-i-init
loop-i-init c = striding_none _ _ _

pub loop-i-preserved : goal.loop-i-preserved
loop-i-preserved c =
    let own = c.args.axis.shaped in
    let within : c.loop-i.i < own.plan.d = omega (arith, length-take-le _ _ own.shaped.moduli_long) in
    let here = get_or-take own.plan.d own.plan.moduli c.loop-i.i 0 within in
    rw here (striding-next _ _ _ _ _ _ _ (omega (arith, own.shaped.d_high, within)) (rw here at c.to_add.ensures) c.loop-i.invariant)

pub returns : goal.returns
returns c =
    let all : c.loop-i.i ≡ c.args.axis.shaped.plan.d = omega (arith, length-take-le _ _ c.args.axis.shaped.shaped.moduli_long) in
    let whole = rw all at c.loop-i.invariant in
    record { modulus_is = whole.modulus_is; modulus_past = whole.modulus_past; added_is = whole.added_is; added_past = whole.added_past }
