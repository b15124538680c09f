-- `questions::Owners::owner` meets its contract. Assumes nothing.
use mathlib.Core.Path.{◌≡◌, sym}
use Prim.Native.Nat.{◌+◌, ◌*◌, ◌<◌}
use native.Mathlib.Omega.{arith}
use lib.ListN.{get_or, take}
use lib.Seq.{get_or-take, length-take-le}
use Rattle.questions.proofs.Fronts.{owner_front, owner_front_none, owner_front-next, owner_front_high, owner_front_room, owner_front_all}
use Rattle.questions.proofs.reduced.Owners.owner.Goals as goal
use Rattle.questions.proofs.reduced.Owners.owner.Goals.{After-coordinate}

pub loop-i-init : goal.loop-i-init
loop-i-init c = sym (owner_front_none _ _ _ _ c.args.self.reduced)

pub overflow_mul-number : goal.overflow_mul-number
overflow_mul-number c =
    let within : c.loop-i.i < c.args.self.d = omega (arith, length-take-le _ _ c.args.self.reduced.long) in
    rw (get_or-take _ c.args.self.moduli.now _ 0 within)
    (record { fits = omega (arith, owner_front_room _ _ _ c.args.position.now c.args.self.reduced _ _ within c.loop-i.invariant) })

-- the number with the coordinate that this turn adds
next : (c : After-coordinate) → let l = c.loop-i in
    l.number * get_or (take c.args.self.d c.args.self.moduli.now) l.i 0 + c.coordinate.result
    ≡ owner_front c.args.self.d c.args.self.moduli.now c.args.self.matrix.now c.args.position.now (l.i + 1)
next c =
    let within : c.loop-i.i < c.args.self.d = omega (arith, length-take-le _ _ c.args.self.reduced.long) in
    let here = get_or-take c.args.self.d c.args.self.moduli.now c.loop-i.i 0 within in
    rw here (owner_front-next _ _ _ _ c.args.self.reduced _ _ _ within c.loop-i.invariant (rw here at c.coordinate.ensures))

pub overflow_add-number : goal.overflow_add-number
overflow_add-number c =
    record { fits = rw (next c) (omega (arith, owner_front_high _ _ _ c.args.position.now c.args.self.reduced (c.loop-i.i + 1) (omega (arith, length-take-le _ _ c.args.self.reduced.long)))) }

pub loop-i-preserved : goal.loop-i-preserved
loop-i-preserved c = next c

pub returns : goal.returns
returns c =
    let d = length-take-le _ _ c.args.self.reduced.long in
    owner_front_all _ _ _ _ c.args.self.reduced _ _ (omega (arith, d)) (omega (arith, d)) c.loop-i.invariant
