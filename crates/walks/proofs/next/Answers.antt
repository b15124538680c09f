-- `walks::next` meets its contract. Assumes nothing.
use mathlib.Core.Path.{◌≡◌}
use Prim.Native.Nat.{◌+◌, ◌*◌, ◌<◌}
use native.Mathlib.Omega.{arith}
use lib.ListN.{get_or, set}
use Rattle.walks.proofs.Filling.{Stepping, stride_modulus_high, stepping_none, stepping-next, stepping_high}
use Rattle.walks.proofs.next.Goals as goal
use Rattle.walks.proofs.next.Goals.{After-modulo-c}

pub loop-i-init : goal.loop-i-init
loop-i-init c = stepping_none _ _ c.requires

pub overflow_add-from : goal.overflow_add-from
overflow_add-from c = let i = c.loop-i.i in
    record { fits = omega (arith, c.requires.coordinate_below i (omega arith), c.requires.added_below i (omega arith), stride_modulus_high _ _ c.requires i (omega arith)) }

pub modulo-c-requires : goal.modulo-c-requires
modulo-c-requires c =
    let i = c.loop-i.i in
    omega (arith, c.requires.coordinate_below i (omega arith), c.requires.added_below i (omega arith))

-- the coordinates and the number with the one that this turn adds
abbrev Stepped : After-modulo-c → Type 0
Stepped c =
    let l = c.loop-i in
    Stepping c.args.stride c.args.from (l.i + 1)
    (l.number * get_or c.args.stride.moduli l.i 0 + c.modulo-c.result)
    (set l.coordinates l.i c.modulo-c.result)

stepped : (c : After-modulo-c) → Stepped c
stepped c =
    let l = c.loop-i in
    stepping-next _ _ c.requires _ _ _ _ (omega arith) c.modulo-c.ensures l.invariant

number_high : (c : After-modulo-c)
    → let l = c.loop-i in
    l.number * get_or c.args.stride.moduli l.i 0 + c.modulo-c.result < 4096
number_high c = stepping_high _ _ c.requires _ _ _ (omega arith) (stepped c)

pub overflow_mul-number : goal.overflow_mul-number
overflow_mul-number c = record { fits = omega (arith, number_high c) }

pub overflow_add-number : goal.overflow_add-number
overflow_add-number c = record { fits = omega (arith, number_high c) }

pub loop-i-preserved : goal.loop-i-preserved
loop-i-preserved c = stepped c

pub returns : goal.returns
returns c = let l = c.loop-i in
    let all : l.i ≡ 5 = omega arith in
    record { number_is = rw all at l.invariant.number_is; coordinate_is = λ j m. l.invariant.coordinate_is j (omega arith) }
