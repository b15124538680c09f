use mathlib.Core.Path.{◌≡◌, refl}
use Prim.Native.Nat.{ℕ, ◌-◌}
use native.Mathlib.Omega.{arith}
use Rattle.matrix.proofs.Moduli.{written_none, written_more, written_pos, written_all}
use Rattle.matrix.proofs.moduli_of.Goals as goal

pub loop-i-init : goal.loop-i-init
loop-i-init c = (omega arith, written_none _ _ _ refl)

pub nonzero_div-left : goal.nonzero_div-left
nonzero_div-left c = let e = c.gcd-m.ensures in rw e (written_pos _ _ _ _ _ _ (omega arith) c.loop-i.invariant.1)

pub loop-i-preserved : goal.loop-i-preserved
loop-i-preserved c =
    let i : ℕ = c.loop-i.i in
    (omega arith, written_more _ _ (i - 1) i _ _ _ (omega arith) (omega arith) (omega arith) (omega arith) c.loop-i.invariant.1 c.gcd-m.ensures)

pub returns : goal.returns
returns c =
    let done : c.loop-i.i ≡ 0 = omega arith in
    written_all _ _ _ c.loop-i.left (rw done at c.loop-i.invariant.1)
