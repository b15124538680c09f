-- `side_of` meets its contract.
use mathlib.Core.Path.{sym, ap, ◌∙◌}
use Prim.Native.Nat.{ℕ}
use native.Mathlib.Omega.{arith}
use Rattle.diagonal.specs.Diagonal.{suited_side}
use Rattle.diagonal.proofs.Sides.{suits_facts, unsuited, suited-2}
use Rattle.diagonal.proofs.side_of.Goals as goal

pub returns-in-2 : goal.returns-in-2
returns-in-2 c =
    let a = c.args in
    sym (ap (λ (d : ℕ). suited_side d a.p) c.in-2.is ∙ suited-2 a.p c.requires.1)

pub returns-in_default : goal.returns-in_default
returns-in_default c = unsuited c.args.d c.args.p (λ e. let h = (suits_facts c.args.d c.args.p).0 e in omega (arith, h.low, h.high))
