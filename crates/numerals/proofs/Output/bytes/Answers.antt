use mathlib.Core.Path.{sym, ap, ◌∙◌}
use Prim.Native.Nat.{ℕ}
use native.Mathlib.Numerals.{add-one}
use lib.ListN.{take}
use lib.Seq.{take-suc}
use Rattle.numerals.proofs.Puts.{puts_as, puts_both}
use Rattle.numerals.proofs.Output.bytes.Goals as goal

pub loop-b-preserved : goal.loop-b-preserved
loop-b-preserved c =
    let bytes = c.args.bytes.now in
    let i = c.loop-b.b-index in
    puts_as (sym (ap (λ (k : ℕ). take k bytes) (add-one i) ∙ take-suc bytes i 0 c.loop-b-test.true)) (puts_both c.loop-b.invariant c.byte.ensures)
