use mathlib.Core.Path.{sym}
use Rattle.numerals.proofs.Puts.{puts_nothing, puts_both, puts_as}
use Rattle.plan_text.proofs.Lines.{joined_none, joined-add-one}
use Rattle.plan_text.proofs.put_ups.Goals as goal

pub loop-k-init : goal.loop-k-init
loop-k-init c = puts_as (sym (joined_none _)) (puts_nothing _)

pub loop-k-preserved : goal.loop-k-preserved
loop-k-preserved c = puts_as (sym (joined-add-one c.loop-k.k _)) (puts_both c.loop-k.invariant c.put_up.ensures)
