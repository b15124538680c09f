-- `plan_text::put_plan` meets its contract: the lines one after the other.
use Rattle.numerals.proofs.Puts.{puts_both}
use Rattle.layout.specs.Plans.{layout_of}
use Rattle.plan_text.specs.PlanText.{plan_text}
use Rattle.plan_text.proofs.put_plan.Goals as goal

pub returns : goal.returns
unfolding plan_text layout_of
returns c =
    puts_both
    (puts_both (puts_both (puts_both (puts_both c.put_line.ensures c.put_line-2.ensures) c.put_cost.ensures) c.put_line-3.ensures) c.put_rows.ensures)
    c.put_ups.ensures
