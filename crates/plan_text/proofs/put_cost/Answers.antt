-- `plan_text::put_cost` meets its contract: the word, the number and the newline.
use Rattle.numerals.proofs.Puts.{puts_both}
use Rattle.plan_text.proofs.put_cost.Goals as goal

pub returns : goal.returns
returns c = puts_both c.bytes.ensures (puts_both c.decimal.ensures c.byte.ensures)
