-- `plan_text::put_refused` meets its contract: the word, the two numbers and what follows each.
use Rattle.numerals.proofs.Puts.{puts_both}
use Rattle.plan_text.proofs.put_refused.Goals as goal

pub returns : goal.returns
returns c = puts_both c.bytes.ensures (puts_both c.decimal.ensures (puts_both c.byte.ensures (puts_both c.decimal-2.ensures c.byte-2.ensures)))
