-- `plan_text::put_line` meets its contract: one text after the other.
use Rattle.numerals.proofs.Puts.{puts_both}
use Rattle.plan_text.proofs.put_line.Goals as goal

pub returns : goal.returns
returns c = puts_both c.bytes.ensures c.numbers.ensures
