-- `Output::decimal` meets its contract: the library's digits are those of the definition.
use Rattle.numerals.proofs.Decimal.{decimal-std}
use Rattle.numerals.proofs.Puts.{puts_as}
use mathlib.Core.Path.{◌∙◌}
use Rattle.numerals.proofs.Output.decimal.Goals as goal

pub returns : goal.returns
returns c = puts_as (c.as_bytes.ensures.value ∙ c.format-digits.ensures.text ∙ decimal-std c.args.n c.ranges.n.fits) c.bytes.ensures
