-- `Output::numbers` meets its contract. The invariant: the first number is put, and the further ones so far.
use lib.ListN.{take}
use Rattle.numerals.specs.Puts.{Puts}
use Rattle.numerals.proofs.Lines.{followed}
use Rattle.numerals.proofs.Output.numbers.Given as goal

abbrev pub invariant-loop-n : goal.invariant-loop-n
invariant-loop-n l = Puts l.initial.self (followed (take l.n-index l.rest)) l.self
