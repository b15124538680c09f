-- `Output::bytes` meets its contract. The invariant: the bytes so far are put.
use lib.ListN.{take}
use Rattle.numerals.specs.Puts.{Puts}
use Rattle.numerals.proofs.Output.bytes.Given as goal

abbrev pub invariant-loop-b : goal.invariant-loop-b
invariant-loop-b l = Puts l.initial.self (take l.b-index l.bytes) l.self
