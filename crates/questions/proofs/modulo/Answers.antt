-- `questions::modulo` meets its contract. Assumes nothing.
use mathlib.Core.Path.{◌∙◌, sym}
use native.Mathlib.Omega.{arith}
use native.Mathlib.Nat.{mod-eq_of_lt, mod-eq-sub-mod}
use Rattle.questions.proofs.modulo.Goals as goal

pub returns-then-number-m : goal.returns-then-number-m
returns-then-number-m c = sym (mod-eq_of_lt (omega arith))

pub returns : goal.returns
returns c = sym (mod-eq-sub-mod (omega arith) ∙ mod-eq_of_lt (omega arith))
