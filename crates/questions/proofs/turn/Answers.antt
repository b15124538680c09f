-- `questions::turn` meets its contract. Assumes nothing.
use mathlib.Core.Path.{◌∙◌, sym}
use Rattle.questions.proofs.Neighbours.{turn_down}
use Rattle.multipartition.specs.Neighbours.{turn}
use Rattle.questions.proofs.turn.Goals as goal

pub returns-then-up : goal.returns-then-up
unfolding turn
returns-then-up c = rw c.if-up.true c.modulo.ensures

pub returns : goal.returns
returns c = rw c.if-up.false (c.modulo-2.ensures ∙ sym (turn_down _ _ _ c.requires.2))
