-- `questions::neighbour_over` meets its contract. Assumes nothing.
use mathlib.Core.Path.{◌∙◌, ap}
use Rattle.questions.specs.Told.{in_32_bits}
use Rattle.questions.proofs.Answers.{neighbour_in_32_bits}
use Rattle.questions.proofs.neighbour_over.Goals as goal

pub returns : goal.returns
returns c = c.from.ensures ∙ ap in_32_bits c.neighbour_answered.ensures ∙ neighbour_in_32_bits _ _ _ _
