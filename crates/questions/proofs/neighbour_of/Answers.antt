-- `questions::neighbour_of` meets its contract. Assumes nothing.
use borrow.Author.Rules.{rules}
use mathlib.Core.Path.{◌∙◌}
use Rattle.questions.proofs.Lent.{neighbour_of_whole}
use Rattle.questions.proofs.neighbour_of.Goals as goal

pub returns : goal.returns
returns c = c.neighbour_over.ensures ∙ neighbour_of_whole c.args.plan c.lists.result c.lists.ensures.lent (search rules) c.args.processor c.args.dimension c.args.up
