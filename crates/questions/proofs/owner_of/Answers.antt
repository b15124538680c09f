-- `questions::owner_of` meets its contract. Assumes nothing.
use borrow.Author.Rules.{rules}
use mathlib.Core.Path.{◌∙◌}
use Rattle.questions.proofs.Lent.{owner_of_whole}
use Rattle.questions.proofs.owner_of.Goals as goal

pub returns : goal.returns
returns c = c.owner_over.ensures ∙ owner_of_whole c.args.plan c.lists.result c.lists.ensures.lent (search rules) c.args.position.now
