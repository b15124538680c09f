-- `cuts::question::unit_of` meets its contract.
use mathlib.Core.Path.{sym}
use Rattle.cuts.proofs.Questions.{unit_two, unit_more}
use Rattle.cuts.proofs.question.unit_of.Goals as goal

pub returns-then-left-eq2 : goal.returns-then-left-eq2
returns-then-left-eq2 c = sym (unit_two c.args.left c.args.each c.if-left-eq2.true)

pub returns-else-left-eq2 : goal.returns-else-left-eq2
returns-else-left-eq2 c = sym (unit_more c.args.left c.args.each c.if-left-eq2.false)
