-- `Question::sends` meets its contract.
use mathlib.Core.Path.{sym, ◌∙◌}
use Rattle.timetable.proofs.Visits.{last_step, not-last_step}
use Rattle.timetable.proofs.question.Question.sends.Goals as goal

pub returns-then-self-cut : goal.returns-then-self-cut
returns-then-self-cut c =
    let axis = c.args.self.axis in
    rw (last_step axis.shaped.plan axis.k axis.within c.args.self.step (c.if-self-cut.true ∙ c.cut.ensures))

pub returns : goal.returns
returns c =
    let axis = c.args.self.axis in
    rw (not-last_step axis.shaped.plan axis.k axis.within c.args.self.step (λ e. c.if-self-cut.false (e ∙ sym c.cut.ensures))) c.message.ensures
