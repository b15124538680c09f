-- `Question::message` meets its contract.
use mathlib.Core.Path.{sym, ap, ◌∙◌}
use mathlib.Core.Option.{Option, some}
use Prim.Native.Nat.{ℕ}
use Rattle.timetable.specs.Timetable.{message_with}
use Rattle.timetable.proofs.Visits.{neighbour_is}
use Rattle.timetable.proofs.Walks.{neighbour_asked}
use Rattle.timetable.proofs.question.Question.message.Goals as goal

pub returns : goal.returns
returns c =
    let question = c.args.self in
    let plan = question.axis.shaped.plan in
    ap (λ (n : ℕ). some (n, c.args.length)) (c.neighbour-neighbour.ensures ∙ neighbour_asked plan _ c.owners-owners.ensures question.axis.k c.args.up question.processor)
    ∙ sym (ap (λ (o : Option ℕ). message_with o c.args.length) (neighbour_is plan question.axis.k question.axis.within c.args.up question.processor c.requires))
