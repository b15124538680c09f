-- `Question::visit` meets its contract.
use mathlib.Core.Path.{ap}
use Rattle.timetable.specs.declared.slab_faces.Tally.{Tally}
use Rattle.timetable.specs.Told.{told_message}
use Rattle.timetable.proofs.Visits.{visit_is}
use Rattle.timetable.proofs.question.Question.visit.Goals as goal

pub returns : goal.returns
returns c =
    let question = c.args.self in
    let tally = c.tally_in-tally in
    visit_is question.axis.shaped.plan question.axis.k question.axis.within question.up question.step question.processor c.slab-slab.result tally.result.tiles tally.result.elements
    (told_message c.sends.result) (told_message c.expects.result) c.slab-slab.ensures.0 (ap (λ (a : Tally). a.tiles) tally.ensures) (ap (λ (a : Tally). a.elements) tally.ensures)
    c.sends.ensures c.expects.ensures
