-- `visit_at` meets its contract.
use mathlib.Core.Path.{sym, ap, ◌∙◌}
use native.Mathlib.Omega.{arith}
use borrow.Author.Rules.{rules}
use Rattle.multipartition.specs.Answers.{answered}
use Rattle.timetable.proofs.Visits.{no_axis, an_axis, left-11, left_8-step, left_8_processor, left_visited}
use Rattle.timetable.proofs.visit_at.Goals as goal

pub returns-in_err-axis : goal.returns-in_err-axis
returns-in_err-axis c =
    let a = c.args in
    search (rules, no_axis a.plan a.dimension a.up a.step a.processor _ c.in_err-axis.ensures)

pub returns-then-not-others_fit : goal.returns-then-not-others_fit
returns-then-not-others_fit c =
    let a = c.args in
    let axis = c.in_ok-axis.axis in
    left-11 axis.shaped.plan axis.k axis.within a.up a.step a.processor (sym c.others_fit.ensures ∙ c.if-not-others_fit.true)
    ∙ an_axis a.plan a.dimension a.up a.step a.processor axis c.in_ok-axis.ensures

pub returns-then-cut-step : goal.returns-then-cut-step
returns-then-cut-step c =
    let a = c.args in
    let axis = c.in_ok-axis.axis in
    left_8-step axis.shaped.plan axis.k axis.within a.up a.step a.processor (sym c.others_fit.ensures ∙ c.if-not-others_fit.false) (omega (arith, c.cut.ensures, c.if-cut-step.true))
    ∙ an_axis a.plan a.dimension a.up a.step a.processor axis c.in_ok-axis.ensures

pub returns-then-axis-processor : goal.returns-then-axis-processor
returns-then-axis-processor c =
    let a = c.args in
    let axis = c.in_ok-axis.axis in
    left_8_processor axis.shaped.plan axis.k axis.within a.up a.step a.processor (sym c.others_fit.ensures ∙ c.if-not-others_fit.false) (omega (arith, c.cut.ensures, c.if-cut-step.false)) c.if-axis-processor.true
    ∙ an_axis a.plan a.dimension a.up a.step a.processor axis c.in_ok-axis.ensures

pub returns : goal.returns
returns c =
    let a = c.args in
    let axis = c.in_ok-axis.axis in
    ap answered c.visit.ensures
    ∙ left_visited axis.shaped.plan axis.k axis.within a.up a.step a.processor (sym c.others_fit.ensures ∙ c.if-not-others_fit.false) (omega (arith, c.cut.ensures, c.if-cut-step.false)) c.if-axis-processor.false
    ∙ an_axis a.plan a.dimension a.up a.step a.processor axis c.in_ok-axis.ensures
