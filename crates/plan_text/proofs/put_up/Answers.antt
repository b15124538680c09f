-- `plan_text::put_up` meets its contract: the dimension's number, then `none` or the processors, by the cut.
use mathlib.Core.Path.{sym, ap, ◌∙◌}
use native.Mathlib.Numerals.{add-one}
use Rattle.numerals.specs.Decimal.{decimal}
use Rattle.numerals.proofs.Puts.{puts_both, puts_as}
use Rattle.layout.specs.Plans.{layout_of}
use Rattle.layout.proofs.Places.{cut_at}
use Rattle.plan_text.proofs.Lines.{up_none, up-processors}
use Rattle.plan_text.proofs.put_up.Goals as goal

pub returns-then-cut-eq1 : goal.returns-then-cut-eq1
returns-then-cut-eq1 c =
    let axis = c.args.axis in
    let plan = axis.shaped.plan in
    puts_as (sym (up_none (layout_of plan) axis.k (cut_at plan axis.k axis.within ∙ sym c.cut.ensures ∙ c.if-cut-eq1.true)))
    (puts_both c.bytes.ensures
    (puts_both (puts_as (ap decimal (add-one axis.k)) c.decimal.ensures) (puts_both c.byte.ensures c.bytes-then-cut-eq1.ensures)))

pub returns : goal.returns
unfolding layout_of
returns c =
    let axis = c.args.axis in
    let plan = axis.shaped.plan in
    puts_as
    (sym (up-processors (layout_of plan) axis.k axis.shaped.shaped.p_low
    (λ one. c.if-cut-eq1.false (c.cut.ensures ∙ sym (cut_at plan axis.k axis.within) ∙ one))))
    (puts_both c.bytes.ensures
    (puts_both (puts_as (ap decimal (add-one axis.k)) c.decimal.ensures) (puts_both c.byte.ensures c.put_neighbours.ensures)))
