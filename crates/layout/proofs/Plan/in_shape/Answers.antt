-- `layout::Plan::in_shape` meets its contract: a question reads neither weights nor cost.
use mathlib.Core.Path.{◌≡◌, refl, ap, ◌∙◌}
use Rattle.layout.specs.declared.Plan.{Plan}
use Rattle.layout.specs.Plans.{layout_of}
use Rattle.multipartition.specs.Plans.{in_shape}
use Rattle.layout.specs.Lent.{lent_plan, plan_lent}
use Rattle.layout.proofs.Lent.{plan_over_lem}
use Rattle.layout.proofs.Plan.in_shape.Goals as goal

pub returns : goal.returns
unfolding in_shape layout_of
returns c =
    let plan = c.args.self.now in
    let l = c.lists.ensures.lent in
    let r = c.lists.result in
    let lent = plan_over_lem r.extents.now r.cuts.now r.moduli.now r.matrix.now r.least.now r.d r.p r.kind c.lists.ensures.places in
    let over : plan_lent r ≡ lent_plan plan.d plan.p plan.kind plan.extents plan.cuts plan.moduli plan.matrix plan.least = lent ∙ rw (l.d_is, l.p_is, l.kind_is, l.extents_are, l.cuts_are, l.moduli_are, l.matrix_are, l.least_are) refl in
    c.in_shape.ensures ∙ ap (λ (q : Plan). in_shape (layout_of q)) over
