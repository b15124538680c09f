-- `layout::PlanLists::in_shape` meets its contract. Assumes nothing.
use mathlib.Core.Path.{◌≡◌, sym, ◌∙◌}
use Rattle.multipartition.proofs.Tests.{false-not-true}
use Rattle.layout.specs.Lent.{Lent, lent_plan, plan_over}
use Rattle.layout.proofs.Lent.{lent_of_test, plan_over_lem, not_lent}
use Rattle.layout.proofs.Shaped.{not-in_shape, ranges_iff, ranges_of_shaped}
use Rattle.layout.proofs.PlanLists.in_shape.Goals as goal
use Rattle.layout.proofs.PlanLists.in_shape.Goals.{Else-not-have_places}

-- once the first check has passed, the lists have a plan's places
lent : (c : Else-not-have_places) → let a = c.args.self in Lent a.extents.now a.cuts.now a.moduli.now a.matrix.now a.least.now
lent c = lent_of_test _ _ _ _ _ (sym c.have_places.ensures ∙ c.if-not-have_places.false)

over : (c : Else-not-have_places) → let a = c.args.self in
    plan_over a.d a.p a.kind a.extents.now a.cuts.now a.moduli.now a.matrix.now a.least.now
    ≡ lent_plan a.d a.p a.kind a.extents.now a.cuts.now a.moduli.now a.matrix.now a.least.now
over c = plan_over_lem _ _ _ _ _ _ _ _ (lent c)

pub returns-then-not-have_places : goal.returns-then-not-have_places
returns-then-not-have_places c = sym (not_lent _ _ _ _ _ _ _ _ (sym c.have_places.ensures ∙ c.if-not-have_places.true))

pub returns-then-not-in_ranges : goal.returns-then-not-in_ranges
returns-then-not-in_ranges c =
    rw (over (goal.at.returns-then-not-in_ranges c).Else-not-have_places)
    (not-in_shape _ (λ s. false-not-true (sym c.if-not-in_ranges.true ∙ c.in_ranges.ensures ∙ (ranges_iff _ _ _).1 (ranges_of_shaped _ s))))

pub places_ok-requires : goal.places_ok-requires
places_ok-requires c =
    ((ranges_iff _ _ _).0 (sym c.in_ranges.ensures ∙ c.if-not-in_ranges.false), lent (goal.at.places_ok-requires c).Else-not-have_places)

pub returns : goal.returns
returns c = rw (over (goal.at.returns c).Else-not-have_places) c.places_ok.ensures
