-- `Position::in_grid` meets its contract.
use Rattle.std.proofs.Common.{rules, tests, arith, ℕ, ◌≡◌, refl, sym, ◌∙◌, ◌<◌, ◌≤◌}
use borrow.Author.Tests.{ne_eqb}
use lib.ListN.{length, take}
use lib.Seq.{length-take-le}
use Rattle.std.proofs.lemmas.Iterator.{YieldsList-from_slice, YieldsList-from_zip, cases_from_all}
use Rattle.layout.specs.Plans.{layout_of}
use Rattle.layout.proofs.Positions.{outside_by-length}
use Rattle.tiles.specs.Positions.{coordinates}
use Rattle.tiles.proofs.Coordinates.{length-coordinates, coordinates_front}
use Rattle.tiles.proofs.Inside.{inside_by_pairs}
use Rattle.tiles.proofs.positions.Position.in_grid.Goals as goal

pub returns-then-self-d : goal.returns-then-self-d
unfolding layout_of
returns-then-self-d c =
    let plan = c.args.grid.plan.now in
    let shaped = c.args.grid.shaped in
    let at = c.args.self.at in
    let same : c.args.self.d ≡ plan.d = omega (arith, c.if-self-d.true) in
    let five : length at ≡ 5 = search rules in
    let front : coordinates c.args.self ≡ take plan.d at
    = coordinates_front c.args.self plan.d same (omega (arith, five, shaped.d_high)) in
    let long : length (take plan.d at) ≡ length (take plan.d plan.cuts)
    = length-take-le plan.d at (omega (arith, five, shaped.d_high)) ∙ sym (length-take-le plan.d plan.cuts shaped.cuts_long) in
    inside_by_pairs (take plan.d plan.cuts) (take plan.d at) long c.all.result
    (cases_from_all c.all.new.self _ _ (λ (p : ℕ × ℕ). p.0 < p.1) (λ (p : ℕ × ℕ). p.1 ≤ p.0) c.all.ensures.ran (YieldsList-from_zip (YieldsList-from_slice (take plan.d at) cc) (YieldsList-from_slice (take plan.d plan.cuts) cc))
    (λ x q k. search (rules, tests)) (λ x q k. search (rules, tests)))
    ∙ rw front refl

pub returns-else-self-d : goal.returns-else-self-d
returns-else-self-d c =
    let plan = c.args.grid.plan.now in
    let other = outside_by-length plan c.args.grid.shaped (coordinates c.args.self) (λ same. c.if-self-d.false (sym (length-coordinates c.args.self) ∙ same)) in
    rw (other, ne_eqb c.args.self.d plan.d c.if-self-d.false) refl
