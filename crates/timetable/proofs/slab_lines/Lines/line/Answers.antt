-- `Lines::line` meets its contract.
use mathlib.Core.Path.{◌≡◌, ◌∙◌, subst, subst⁻¹}
use Prim.Native.Nat.{ℕ, ◌<◌}
use lib.ListN.{length, set}
use borrow.Author.Rules.{rules}
use Rattle.questions.specs.Bounds.{Small}
use Rattle.walks.specs.Walks.{IsProcessor}
use Rattle.timetable.specs.Rows.{thick, Fits, tally_of_line}
use Rattle.timetable.proofs.Lines.{first_within, first_small, tally_is, line_asked, one_of_lines}
use Rattle.timetable.proofs.slab_lines.Lines.line.Goals as goal
use Rattle.timetable.proofs.slab_lines.Lines.line.Goals.{After-along}

whole : (c : After-along) → let lines = c.args.self.now in
    thick c.volume-shared.result c.along.result ≡ tally_of_line lines.line.shaped.plan lines.flat.plan lines.line.k lines.k lines.v lines.table.now c.args.r
whole c =
    let lines = c.args.self.now in
    let long : length c.places-at.result ≡ 5 = search rules in
    tally_is lines.flat.plan lines.flat.shaped c.args.r c.places-at.result long c.places-at.ensures lines.k lines.v lines.line.shaped.plan lines.asked.same_d lines.asked.dimension lines.line.k c.with_coordinates-from.result.number (c.with_coordinates-from.ensures.number_is ∙ c.owner-first.ensures.0) lines.table.now _ _ c.volume-shared.ensures c.along.ensures

pub volume-shared-requires : goal.volume-shared-requires
volume-shared-requires c =
    let lines = c.args.self.now in
    let long : length c.places-at.result ≡ 5 = search rules in
    (first_within lines.flat.plan lines.flat.shaped c.args.r c.places-at.result long c.places-at.ensures, lines.asked.volume_fits)

pub owner-first-requires : goal.owner-first-requires
owner-first-requires c =
    let lines = c.args.self.now in
    let asked = lines.asked in
    let long : length c.places-at.result ≡ 5 = search rules in
    subst (λ (d : ℕ). Small d (set c.places-at.result lines.k lines.v)) asked.same_d
    (first_small lines.flat.plan lines.flat.shaped c.args.r c.places-at.result long c.places-at.ensures lines.k lines.v asked.slab_small
    (subst⁻¹ (λ (d : ℕ). lines.k < d) asked.same_d asked.dimension))

pub along-requires : goal.along-requires
along-requires c =
    let lines = c.args.self.now in
    let asked = lines.asked in
    let from = c.with_coordinates-from in
    let long : length c.places-at.result ≡ 5 = search rules in (
      subst⁻¹ (λ (n : ℕ). IsProcessor lines.line.shaped.plan n from.result) from.ensures.number_is from.ensures,
      line_asked lines.flat.plan lines.flat.shaped c.args.r c.places-at.result long c.places-at.ensures lines.k lines.v lines.line.shaped.plan asked.same_d asked.dimension lines.line.k from.result.number (from.ensures.number_is ∙ c.owner-first.ensures.0) lines.table.now
          (one_of_lines lines.line.shaped.plan lines.flat.plan lines.line.k lines.k lines.v lines.table.now _ asked.fits c.args.r c.requires)
          (subst⁻¹ (λ (n : ℕ). n < lines.line.shaped.plan.p) from.ensures.number_is c.owner-first.ensures.1),
    )

pub thick-requires : goal.thick-requires
thick-requires c =
    let lines = c.args.self.now in
    subst⁻¹ Fits (whole (goal.at.thick-requires c).After-along) (one_of_lines lines.line.shaped.plan lines.flat.plan lines.line.k lines.k lines.v lines.table.now _ lines.asked.fits c.args.r c.requires)

pub returns : goal.returns
returns c = c.thick.ensures ∙ whole (goal.at.returns c).After-along
