-- `slab_sheet` meets its contract.
use Rattle.std.proofs.Common.{rules, arith, ◌≡◌, refl, Err, ◌-◌, ◌*◌, ◌/◌, ◌≤◌, ◌<◌}
use borrow.Author.Tests.{le-leb, lt-leb, eq-eqb, ne_eqb}
use lib.ListN.{length}
use Rattle.multipartition.specs.Answers.{answered, checked}
use Rattle.layout.specs.Plans.{layout_of}
use Rattle.tiles.proofs.Along.{answers-refused}
use Rattle.sheet.specs.Pages.{sheet_line, lines_from, sheet_answer}
use Rattle.sheet.proofs.Outcomes.{page_checks, turned_back, passed}
use Rattle.sheet.proofs.slab_sheet.Goals as goal
use Rattle.sheet.proofs.slab_sheet.Goals.{After-along-listed}

pub returns-in_err-along : goal.returns-in_err-along
returns-in_err-along c =
    let a = c.args in
    let back : c.from_residual.result ≡ Err c.in_err-along.field-0.0 = search rules in
    rw back (answers-refused _ a.sheet.now _ (turned_back a.plan a.dimension a.page a.caption.now (length a.sheet.now) c.in_err-along.ensures))

-- once the plan has the dimension, the answer is that of the other checks
asked : (c : After-along-listed) → let listed = c.along-listed.result in let a = c.args in
    sheet_answer (layout_of a.plan) a.dimension a.page a.caption.now (length a.sheet.now)
    ≡ checked (page_checks listed.slabs.cut a.page (length a.sheet.now))
    (answered (lines_from (sheet_line listed.slabs.extent listed.slabs.cut listed.share a.caption.now) (a.page * 50) 50))
asked c =
    let a = c.args in
    let e = c.along-listed.ensures in
    passed a.plan a.dimension a.page a.caption.now (length a.sheet.now) c.in_ok-along.field-0 c.in_ok-along.ensures _ _ _ e.0 e.1 e.2

pub returns-then-listed-page : goal.returns-then-listed-page
returns-then-listed-page c =
    let a = c.args in
    let past : (c.along-listed.result.slabs.cut - 1) / 50 < a.page = omega (arith, c.if-listed-page.true, c.along-listed.result.fits.cut_low) in
    rw (
      asked (goal.at.returns-then-listed-page c).After-along-listed,
      lt-leb _ _ past,
    )
    (record { told = refl; held = refl })

pub returns-then-sheet-ne-PAGE : goal.returns-then-sheet-ne-PAGE
returns-then-sheet-ne-PAGE c =
    let a = c.args in
    let within : a.page ≤ (c.along-listed.result.slabs.cut - 1) / 50 = omega (arith, c.if-listed-page.false) in
    rw (
      asked (goal.at.returns-then-sheet-ne-PAGE c).After-along-listed,
      le-leb _ _ within,
      ne_eqb _ _ c.if-sheet-ne-PAGE.true,
    )
    (record { told = refl; held = refl })

pub returns : goal.returns
returns c =
    let a = c.args in
    let within : a.page ≤ (c.along-listed.result.slabs.cut - 1) / 50 = omega (arith, c.if-listed-page.false) in
    rw (
      asked (goal.at.returns c).After-along-listed,
      le-leb _ _ within,
      eq-eqb _ _ c.if-sheet-ne-PAGE.false,
      c.put_page.ensures,
    )
    (record { told = refl; held = refl })
