use Rattle.std.proofs.Common.{arith, refl, ◌∙◌, ◌*◌}
use Rattle.sheet.specs.Pages.{sheet_line}
use Rattle.sheet.proofs.Pages.{length-sheet_line, written_none, written_next, written_all}
use Rattle.sheet.proofs.listed.Listed.put_page.Goals as goal

pub loop-i-init : goal.loop-i-init
loop-i-init c =
    let self = c.args.self in written_none (sheet_line self.slabs.extent self.slabs.cut self.share c.args.caption.now) c.args.page.now c.args.s

pub loop-i-preserved : goal.loop-i-preserved
loop-i-preserved c =
    let l = c.loop-i in
    let self = c.args.self in
    let line = sheet_line self.slabs.extent self.slabs.cut self.share c.args.caption.now in
    let columns = length-sheet_line _ _ _ self.fits c.args.caption.now in
    written_next line c.args.page.now c.args.s columns l.page _ (l.i * 73) l.i l.invariant refl c.put_row.ensures

pub returns : goal.returns
returns c =
    let l = c.loop-i in
    let self = c.args.self in
    l.invariant
    ∙ written_all (sheet_line self.slabs.extent self.slabs.cut self.share c.args.caption.now) c.args.page.now c.args.s l.i (omega (arith, l.auto.i-end, c.loop-i-test.false)) c.requires.1
