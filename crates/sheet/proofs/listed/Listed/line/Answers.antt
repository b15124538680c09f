-- `Listed::line` meets its contract.
use Rattle.std.proofs.Common.{arith, refl, suc}
use borrow.Author.Tests.{lt-ltb, le-ltb}
use Rattle.sheet.specs.Pages.{sheet_line}
use Rattle.sheet.proofs.Pages.{start_high}
use Rattle.sheet.proofs.listed.Listed.line.Goals as goal

pub returns-then-self-s : goal.returns-then-self-s
unfolding sheet_line
returns-then-self-s c = rw (le-ltb _ _ c.if-self-s.true) refl

pub slab_line-requires : goal.slab_line-requires
slab_line-requires c =
    let fits = c.args.self.fits in
    let high = start_high _ _ _ fits in
    let e = c.elements-elements.ensures in (
      omega (arith, c.if-self-s.false, fits.cut_high),
      omega (arith, e.start, high c.args.s (omega (arith, c.if-self-s.false)), fits.extent_high),
      omega (arith, e.end, high (suc c.args.s) (omega (arith, c.if-self-s.false)), fits.extent_high),
      omega (arith, fits.share_high),
    )

pub returns : goal.returns
unfolding sheet_line
returns c =
    let e = c.elements-elements.ensures in
    rw (lt-ltb c.args.s c.args.self.slabs.cut (omega (arith, c.if-self-s.false)))
    (rw (c.from.ensures, c.from-2.ensures, c.from-3.ensures, e.start, e.end) at c.slab_line.ensures)
