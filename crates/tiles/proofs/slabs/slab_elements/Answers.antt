-- `slab_elements` meets its contract.
use Rattle.std.proofs.Common.{rules, arith}
use borrow.Author.Tests.{lt-ltb, le-ltb}
use Rattle.tiles.proofs.Asked.{slab-turned_back, slab_passed}
use Rattle.tiles.proofs.slabs.slab_elements.Goals as goal

pub returns-in_err-slabs : goal.returns-in_err-slabs
returns-in_err-slabs c = search (rules, slab-turned_back c.args.plan c.args.dimension c.args.slab c.in_err-slabs.ensures)

pub returns-then-slabs-slab : goal.returns-then-slabs-slab
returns-then-slabs-slab c =
    rw (
      slab_passed c.args.plan c.args.dimension c.args.slab c.in_ok-slabs.slabs.extent c.in_ok-slabs.slabs.cut c.in_ok-slabs.ensures,
      le-ltb _ _ c.if-slabs-slab.true,
    )

pub returns : goal.returns
returns c =
    rw (
      slab_passed c.args.plan c.args.dimension c.args.slab c.in_ok-slabs.slabs.extent c.in_ok-slabs.slabs.cut c.in_ok-slabs.ensures,
      lt-ltb c.args.slab c.in_ok-slabs.slabs.cut (omega (arith, c.if-slabs-slab.false)),
      c.elements.ensures.start,
      c.elements.ensures.end,
    )
