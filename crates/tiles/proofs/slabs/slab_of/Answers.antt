-- `slab_of` meets its contract.
use Rattle.std.proofs.Common.{rules, arith}
use borrow.Author.Tests.{lt-ltb, le-ltb}
use Rattle.tiles.proofs.Asked.{slab_of-turned_back, slab_of_passed}
use Rattle.tiles.proofs.slabs.slab_of.Goals as goal

pub returns-in_err-slabs : goal.returns-in_err-slabs
returns-in_err-slabs c = search (rules, slab_of-turned_back c.args.plan c.args.dimension c.args.element c.in_err-slabs.ensures)

pub returns-then-slabs-element : goal.returns-then-slabs-element
returns-then-slabs-element c =
    rw (
      slab_of_passed c.args.plan c.args.dimension c.args.element c.in_ok-slabs.slabs.extent c.in_ok-slabs.slabs.cut c.in_ok-slabs.ensures,
      le-ltb _ _ c.if-slabs-element.true,
    )

pub returns : goal.returns
returns c =
    rw (
      slab_of_passed c.args.plan c.args.dimension c.args.element c.in_ok-slabs.slabs.extent c.in_ok-slabs.slabs.cut c.in_ok-slabs.ensures,
      lt-ltb c.args.element c.in_ok-slabs.slabs.extent (omega (arith, c.if-slabs-element.false)),
      c.holding.ensures,
    )
