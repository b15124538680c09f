-- `layout::product_of` meets its contract. Assumes nothing.
use mathlib.Core.Path.{sym}
use native.Mathlib.Omega.{arith}
use Rattle.layout.proofs.Lists.{product-next, product_fits}
use Rattle.layout.proofs.product_of.Goals as goal

pub overflow_mul-all : goal.overflow_mul-all
overflow_mul-all c = let l = c.loop-number in
    record { fits = rw (c.from-all.ensures, l.invariant.1) (product_fits c.args.numbers.now _ l.number-index c.requires (omega arith)) }

pub loop-number-preserved : goal.loop-number-preserved
loop-number-preserved c = let l = c.loop-number in
    (omega arith, rw (c.from-all.ensures, l.invariant.1) (sym (product-next c.args.numbers.now _ l.number-index c.requires (omega arith))))
