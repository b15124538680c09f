use Rattle.std.proofs.Common.{◌≡◌, ◌≤◌, length, take}
use Rattle.numbers.specs.Products.{product}
use Rattle.layout.proofs.product_of.Given as goal

abbrev pub invariant-loop-number : goal.invariant-loop-number
invariant-loop-number l = (l.number-index ≤ length l.fn.numbers) × (l.all ≡ product (take l.number-index l.fn.numbers))
