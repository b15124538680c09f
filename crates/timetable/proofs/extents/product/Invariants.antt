use mathlib.Core.Path.{◌≡◌}
use Prim.Native.Nat.{◌≤◌}
use lib.ListN.{take}
use Rattle.numbers.specs.Products.{product}
use Rattle.timetable.proofs.extents.product.Given as goal

abbrev pub invariant-loop-number : goal.invariant-loop-number
invariant-loop-number l = (l.all ≡ product (take l.number-index l.numbers)) × (l.all ≤ 4294967295)
