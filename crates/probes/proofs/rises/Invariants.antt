-- `rises` meets its contract. The loop's invariant: with the elements that are left it is said of all.
use mathlib.Core.Path.{◌≡◌}
use mathlib.Core.Bool.{◌&&◌}
use lib.Dec.{eqb}
use Rattle.std.specs.Slice.Iter.{windows_rest, windows_size}
use Rattle.probes.specs.Probes.{first_fall}
use Rattle.probes.proofs.rises.Given as goal

abbrev pub invariant-loop-pair : goal.invariant-loop-pair
invariant-loop-pair l =
    (windows_size l.pair-iterator ≡ 2) × (l.ok && eqb (first_fall (windows_rest l.pair-iterator)) 0 ≡ eqb (first_fall l.elements) 0)
