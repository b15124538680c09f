-- `put_caption` meets its contract. The invariant: the first i bytes of the caption stand.
use mathlib.Core.Path.{◌≡◌}
use mathlib.Core.List.{map}
use Prim.Native.Nat.{◌-◌}
use lib.Seq.{paste}
use Rattle.sheet.specs.Lines.{shown}
use Rattle.sheet.proofs.put_caption.Given as goal

abbrev pub invariant-loop-i : goal.invariant-loop-i
invariant-loop-i l = l.line ≡ paste l.initial.line 34 (map shown l.byte-items) l.i

abbrev pub decreases-loop-i : goal.decreases-loop-i
decreases-loop-i l = l.i-end - l.i
