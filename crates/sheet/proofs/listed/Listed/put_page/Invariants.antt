-- `Listed::put_page` meets its contract. The invariant: the first i lines stand.
use mathlib.Core.Path.{◌≡◌}
use Prim.Native.Nat.{◌-◌}
use Rattle.sheet.specs.Pages.{sheet_line}
use Rattle.sheet.proofs.Pages.{written}
use Rattle.sheet.proofs.listed.Listed.put_page.Given as goal

abbrev pub invariant-loop-i : goal.invariant-loop-i
invariant-loop-i l = l.page ≡ written (sheet_line l.self.slabs.extent l.self.slabs.cut l.self.share l.caption) l.initial.page l.s l.i

abbrev pub decreases-loop-i : goal.decreases-loop-i
decreases-loop-i l = 50 - l.i
