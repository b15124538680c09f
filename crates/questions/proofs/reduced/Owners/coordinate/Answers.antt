-- `questions::Owners::coordinate` meets its contract. Assumes nothing.
use mathlib.Core.Path.{◌≡◌, sym}
use Prim.Native.Nat.{ℕ, ◌+◌, ◌-◌, ◌*◌}
use native.Mathlib.Nat.{mod-one}
use native.Mathlib.Omega.{arith}
use Rattle.questions.proofs.Bounds.{row_fits}
use Rattle.questions.proofs.Rows.{times_as_sum}
use Rattle.questions.proofs.reduced.Owners.coordinate.Goals as goal

pub returns-then-m-eq1 : goal.returns-then-m-eq1
returns-then-m-eq1 c = rw c.if-m-eq1.true (sym (mod-one _))

-- a row of d entries
row_wide : (i d : ℕ) → i * 5 + d - i * 5 ≡ d
row_wide i d = omega arith

pub times-requires : goal.times-requires
times-requires c = rw (row_wide c.args.i c.args.self.d) (row_fits _ _ _ _ c.args.self.reduced c.requires.2 c.args.i c.requires.1)

pub returns : goal.returns
returns c = rw (c.times.ensures, row_wide c.args.i c.args.self.d, times_as_sum)
