-- `reduced` meets its contract.
use mathlib.Core.Path.{sym}
use mathlib.Core.Logic.{⊎_elim}
use Prim.Native.Nat.{◌/◌}
use native.Mathlib.Omega.{arith}
use Rattle.matrix.proofs.Finished.{reduced_past_row, reduced_past_column, reduced_inside}
use Rattle.matrix.proofs.reduced.Goals as goal

pub returns-then-d-i : goal.returns-then-d-i
returns-then-d-i c =
    let a = c.args in
    sym (⊎_elim (λ row. reduced_past_row a.moduli.now a.rows.now a.d a.n row) (λ column. reduced_past_column a.moduli.now a.rows.now a.d a.n column.1) c.then-d-i.either)

pub nonzero_rem-result : goal.nonzero_rem-result
nonzero_rem-result c = c.requires.2 (c.args.n / 5) (omega arith)

pub returns : goal.returns
returns c = let a = c.args in sym (reduced_inside a.moduli.now a.rows.now a.d a.n (omega arith) (omega arith))
