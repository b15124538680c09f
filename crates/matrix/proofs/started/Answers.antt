-- `started` meets its contract.
use mathlib.Core.Logic.{⊎_elim}
use native.Mathlib.Omega.{arith}
use Rattle.matrix.proofs.Taking.{start_first, start_own, start-else}
use Rattle.matrix.proofs.started.Goals as goal

pub returns-then-c-i : goal.returns-then-c-i
returns-then-c-i c = (
  ⊎_elim (λ first. start_first c.args.i c.args.c (omega arith)) (λ own. start_own c.args.i c.args.c own.0 own.1) c.if-c-i.either,
  omega arith,
)

pub returns-else-c-i : goal.returns-else-c-i
returns-else-c-i c = (start-else c.args.i c.args.c c.if-c-i.false.0 c.if-c-i.false.1, omega arith)
