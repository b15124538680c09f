use mathlib.Core.Path.{◌≡◌}
use Prim.Native.Nat.{◌+◌, ◌*◌}
use native.Mathlib.Omega.{arith}
use Rattle.matrix.proofs.Multiplying.{moderate}
use Rattle.matrix.proofs.Finished.{before_column, finished_more}
use Rattle.matrix.proofs.finish_row.Goals as goal

pub multipliers-ts-requires : goal.multipliers-ts-requires
multipliers-ts-requires c = (c.requires.0, c.requires.1.row, moderate c.requires.1)

pub loop-c-init : goal.loop-c-init
loop-c-init c = (omega arith, c.requires.1.finished)

pub entry-requires : goal.entry-requires
entry-requires c =
    let head = c.loop-c in
    let ts = c.multipliers-ts in (
      c.requires.1.p_low,
      c.requires.1.p_high,
      c.requires.1.row,
      omega arith,
      λ j l h. ((ts.ensures j l h).1, head.invariant.1.small (j * 5 + head.c) (omega arith)),
    )

pub loop-c-preserved : goal.loop-c-preserved
loop-c-preserved c =
    let called = c.entry in
    let finished = c.loop-c.invariant.1 in
    let stands = called.ensures.1 _ _ (before_column _ _ _ c.requires.1 (omega arith) finished) c.multipliers-ts.ensures in
    (omega arith, finished_more _ _ _ _ _ _ _ c.requires.1.row (omega arith) finished stands called.ensures.0)

pub returns : goal.returns
returns c = let done : c.loop-c.c ≡ 5 = omega arith in rw done at c.loop-c.invariant.1
