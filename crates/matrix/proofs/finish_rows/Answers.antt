use mathlib.Core.Path.{◌≡◌}
use Prim.Native.Nat.{◌+◌, ◌*◌}
use native.Mathlib.Omega.{arith}
use lib.ListN.{length}
use Rattle.matrix.proofs.Finished.{finished_none}
use Rattle.matrix.proofs.finish_rows.Goals as goal

pub loop-i-init : goal.loop-i-init
loop-i-init c = (omega arith, finished_none _ _ _)

pub finish_row-requires : goal.finish_row-requires
finish_row-requires c =
    let head = c.loop-i in
    let first : head.i * 5 + 0 ≡ head.i * 5 = omega arith in (
      omega arith,
      record {
        p_low = c.requires.0;
        p_high = c.requires.1;
        row = omega arith;
        column = omega arith;
        divides = λ k l. c.requires.3 k (omega arith);
        finished = rw first head.invariant.1;
      },
    )

pub loop-i-preserved : goal.loop-i-preserved
loop-i-preserved c =
    let head = c.loop-i in
    let more : (head.i + 1) * 5 ≡ head.i * 5 + 5 = omega arith in
    (omega arith, rw more c.finish_row.ensures)

pub returns : goal.returns
returns c = let done : c.loop-i.i ≡ length c.args.cuts.now = omega arith in rw done at c.loop-i.invariant.1
