-- `questions::times` meets its contract. Assumes nothing.
use Prim.Native.Nat.{◌*◌, ◌<◌}
use native.Mathlib.Omega.{arith}
use Rattle.std.proofs.Common.{rules}
use Rattle.std.proofs.lemmas.Iterator.{YieldsList-from_slice, YieldsList-from_zip}
use Rattle.std.proofs.lemmas.Iterator.Adapters.{serves_from_places}
use Rattle.questions.proofs.Rows.{pair_high}
use Rattle.questions.proofs.times.Goals as goal

pub sum-requires-clause-can : goal.sum-requires-clause-can
sum-requires-clause-can c = (
  (tt, tt),
  serves_from_places (YieldsList-from_zip (YieldsList-from_slice c.args.row.now cc) (YieldsList-from_slice c.args.position.now cc)) (λ x q h. search rules)
      (λ x k l e. let high : x.0.now * x.1.now < 4294967296 = omega (arith, pair_high c.args.row.now c.args.position.now k x.0.now x.1.now l e, c.requires) in
      search rules),
)
