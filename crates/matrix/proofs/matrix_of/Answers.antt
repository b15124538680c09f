use mathlib.Core.Path.{refl, ◌∙◌}
use native.Mathlib.Nat.{pos_of_dvd_of_pos}
use native.Mathlib.Omega.{arith}
use lib.ListN.{length-set}
use Rattle.matrix.proofs.Padding.{filled_more, is-flat}
use Rattle.matrix.proofs.Finished.{dividing, reduced_entry}
use Rattle.matrix.proofs.matrix_of.Goals as goal

pub finish_rows-rows-requires : goal.finish_rows-rows-requires
finish_rows-rows-requires c = (c.requires.0, c.requires.1, c.requires.2, dividing _ _ _ _ c.requires.0 c.requires.2 refl c.requires.3)

pub reduced-requires : goal.reduced-requires
reduced-requires c =
    let divides = dividing _ _ _ _ c.requires.0 c.requires.2 refl c.requires.3 in
    (c.requires.2, omega arith, λ k l. pos_of_dvd_of_pos (divides k l) c.requires.0)

pub loop-n-preserved : goal.loop-n-preserved
loop-n-preserved c = (
  omega arith,
  length-set c.loop-n.matrix c.loop-n.n c.reduced.result ∙ c.loop-n.invariant.1,
  filled_more _ c.loop-n.matrix c.loop-n.n _ (omega arith) c.loop-n.invariant.2 c.reduced.ensures,
)

pub returns : goal.returns
returns c =
    let rows = c.finish_rows-rows.result in
    let inv = c.loop-n.invariant in
    let entries = reduced_entry _ _ _ _ c.requires.0 c.requires.2 refl c.requires.3 rows c.finish_rows-rows.ensures in
    is-flat _ _ inv.1 (λ n l. inv.2 n (omega arith) ∙ entries n)
