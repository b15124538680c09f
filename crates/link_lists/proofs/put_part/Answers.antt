-- `link_lists::put_part` meets its contract. Assumes nothing.
use mathlib.Core.Path.{refl, sym, ap, ◌∙◌}
use native.Mathlib.Omega.{arith}
use lib.ListN.{length}
use lib.Seq.{take-length, sets-eq, length-sets}
use Rattle.std.proofs.lemmas.Slice.{put_mid-paste}
use Rattle.link_lists.proofs.put_part.Goals as goal

pub returns : goal.returns
returns c =
    let a = c.args in
    let stored = put_mid-paste a.at _ a.list.now _ a.part.now (length a.part.now) c.copy_from_slice.ensures.after (omega arith) refl
    ∙ rw (take-length a.part.now) (sym (sets-eq a.part.now a.list.now a.at (omega arith))) in
    (stored, ap length stored ∙ length-sets a.list.now a.at a.part.now)
