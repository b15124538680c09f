-- `link_lists::list_of` meets its contract. Assumes nothing.
use borrow.Author.Rules.{rules}
use mathlib.Core.Path.{refl}
use lib.ListN.{replicate}
use Rattle.layout.proofs.Places.{Arrays}
use Rattle.link_lists.proofs.Plans.{stored_parts}
use Rattle.link_lists.proofs.list_of.Goals as goal

pub returns : goal.returns
returns c =
    let arrays : Arrays c.args.plan = search rules in
    rw (
      c.put_part-9.ensures.0,
      c.put_part-8.ensures.0,
      c.put_part-7.ensures.0,
      c.put_part-6.ensures.0,
      c.put_part-5.ensures.0,
      c.put_part-4.ensures.0,
      c.put_part-3.ensures.0,
      c.put_part-2.ensures.0,
      c.put_part.ensures.0,
    )
    (stored_parts c.args.plan arrays (replicate 55 0) refl)
