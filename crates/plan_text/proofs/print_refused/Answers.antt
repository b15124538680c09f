-- `plan_text::print_refused` meets its contract: its own list has room for every refusal.
use native.Mathlib.Omega.{arith}
use borrow.Author.Rules.{rules}
use lib.ListN.{length}
use Rattle.plan_text.proofs.Lengths.{length-refused_text}
use Rattle.plan_text.proofs.Handing.{hands_made}
use Rattle.plan_text.proofs.print_refused.Goals as goal

pub returns : goal.returns
returns c =
    let fits = c.ranges in
    hands_made (length c.args.out.now) c.new-text.ensures c.put_refused.ensures
    (length-refused_text 19 c.args.number c.args.place (omega (arith, fits.number)) (omega (arith, fits.place)))
    (search rules)
    c.hand_over.ensures
