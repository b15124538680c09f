-- `slab_line` meets its contract.
use mathlib.Core.Path.{refl}
use native.Mathlib.Omega.{arith}
use borrow.Author.Rules.{rules}
use Rattle.sheet.proofs.Fields.{Narrow, narrow, slab_line_is}
use Rattle.sheet.proofs.slab_line.Goals as goal
use Rattle.sheet.proofs.slab_line.Goals.{Start}

-- every number has a place in its field
digits : (s : Start) → Narrow s.args.slab s.args.first s.args.after s.args.share
digits s = narrow _ _ _ _ s.requires.0 s.requires.1 s.requires.2 s.requires.3

pub put_right-requires : goal.put_right-requires
put_right-requires c = (refl, omega arith, (digits (goal.at.put_right-requires c).Start).slab_digits)

pub put_right-requires-2 : goal.put_right-requires-2
put_right-requires-2 c = (search rules, omega arith, omega (arith, (digits (goal.at.put_right-requires-2 c).Start).first_digits))

pub put_right-requires-3 : goal.put_right-requires-3
put_right-requires-3 c = (search rules, omega arith, omega (arith, (digits (goal.at.put_right-requires-3 c).Start).after_digits))

pub put_right-requires-4 : goal.put_right-requires-4
put_right-requires-4 c = (search rules, omega arith, omega (arith, (digits (goal.at.put_right-requires-4 c).Start).share_digits))

pub returns : goal.returns
returns c =
    slab_line_is _ _ _ _ _ (digits (goal.at.returns c).Start) _ _ _ _ _
    c.put_right.ensures
    c.put_right-2.ensures
    c.put_right-3.ensures
    c.put_right-4.ensures
    c.put_caption.ensures
