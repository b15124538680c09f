-- `questions::is_inside` meets its contract. Assumes nothing.
use mathlib.Core.Path.{sym}
use borrow.Author.Tests.{tests, ne_eqb}
use Rattle.std.proofs.Common.{rules}
use Rattle.std.proofs.lemmas.Iterator.{YieldsList-from_slice, YieldsList-from_zip, cases_from_all}
use Rattle.questions.proofs.Inside.{Below, NotBelow, inside_decided, outside_by-length}
use Rattle.questions.proofs.is_inside.Goals as goal

pub returns-then-position-cuts : goal.returns-then-position-cuts
returns-then-position-cuts c =
    inside_decided _ _ _ c.if-position-cuts.true
    (cases_from_all c.all.new.self _ _ Below NotBelow c.all.ensures.ran (YieldsList-from_zip (YieldsList-from_slice c.args.position.now cc) (YieldsList-from_slice c.args.cuts.now cc)) (λ x q k. search (rules, tests)) (λ x q k. search (rules, tests)))

pub returns-else-position-cuts : goal.returns-else-position-cuts
returns-else-position-cuts c = rw (ne_eqb _ _ c.if-position-cuts.false) (sym (outside_by-length _ _ c.if-position-cuts.false))
