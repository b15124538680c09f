-- `cuts::search::none_left` meets its contract.
use mathlib.Core.Path.{refl}
use Rattle.cuts.proofs.Tried.{none_open, none_closed}
use Rattle.cuts.proofs.search.none_left.Goals as goal

pub returns-then-spare-each-eq1 : goal.returns-then-spare-each-eq1
returns-then-spare-each-eq1 c = none_open c.args.spare c.args.each c.if-spare-each-eq1.true

pub returns : goal.returns
returns c = none_closed c.args.spare c.args.each _ refl c.if-spare-each-eq1.false
