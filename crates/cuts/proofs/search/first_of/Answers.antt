-- `cuts::search::first_of` meets its contract.
use mathlib.Core.Path.{refl}
use Prim.Native.Nat.{◌-◌}
use lib.ListN.{length}
use Rattle.cuts.proofs.search.first_of.Goals as goal

pub returns : goal.returns
returns c = (refl, (c.type_inv.xs (length c.args.xs.now - c.args.left)).fits)
