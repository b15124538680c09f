-- `hypercube::gray` meets its contract. Assumes nothing.
use mathlib.Core.Path.{refl}
use Rattle.hypercube.specs.Hypercube.{gray}
use Rattle.hypercube.proofs.gray.Goals as goal

pub returns : goal.returns
unfolding gray
returns c = refl
