-- `walks::to_add` meets its contract. Assumes nothing.
use Rattle.walks.proofs.to_add.Goals as goal

pub returns : goal.returns
returns c = rw c.if-up.false c.modulo.ensures
