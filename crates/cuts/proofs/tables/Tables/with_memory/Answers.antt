-- `Tables::with_memory` meets its contract.
use native.Mathlib.Omega.{arith}
use Rattle.cuts.proofs.Chosen.{served}
use Rattle.cuts.proofs.tables.Tables.with_memory.Goals as goal

pub set_places-requires : goal.set_places-requires
set_places-requires c = ((served c.args.self.now).0, omega arith)

pub set_shared-requires : goal.set_shared-requires
set_shared-requires c = ((served c.args.self.now).0, c.set_places.ensures)
