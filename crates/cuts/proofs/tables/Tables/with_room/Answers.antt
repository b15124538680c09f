-- `Tables::with_room` meets its contract: a list of unknowns remembers nothing yet.
use native.Mathlib.Omega.{arith}
use Rattle.cuts.proofs.Memory.{remembers_unknown}
use Rattle.cuts.proofs.Chosen.{served}
use Rattle.cuts.proofs.tables.Tables.with_room.Goals as goal

pub whole_as_slice-chosen_cuts : goal.whole_as_slice-chosen_cuts
whole_as_slice-chosen_cuts g c = omega arith

pub chosen_cuts-requires : goal.chosen_cuts-requires
chosen_cuts-requires g c =
    let t = c.args.self.now in
    remembers_unknown t.most.now t.weights.now t.divisors.now t.places.now _ (served t).0 c.requires.1
