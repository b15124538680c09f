use mathlib.Core.Path.{◌≡◌}
use Rattle.questions.proofs.Fronts.{owner_front}
use Rattle.questions.proofs.reduced.Owners.owner.Given as goal

abbrev pub invariant-loop-i : goal.invariant-loop-i
invariant-loop-i l = l.number ≡ owner_front l.self.d l.self.moduli.now l.self.matrix.now l.position l.i
