-- What the two questions read of a plan.
use Rattle.std.specs.Prelude.{◌≡◌}
use Rattle.layout.specs.declared.Plan.{Plan}
use Rattle.questions.specs.declared.reduced.Owners.{Owners}

-- the moduli and the matrix of this plan
pub record Asks (plan : Plan) (owners : Owners) : Type 0 where
  pub d_is : owners.d ≡ plan.d
  pub moduli_are : owners.moduli.now ≡ plan.moduli
  pub matrix_are : owners.matrix.now ≡ plan.matrix
