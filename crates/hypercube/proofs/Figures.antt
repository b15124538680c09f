-- Figures of the hypercube layout, computed from the definitions.
use mathlib.Core.Path.{◌≡◌, refl}
use mathlib.Core.List.{List, [], ◌∷◌, map}
use Prim.Native.Nat.{ℕ}
use Rattle.multipartition.specs.Answers.{Answer, answered, refused}
use Rattle.multipartition.specs.Lists.{first_such}
use Rattle.multipartition.specs.Tiles.{is_inside}
use Rattle.hypercube.specs.Hypercube.{gray, hypercube_cuts, hypercube_owner, is_exponent, exponent_of, hypercube_answer}

pub record Question : Type 0 where
  pub p : ℕ
  pub position : List ℕ

abbrev pub answer_to : Question → Answer ℕ
answer_to question = hypercube_answer question.p question.position

abbrev pub questions : List Question
questions =
    record { p = 1; position = 0 ∷ 0 ∷ 0 ∷ [] }
    ∷ record { p = 4; position = 1 ∷ 0 ∷ 1 ∷ [] }
    ∷ record { p = 16; position = 3 ∷ 0 ∷ 2 ∷ [] }
    ∷ record { p = 16; position = 1 ∷ 2 ∷ 3 ∷ [] }
    ∷ record { p = 64; position = 5 ∷ 6 ∷ 7 ∷ [] }
    ∷ record { p = 4096; position = 63 ∷ 63 ∷ 63 ∷ [] }
    ∷ record { p = 4096; position = 0 ∷ 0 ∷ 63 ∷ [] }
    ∷ record { p = 0; position = [] }
    ∷ record { p = 16384; position = 0 ∷ 0 ∷ 0 ∷ [] }
    ∷ record { p = 8; position = 0 ∷ 0 ∷ 0 ∷ [] }
    ∷ record { p = 8; position = 0 ∷ 0 ∷ [] }
    ∷ record { p = 16; position = 4 ∷ 0 ∷ 0 ∷ [] }
    ∷ record { p = 16; position = 0 ∷ 0 ∷ [] }
    ∷ []

pub figures : map answer_to questions
    ≡ answered 0
    ∷ answered 2
    ∷ answered 13
    ∷ answered 4
    ∷ answered 62
    ∷ answered 2145
    ∷ answered 2080
    ∷ refused 2 0
    ∷ refused 2 0
    ∷ refused 12 0
    ∷ refused 12 0
    ∷ refused 8 0
    ∷ refused 8 0
    ∷ []
unfolding hypercube_answer exponent_of is_exponent first_such hypercube_cuts hypercube_owner gray is_inside
figures = refl
