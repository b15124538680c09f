-- What a call answers (document 01, "Where each call turns back").
use Rattle.std.specs.Prelude.{Bool, cond, List, [], ◌∷◌, ℕ}

-- an answer, or "a refusal carries its number and a place"
pub data Answer (A : Type 0) : Type 0 where
  answered : A → Answer A
  refused : (number place : ℕ) → Answer A

-- a line of the table: whether it turns the call down, its number, and the place that goes with it ("0 unless named")
pub record Check : Type 0 where
  pub fails : Bool
  pub number : ℕ
  pub place : ℕ

-- "the rest in table order; the first that applies is given"
abbrev pub checked : {A : Type 0} → List Check → Answer A → Answer A
checked [] answer = answer
checked (c ∷ checks) answer = cond c.fails (refused c.number c.place) (checked checks answer)

-- what lent lists hold after a call: those that it answers; in a refusal "lent lists keep their contents"
abbrev pub held_by : {A : Type 0} → Answer A → A → A
held_by (answered lists) lent = lists
held_by (refused number place) lent = lent
