-- What the printing calls answer in document 01's terms, together with the lent list.
use Rattle.std.specs.Prelude.{Result, ◌≡◌, List, [], ◌∷◌, ◌++◌, ℕ, ltb, length, drop}
use Rattle.multipartition.specs.Answers.{Answer, answered, refused, Check, checked}
use Rattle.multipartition.specs.Plans.{Layout}
use Rattle.multipartition.specs.Questions.{shape_check}
use Rattle.plan_text.specs.PlanText.{plan_text}
use Rattle.refusals.specs.declared.Refusal.{Refusal}
use Rattle.refusals.specs.Told as refusals

-- a list of fewer places than the text has bytes is a 9
abbrev pub room_check : List ℕ → ℕ → Check
room_check text places = record { fails = ltb places (length text); number = 9; place = 0 }

-- a text, for a lent list of so many places
unfoldable pub text_answer : List ℕ → ℕ → Answer (List ℕ)
text_answer text places = checked (room_check text places ∷ []) (answered text)

-- a plan, whoever made it: out of shape it is a 6
unfoldable pub print_answer : Layout → ℕ → Answer (List ℕ)
print_answer plan places = checked (shape_check plan ∷ []) (text_answer (plan_text plan) places)

-- how many bytes the text of an answer has, or its refusal
abbrev pub length_of : Answer (List ℕ) → Answer ℕ
length_of (answered text) = answered (length text)
length_of (refused number place) = refused number place

-- the list after a call: the text at its front, every other place as it was; in a refusal "lent lists keep their contents"
abbrev pub afterwards : Answer (List ℕ) → List ℕ → List ℕ
afterwards (answered text) lent = text ++ drop (length text) lent
afterwards (refused number place) lent = lent

-- a printing call that answers so, for a list that held `lent` and now holds `list`
pub record Hands (answer : Answer (List ℕ)) (printed : Result ℕ Refusal) (lent list : List ℕ) : Type 0 where
  pub told : refusals.told printed ≡ length_of answer
  pub held : list ≡ afterwards answer lent
