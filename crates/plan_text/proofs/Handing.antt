-- A text at the front of a lent list, by the room that the list has; a plan's, by its shape.
use Rattle.std.specs.Prelude.{◌≡◌, true, ℕ, ◌≤◌, ◌<◌, Result, Ok, Err, List, [], ◌∷◌, ◌++◌, length, take, drop}
use mathlib.Core.Path.{sym, ap, ◌∙◌, subst}
use borrow.Author.Tests.{lt-ltb, le-ltb}
use Rattle.std.specs.Borrow.{MutBor}
use Rattle.numerals.specs.declared.Output.{Output}
use Rattle.numerals.specs.Puts.{Puts, Starts}
use Rattle.numerals.proofs.Puts.{puts_front}
use Rattle.multipartition.specs.Answers.{Answer, answered}
use Rattle.multipartition.specs.Plans.{Layout, in_shape}
use Rattle.multipartition.specs.Questions.{shape_check}
use Rattle.refusals.specs.declared.Refusal.{Refusal}
use Rattle.refusals.specs.declared.Refusal.TheVariants as R
use Rattle.refusals.specs.Told.{turned_back}
use Rattle.refusals.proofs.Laws.{turned_back-on, passed-on}
use Rattle.layout.specs.declared.Plan.{Plan}
use Rattle.layout.specs.Plans.{layout_of}
use Rattle.layout.specs.Checked.{shape_answer}
use Rattle.plan_text.specs.PlanText.{plan_text}
use Rattle.plan_text.specs.Told.{text_answer, print_answer, length_of, afterwards, Hands}

pub text_too_long : (text : List ℕ) (places : ℕ) → places < length text → text_answer text places ≡ turned_back R.Room
unfolding text_answer
text_too_long text places h = rw (lt-ltb places (length text) h)

pub text_fits : (text : List ℕ) (places : ℕ) → length text ≤ places → text_answer text places ≡ answered text
unfolding text_answer
text_fits text places h = rw (le-ltb places (length text) h)

-- a plan in shape
pub print-in_shape : (plan : Layout) (places : ℕ) → in_shape plan ≡ true → print_answer plan places ≡ text_answer (plan_text plan) places
unfolding print_answer
print-in_shape plan places e = rw e

-- a plan that the shape check turns back, and one that it passes
pub print_turned_back : (plan : Plan) (places : ℕ) (r : Refusal) → turned_back r ≡ shape_answer plan → print_answer (layout_of plan) places ≡ turned_back r
unfolding print_answer
print_turned_back plan places r e = sym (turned_back-on (shape_check (layout_of plan) ∷ []) [] plan (text_answer (plan_text (layout_of plan)) places) e)

pub print_passed : (plan shaped : Plan) (places : ℕ) → answered shaped ≡ shape_answer plan
    → (shaped ≡ plan) × (print_answer (layout_of plan) places ≡ text_answer (plan_text (layout_of plan)) places)
unfolding print_answer
print_passed plan shaped places e = passed-on (shape_check (layout_of plan) ∷ []) [] plan shaped (text_answer (plan_text (layout_of plan)) places) e

-- a call that turns back and writes nothing
pub hands_refused : {lent : List ℕ} {answer : Answer (List ℕ)} (r : Refusal) → answer ≡ turned_back r → Hands answer (Err r) lent lent
hands_refused {lent} {answer} r e =
    record { told = sym (ap length_of e); held = sym (ap (λ (a : Answer (List ℕ)). afterwards a lent) e) }

-- a call that copies the text to the front of a list with room for it
pub hands_text : (text : List ℕ) {lent list : List ℕ} → length text ≤ length lent → list ≡ text ++ drop (length text) lent
    → Hands (text_answer text (length lent)) (Ok (length text)) lent list
hands_text text {lent} {list} h e =
    record { told = rw (text_fits text (length lent) h); held = rw (text_fits text (length lent) h) e }

-- a text that was made in a list with room for it, and handed over from there
pub hands_made : {own : MutBor (List ℕ)} {text made lent list : List ℕ} {start end : Output} {printed : Result ℕ Refusal} (places : ℕ)
    → Starts own start → Puts start text end → length text ≤ length own.now → made ≡ end.list.now
    → Hands (text_answer (take end.at made) places) printed lent list → Hands (text_answer text places) printed lent list
hands_made {own} {text} {made} {lent} {list} {start} {end} {printed} places s p room e h =
    subst (λ (t : List ℕ). Hands (text_answer t places) printed lent list) (ap (take end.at) e ∙ puts_front s p room) h
