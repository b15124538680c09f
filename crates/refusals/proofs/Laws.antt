-- Laws of answers by checks: what a call answers that passes on the refusal of another, or goes on after its checks.
use Rattle.std.specs.Prelude.{◌≡◌, refl, Bool, true, false, cond, List, [], ◌∷◌, ◌++◌, ℕ, Result, Ok, Err}
use mathlib.Core.Path.{ap, sym}
use native.Mathlib.Omega.{arith}
use Rattle.multipartition.specs.Answers.{Answer, answered, refused, Check, checked}
use Rattle.refusals.specs.declared.Refusal.{Refusal}
use Rattle.refusals.specs.Told.{turned_back, told, told_by}

-- whether it is a refusal, and its number and place
is_refused : {A : Type 0} → Answer A → ℕ
is_refused (answered a) = 0
is_refused (refused number place) = 1

number_in : {A : Type 0} → Answer A → ℕ
number_in (answered a) = 0
number_in (refused number place) = number

place_in : {A : Type 0} → Answer A → ℕ
place_in (answered a) = 0
place_in (refused number place) = place

value_in : {A : Type 0} → A → Answer A → A
value_in other (answered a) = a
value_in other (refused number place) = other

pub answered-ne-refused : {A : Type 0} {a : A} {number place : ℕ} → answered a ≡ refused number place → ⊥
unfolding is_refused
answered-ne-refused e = let clash : ◌≡◌ {A = ℕ} 0 1 = ap is_refused e in omega (arith, clash)

-- a refusal of one call as that of another
pub refused-as : {A B : Type 0} {m n k l : ℕ} → ◌≡◌ {A = Answer A} (refused m k) (refused n l) → ◌≡◌ {A = Answer B} (refused m k) (refused n l)
unfolding number_in place_in
refused-as {A} {B} {m} {n} {k} {l} e =
    let number : m ≡ n = ap number_in e in
    let place : k ≡ l = ap place_in e in
    rw (number, place) refl

pub answered-is : {A : Type 0} {a b : A} → answered a ≡ answered b → a ≡ b
unfolding value_in
answered-is {A} {a} {b} e = ap (value_in a) e

-- the checks that turn a call back turn back every call that begins with them
pub turned_back-on : {A B : Type 0} (cs ds : List Check) (a : A) (b : Answer B) {m k : ℕ}
    → refused m k ≡ checked cs (answered a) → refused m k ≡ checked (cs ++ ds) b
turned_back-on [] ds a b e = absurd (answered-ne-refused (sym e))
turned_back-on {A} {B} (c ∷ cs) ds a b {m} {k} e = go (turned_back-on cs ds a b) c.fails e
  where
    go : (refused m k ≡ checked cs (answered a) → refused m k ≡ checked (cs ++ ds) b)
        → (f : Bool) → refused m k ≡ cond f (refused c.number c.place) (checked cs (answered a))
        → refused m k ≡ cond f (refused c.number c.place) (checked (cs ++ ds) b)
    go next true h = refused-as h
    go next false h = next h

-- a call that answers has passed its checks: a call that begins with them goes on to its others
pub passed-on : {A B : Type 0} (cs ds : List Check) (a v : A) (b : Answer B)
    → answered v ≡ checked cs (answered a) → (v ≡ a) × (checked (cs ++ ds) b ≡ checked ds b)
passed-on [] ds a v b e = (answered-is e, refl)
passed-on {A} {B} (c ∷ cs) ds a v b e = go (passed-on cs ds a v b) c.fails e
  where
    go : (answered v ≡ checked cs (answered a) → (v ≡ a) × (checked (cs ++ ds) b ≡ checked ds b))
        → (f : Bool) → answered v ≡ cond f (refused c.number c.place) (checked cs (answered a))
        → (v ≡ a) × (cond f (refused c.number c.place) (checked (cs ++ ds) b) ≡ checked ds b)
    go next true h = absurd (answered-ne-refused h)
    go next false h = next h
