-- What an answer says in document 01's terms ("Where each call turns back"): "a refusal carries its number and a place (0 unless named)".
use Rattle.std.specs.Prelude.{◌≡◌, ℕ, Option, None, Some, Result, Ok, Err}
use Rattle.std.proofs.Math.Option as maths
use Rattle.multipartition.specs.Answers.{Answer, answered, refused, held_by}
use Rattle.refusals.specs.declared.Refusal.{Refusal}
use Rattle.refusals.specs.declared.Refusal.TheVariants as R

-- its number in the table; document 02 has the lines 11 (request b), 12 (c), 13 (g) and 14 (h)
abbrev pub number_of : Refusal → ℕ
number_of R.Dimensions = 1
number_of R.Processors = 2
number_of R.Lengths = 3
number_of (R.Extent dimension) = 4
number_of R.NoCuts = 5
number_of R.Shape = 6
number_of R.Dimension = 7
number_of R.Range = 8
number_of R.Room = 9
number_of (R.Text place) = 10
number_of R.Sweep = 11
number_of R.Unsuited = 12
number_of (R.Thickness dimension) = 13
number_of (R.Falls place) = 14

-- its place, "0 unless named"
abbrev pub place_of : Refusal → ℕ
place_of R.Dimensions = 0
place_of R.Processors = 0
place_of R.Lengths = 0
place_of (R.Extent dimension) = dimension
place_of R.NoCuts = 0
place_of R.Shape = 0
place_of R.Dimension = 0
place_of R.Range = 0
place_of R.Room = 0
place_of (R.Text place) = place
place_of R.Sweep = 0
place_of R.Unsuited = 0
place_of (R.Thickness dimension) = dimension
place_of (R.Falls place) = place

-- the refusal in an answer
abbrev pub turned_back : {A : Type 0} → Refusal → Answer A
turned_back r = refused (number_of r) (place_of r)

-- what a result says, a value or a refusal with its number and place
abbrev pub told : {A : Type 0} → Result A Refusal → Answer A
told (Ok value) = answered value
told (Err r) = turned_back r

-- the same where the value stands for another
abbrev pub told_by : {V A : Type 0} → (V → A) → Result V Refusal → Answer A
told_by f (Ok value) = answered (f value)
told_by f (Err r) = turned_back r

-- an option, as the definitions have it
abbrev pub maybe : {A : Type 0} → Option A → maths.Option A
maybe None = maths.none
maybe (Some value) = maths.some value

-- a call that fills lent lists and answers so: `lent` is what they held before it, and `lists` what they hold now
pub record Answers {A U : Type 0} (answer : Answer A) (result : Result U Refusal) (lent lists : A) : Type 0 where
  pub told : told_by (λ _. lists) result ≡ answer
  pub held : lists ≡ held_by answer lent
