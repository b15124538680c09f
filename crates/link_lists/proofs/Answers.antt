-- What a call returns, from its answer. A place over the link has 32 bits; of the answers of the calls only that of a probe line may have a larger one.
use mathlib.Core.Path.{◌≡◌, refl, ap, ◌∙◌}
use mathlib.Core.Bool.{Bool, cond}
use mathlib.Core.List.{List}
use Prim.Native.Nat.{ℕ, ◌≤◌}
use native.Mathlib.Omega.{arith}
use lib.Dec.{lit≤}
use Rattle.std.specs.Prelude.{Result, Ok, Err, min}
use Rattle.multipartition.specs.Answers.{Answer, answered, refused, held_by}
use Rattle.multipartition.proofs.Tests.{by_cond}
use Rattle.refusals.specs.declared.Refusal.{Refusal}
use Rattle.refusals.specs.Told.{told, told_by, Answers}
use Rattle.link_lists.specs.Lists.{into, code_of, place_in32, Linked}

-- ---- places of 32 bits

abbrev pub place_told : {A : Type 0} → Answer A → ℕ
place_told (answered a) = 0
place_told (refused number place) = place

pub record Fits {A : Type 0} (answer : Answer A) : Type 0 where
  pub small : place_told answer ≤ 4294967295

pub fits_answered : {A : Type 0} (a : A) → Fits (answered a)
fits_answered a = record { small = lit≤ tt }

pub fits_refused : {A : Type 0} (number place : ℕ) → place ≤ 4294967295 → Fits {A = A} (refused number place)
fits_refused number place small = record { small = small }

-- a check that names no place
pub fits_past : {A : Type 0} (fails : Bool) (number : ℕ) (answer : Answer A) → Fits answer → Fits (cond fails (refused number 0) answer)
fits_past fails number answer fits = by_cond Fits fails (refused number 0) answer (λ e. record { small = lit≤ tt }) (λ e. fits)

pub fits_into : (places : ℕ) (numbers : List ℕ) → Fits (into places numbers)
fits_into places numbers = fits_past _ _ _ (fits_answered numbers)

fit-kept : {A : Type 0} (answer : Answer A) → Fits answer → code_of (place_in32 answer) ≡ code_of answer
fit-kept (answered a) fits = refl
fit-kept (refused number place) fits = let same : min place 4294967295 ≡ place = omega (arith, fits.small) in rw same

-- ---- what a call returns

module _ {A : Type 0} (answer : Answer A) (result : Result (Unit {0}) Refusal) (lent lists : A) (code : ℕ)
    (answers : Answers answer result lent lists) (returned : code ≡ code_of (place_in32 (told result))) where
  told_code : code ≡ code_of (place_in32 answer)
  told_code = returned ∙ same result ∙ ap (λ (a : Answer A). code_of (place_in32 a)) answers.told
    where
      same : (r : Result (Unit {0}) Refusal) → code_of (place_in32 (told r)) ≡ code_of (place_in32 (told_by (λ _. lists) r))
      same (Ok value) = refl
      same (Err r) = refl

  pub linked : Fits answer → Linked answer lent code lists
  linked fits = record { returned = told_code ∙ fit-kept answer fits; held = answers.held }

  -- with the place cut to 32 bits
  pub linked-cut : Linked (place_in32 answer) lent code lists
  linked-cut = record { returned = told_code; held = answers.held ∙ same answer }
    where
      same : (a : Answer A) → held_by a lent ≡ held_by (place_in32 a) lent
      same (answered lists) = refl
      same (refused number place) = refl
