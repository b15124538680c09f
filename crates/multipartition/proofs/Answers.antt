-- What a list of checks does to an answer: if all pass, it leaves the answer; else it answers with the first that fails.
use mathlib.Core.Path.{◌≡◌, refl, ap, ◌∙◌}
use mathlib.Core.Logic.{◌⊎◌, inl, inr, ◌↔◌}
use mathlib.Core.Bool.{true, false}
use mathlib.Core.List.{List, [], ◌∷◌}
use Prim.Native.Nat.{ℕ, ◌≤◌, ◌<◌}
use native.Mathlib.Omega.{arith}
use Rattle.multipartition.specs.Answers.{Answer, answered, refused, Check, checked}
use Rattle.multipartition.proofs.Tests.{by_cond}

-- no check fails
abbrev pub AllPass : List Check → Type 0
AllPass [] = Unit {0}
AllPass (c ∷ checks) = (c.fails ≡ false) × AllPass checks

-- the number and the place of the first check that fails
abbrev pub FirstFails : List Check → ℕ → ℕ → Type 0
FirstFails [] number place = ⊥
FirstFails (c ∷ checks) number place =
    ((c.fails ≡ true) × (c.number ≡ number) × (c.place ≡ place)) ⊎ ((c.fails ≡ false) × FirstFails checks number place)

-- no check has this number
abbrev pub NoneHas : ℕ → List Check → Type 0
NoneHas number [] = Unit {0}
NoneHas number (c ∷ checks) = (c.number ≡ number → ⊥) × NoneHas number checks

-- numbers from 1 to 99, and places up to `most`
abbrev pub Small : {A : Type 0} → ℕ → Answer A → Type 0
Small most (answered a) = Unit {0}
Small most (refused number place) = (1 ≤ number) × (number < 100) × (place ≤ most)

abbrev pub AllSmall : ℕ → List Check → Type 0
AllSmall most [] = Unit {0}
AllSmall most (c ∷ checks) = ((1 ≤ c.number) × (c.number < 100) × (c.place ≤ most)) × AllSmall most checks

module _ {A : Type 0} where
  pub checked_passed : (checks : List Check) (answer : Answer A) → AllPass checks → checked checks answer ≡ answer
  checked_passed [] answer h = refl
  checked_passed (c ∷ checks) answer h = rw h.0 (checked_passed checks answer h.1)

  pub checked_refused : (checks : List Check) (answer : Answer A) (number place : ℕ) → FirstFails checks number place
      → checked checks answer ≡ refused number place
  checked_refused [] answer number place h = absurd h
  checked_refused (c ∷ checks) answer number place (inl h) = rw (h.0, h.1, h.2)
  checked_refused (c ∷ checks) answer number place (inr h) = rw h.0 (checked_refused checks answer number place h.1)

  answered_passed : (checks : List Check) (answer : Answer A) (a : A) → checked checks answer ≡ answered a → AllPass checks × (answer ≡ answered a)
  answered_passed [] answer a = λ e. (tt, e)
  answered_passed (c ∷ checks) answer a =
      by_cond (λ (z : Answer A). z ≡ answered a → ((c.fails ≡ false) × AllPass checks) × (answer ≡ answered a))
      c.fails (refused c.number c.place) (checked checks answer)
      (λ f e. let clash : ◌≡◌ {A = ℕ} 0 1 = cc in absurd (omega arith))
      (λ f e. let later = answered_passed checks answer a e in ((f, later.0), later.1))

  pub checked_answered : (checks : List Check) (answer : Answer A) (a : A)
      → (checked checks answer ≡ answered a) ↔ (AllPass checks × (answer ≡ answered a))
  checked_answered checks answer a = (answered_passed checks answer a, λ h. checked_passed checks answer h.0 ∙ h.1)

  -- a refusal by a number that no check has comes from the answer behind them
  pub checked_refused_behind : (checks : List Check) (answer : Answer A) (number place : ℕ) → NoneHas number checks
      → checked checks answer ≡ refused number place → AllPass checks × (answer ≡ refused number place)
  checked_refused_behind [] answer number place others = λ e. (tt, e)
  checked_refused_behind (c ∷ checks) answer number place others =
      by_cond (λ (z : Answer A). z ≡ refused number place → ((c.fails ≡ false) × AllPass checks) × (answer ≡ refused number place))
      c.fails (refused c.number c.place) (checked checks answer)
      (λ f e. let same : c.number ≡ number = cc in absurd (others.0 same))
      (λ f e. let later = checked_refused_behind checks answer number place others.1 e in ((f, later.0), later.1))

  pub checked_small : (most : ℕ) (checks : List Check) (answer : Answer A) → AllSmall most checks → Small most answer → Small most (checked checks answer)
  checked_small most [] answer hs h = h
  checked_small most (c ∷ checks) answer hs h =
      by_cond (Small most) c.fails (refused c.number c.place) (checked checks answer) (λ e. hs.0) (λ e. checked_small most checks answer hs.1 h)

  pub answered_injective : (a b : A) → answered a ≡ answered b → a ≡ b
  answered_injective a b e = cc

  -- a call that answers where all checks pass
  pub answers_iff : (checks : List Check) (a b : A) → (checked checks (answered a) ≡ answered b) ↔ (AllPass checks × (a ≡ b))
  answers_iff checks a b = (
    (λ e. let h = (checked_answered checks (answered a) b).0 e in (h.0, answered_injective a b h.1)),
    λ h. (checked_answered checks (answered a) b).1 (h.0, ap answered h.1),
  )
