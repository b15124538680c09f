-- `past` meets its contract: its test is that of `same`.
use mathlib.Core.Path.{◌≡◌, sym, ap}
use mathlib.Core.Logic.{◌≢◌}
use mathlib.Core.List.{List, ◌∷◌}
use Prim.Native.Nat.{ℕ, ◌*◌}
use lib.ListN.{get_or, drop}
use Rattle.numbers.specs.Sums.{same}
use Rattle.numbers.proofs.Sums.{same_yes, same_no}
use Rattle.numbers.proofs.factors.past.Goals as goal

past_yes : (f w x : ℕ) (xs rest : List ℕ) → xs ≡ x ∷ rest → f * x ≡ w → rest ≡ drop (same (f * get_or xs 0 0) w) xs
past_yes f w x xs rest e t = rw e (ap (λ (k : ℕ). drop k (x ∷ rest)) (sym (same_yes (f * x) w t)))

past_no : (f w x : ℕ) (xs rest : List ℕ) → xs ≡ x ∷ rest → f * x ≢ w → xs ≡ drop (same (f * get_or xs 0 0) w) xs
past_no f w x xs rest e t = rw e (ap (λ (k : ℕ). drop k (x ∷ rest)) (sym (same_no (f * x) w t)))

pub returns-then-f-first : goal.returns-then-f-first
returns-then-f-first c = past_yes _ _ _ _ _ c.in-Some.ensures.cases.0 c.if-f-first.true

pub returns-else-f-first : goal.returns-else-f-first
returns-else-f-first c = past_no _ _ _ _ _ c.in-Some.ensures.cases.0 c.if-f-first.false
