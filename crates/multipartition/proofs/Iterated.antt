-- What `iter().all(..)` answers, as a test of every place of a list.
use mathlib.Core.Path.{◌≡◌, refl, sym, ◌∙◌}
use mathlib.Core.Bool.{Bool, true, false}
use mathlib.Core.List.{List}
use Prim.Native.Nat.{ℕ, ◌<◌}
use native.Mathlib.Omega.{arith}
use lib.ListN.{length, get_or}
use Rattle.std.specs.Bool.{MatchBool}
use Rattle.std.specs.List.{AllWithin, HoldsAt}
use Rattle.multipartition.specs.Lists.{all_below}
use Rattle.multipartition.proofs.Tests.{all_below-true_iff, false-not-true}

pub all_below-iterated : (xs : List ℕ) (n : ℕ) (test holds : ℕ → Bool) (r : Bool) → length xs ≡ n
    → ((k : ℕ) → k < n → test k ≡ holds (get_or xs k 0))
    → MatchBool r (AllWithin (λ x. holds x ≡ true) xs 0 (length xs)) ((k : ℕ) × (k < length xs) × HoldsAt (λ x. holds x ≡ false) xs k)
    → r ≡ all_below n test
all_below-iterated xs n test holds true e same all =
    sym ((all_below-true_iff n test).1 (λ k l. same k l ∙ all k 0 (omega arith) (omega (arith, e))))
all_below-iterated xs n test holds false e same some = go (all_below n test) refl
  where
    go : (b : Bool) → all_below n test ≡ b → false ≡ b
    go false h = refl
    go true h =
        let within : some.0 < n = omega (arith, e, some.1) in
        absurd (false-not-true (sym (some.2 0) ∙ sym (same some.0 within) ∙ (all_below-true_iff n test).0 h some.0 within))
