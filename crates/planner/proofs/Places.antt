-- The first number that fails a test, as `position` finds it, and what a line of the table tells of it.
use mathlib.Core.Path.{◌≡◌, refl, sym, ap, ◌∙◌}
use mathlib.Core.Bool.{Bool, true, false, cond, not}
use mathlib.Core.List.{List, [], ◌∷◌}
use Prim.Native.Nat.{ℕ, zero, suc, ◌+◌, ◌≤◌}
use native.Mathlib.Numerals.{add-one}
use native.Mathlib.Omega.{arith}
use borrow.Author.Tests.{le-leb, ne_eqb}
use lib.Dec.{leb, eqb}
use Rattle.std.specs.Prelude.{Option, None, Some}
use Rattle.std.specs.List.{position, position_from}
use Rattle.std.proofs.lemmas.Iterator.Adapters.{position_from-zero}
use Rattle.std.proofs.lemmas.Option.{none-some, same_Some}
use Rattle.multipartition.specs.Answers.{Answer, answered, refused}
use Rattle.multipartition.specs.Lists.{first_failing}

-- the place, counted from 0, of a dimension that is counted from 1, where 0 stands for none
place_in : ℕ → Option ℕ
place_in zero = None
place_in (suc k) = Some k

placed : (n k : ℕ) → Some k ≡ place_in n → n ≡ suc k
unfolding place_in
placed zero k e = absurd (none-some k (sym e))
placed (suc n) k e = ap suc (same_Some n k (sym e))

none_placed : (n : ℕ) → None ≡ place_in n → n ≡ 0
unfolding place_in
none_placed zero e = refl
none_placed (suc n) e = absurd (none-some n e)

module _ (test fails : ℕ → Bool) (against : (n : ℕ) → fails n ≡ not (test n)) where
  from_place : (i : ℕ) (xs : List ℕ) → position_from fails i xs ≡ place_in (first_failing test (suc i) xs)
  unfolding first_failing place_in
  from_place i [] = refl
  from_place i (x ∷ xs) = rw against (go (test x) (from_place (suc i) xs))
    where
      go : (t : Bool) → position_from fails (suc i) xs ≡ place_in (first_failing test (suc (suc i)) xs)
          → cond (not t) (Some i) (position_from fails (i + 1) xs) ≡ place_in (cond t (first_failing test (suc (suc i)) xs) (suc i))
      go true later = rw add-one later
      go false later = refl

  module _ (xs : List ℕ) where
    found : position fails xs ≡ place_in (first_failing test 1 xs)
    found = position_from-zero fails xs ∙ from_place 0 xs

    -- the line that refuses the first such number
    pub some_fails : (number k : ℕ) → Some k ≡ position fails xs
        → ◌≡◌ {A = Answer (Unit {0})} (refused number (k + 1))
        (cond (not (eqb (first_failing test 1 xs) 0)) (refused number (first_failing test 1 xs)) (answered tt))
    some_fails number k e = rw (placed (first_failing test 1 xs) k (e ∙ found), add-one, ne_eqb (suc k) 0 (λ z. omega arith)) refl

    pub none_fails : (number : ℕ) → None ≡ position fails xs
        → ◌≡◌ {A = Answer (Unit {0})} (answered tt)
        (cond (not (eqb (first_failing test 1 xs) 0)) (refused number (first_failing test 1 xs)) (answered tt))
    none_fails number e = rw (none_placed (first_failing test 1 xs) (e ∙ found)) refl

-- the test of a thickness
pub is_zero : (n : ℕ) → eqb n 0 ≡ not (leb 1 n)
is_zero zero = refl
is_zero (suc n) =
    let low : 1 ≤ suc n = omega arith in
    rw (ne_eqb (suc n) 0 (λ e. omega arith), le-leb 1 (suc n) low) refl
