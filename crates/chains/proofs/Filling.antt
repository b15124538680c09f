-- Places that are stored one after the other.
use mathlib.Core.Path.{◌≡◌}
use mathlib.Core.List.{List}
use mathlib.Core.Logic.{⊎_elim}
use Prim.Native.Nat.{ℕ, ◌+◌, ◌<◌, ◌≤◌}
use native.Mathlib.Nat.{eq-or-lt_of_le}
use native.Mathlib.Omega.{arith}
use borrow.Rule.Slice.PartMut.{put_mid}
use Rattle.std.proofs.lemmas.Grind.{elements}
use lib.ListN.{length, get_or, set}
use lib.Seq.{get_or-set_same, get_or-set_other}

-- what holds of the places below i, and of what is stored at i, holds of the places below i + 1
pub places_more : (P : ℕ → ℕ → Type 0) (xs : List ℕ) (i x : ℕ) → i < length xs → ((j : ℕ) → j < i → P j (get_or xs j 0)) → P i x
    → (j : ℕ) → j < i + 1 → P j (get_or (set xs i x) j 0)
places_more P xs i x l h new j m =
    let upto : j ≤ i = omega arith in
    ⊎_elim
    (λ (same : j ≡ i). rw (same, get_or-set_same xs i x 0 l) new)
    (λ (below : j < i). rw (get_or-set_other xs i j x 0 (λ same. absurd (omega arith))) (h j below))
    (eq-or-lt_of_le upto)

-- a list in which ys stand in the place of k numbers from place a on: one of ys, and one of the others
pub put_inside : (a k : ℕ) (xs ys : List ℕ) (r : ℕ) → a ≤ length xs → r < length ys → get_or (put_mid a k xs ys) (a + r) 0 ≡ get_or ys r 0
put_inside a k xs ys r l m = grind (arith, elements)

pub put_before : (a k : ℕ) (xs ys : List ℕ) (i : ℕ) → a ≤ length xs → i < a → get_or (put_mid a k xs ys) i 0 ≡ get_or xs i 0
put_before a k xs ys i l m = grind (arith, elements)

pub put_after : (a k : ℕ) (xs ys : List ℕ) (i : ℕ) → a + k ≤ length xs → length ys ≡ k → a + k ≤ i → get_or (put_mid a k xs ys) i 0 ≡ get_or xs i 0
put_after a k xs ys i l e m = grind (arith, elements)
