-- The owner of a diagonal position, for every number of dimensions: coordinate i + 1 is the place in dimension i less the place in dimension d,
-- modulo s.
use mathlib.Core.Path.{◌≡◌, refl, sym, ap, ap₂, ◌∙◌}
use mathlib.Core.List.{List, [], ◌∷◌, ◌++◌}
use Prim.Native.Nat.{ℕ, zero, suc, ◌+◌, ◌-◌, ◌*◌, ◌%◌, ◌<◌}
use native.Mathlib.Nat.{mod-mod, mod-one, zero-add}
use native.Mathlib.Omega.{arith}
use lib.ListN.{length, get_or, replicate, length-append, get_or-append}
use lib.Seq.{get_or-append_seam}
use Rattle.numbers.specs.Sums.{same}
use Rattle.numbers.proofs.Congruence.{Congruent}
use Rattle.multipartition.specs.Lists.{list_of}
use Rattle.multipartition.specs.MixedRadix.{number_from}
use Rattle.multipartition.specs.Owners.{times, coordinates_at, owner_at}
use Rattle.multipartition.proofs.Coordinates.{dot, dot-add, dot-mul_left, dot-same, dot_congruent, times-list_of}
use Rattle.diagonal.specs.Diagonal.{diagonal_moduli, diagonal_row, diagonal_rows, diagonal_matrix, diagonal_owner}

-- row i + 2 times a position, modulo s
diagonal-times : (n s i : ℕ) (x : List ℕ) → length x ≡ suc n → Congruent s (times (diagonal_row (suc n) s (suc i)) x) (get_or x i 0 + (s - 1) * get_or x n 0)
unfolding diagonal_row
diagonal-times n s i x e =
    ap (λ (m : ℕ). m % s) (times-list_of 1 (suc n) (λ k. entry k % s) x e)
    ∙ dot_congruent s 1 (λ k. entry k % s) entry x (λ k. mod-mod (entry k) s)
    ∙ ap (λ (m : ℕ). m % s)
    (dot-add 1 (λ k. same k (suc i)) (λ k. (s - 1) * same k (suc n)) x
    ∙ ap₂ ◌+◌ (place i) (dot-mul_left 1 (s - 1) (λ k. same k (suc n)) x ∙ ap (λ (m : ℕ). (s - 1) * m) (place n)))
  where
    entry : ℕ → ℕ
    entry k = same k (suc i) + (s - 1) * same k (suc n)

    place : (j : ℕ) → dot 1 (λ k. same k (suc j)) x ≡ get_or x j 0
    place j = ap (λ (c : ℕ). dot 1 (λ k. same k c) x) (omega arith) ∙ dot-same 1 j x

-- the coordinates of m rows, by the places of the position
coordinates-rows : (n s j m : ℕ) (x : List ℕ) → length x ≡ suc n
    → coordinates_at (replicate m s) (diagonal_rows (suc n) s (suc j) m) x ≡ list_of j m (λ i. (get_or x i 0 + (s - 1) * get_or x n 0) % s)
unfolding coordinates_at diagonal_rows list_of
coordinates-rows n s j zero x e = refl
coordinates-rows n s j (suc m) x e = ap₂ ◌∷◌ (diagonal-times n s j x e) (coordinates-rows n s (suc j) m x e)

-- ---- a position as the places x in the dimensions before d, and z in dimension d

-- each number plus w, modulo s
unfoldable pub shifted : ℕ → ℕ → List ℕ → List ℕ
shifted s w [] = []
shifted s w (i ∷ x) = ((i + w) % s) ∷ shifted s w x

list_of_later : (a n : ℕ) (f : ℕ → ℕ) → list_of (suc a) n f ≡ list_of a n (λ i. f (suc i))
unfolding list_of
list_of_later a zero f = refl
list_of_later a (suc n) f = ap (λ (xs : List ℕ). f (suc a) ∷ xs) (list_of_later (suc a) n f)

list_of-ext : (a n : ℕ) (f g : ℕ → ℕ) → ((i : ℕ) → i < a + n → f i ≡ g i) → list_of a n f ≡ list_of a n g
unfolding list_of
list_of-ext a zero f g h = refl
list_of-ext a (suc n) f g h = ap₂ ◌∷◌ (h a (omega arith)) (list_of-ext (suc a) n f g (λ i l. h i (omega arith)))

shifted-list_of : (s w : ℕ) (x : List ℕ) → list_of 0 (length x) (λ i. (get_or x i 0 + w) % s) ≡ shifted s w x
unfolding list_of shifted
shifted-list_of s w [] = refl
shifted-list_of s w (i ∷ x) =
    ap (λ (xs : List ℕ). ((i + w) % s) ∷ xs) (list_of_later 0 (length x) (λ j. (get_or (i ∷ x) j 0 + w) % s) ∙ shifted-list_of s w x)

coordinates_shifted : (s z : ℕ) (x : List ℕ)
    → coordinates_at (replicate (length x) s) (diagonal_rows (suc (length x)) s 1 (length x)) (x ++ (z ∷ [])) ≡ shifted s ((s - 1) * z) x
coordinates_shifted s z x =
    coordinates-rows (length x) s 0 (length x) (x ++ (z ∷ [])) (omega (arith, length-append x (z ∷ [])))
    ∙ list_of-ext 0 (length x) (λ i. (get_or (x ++ (z ∷ [])) i 0 + (s - 1) * get_or (x ++ (z ∷ [])) (length x) 0) % s) (λ i. (get_or x i 0 + (s - 1) * z) % s)
    (λ i l. ap₂ (λ (a b : ℕ). (a + (s - 1) * b) % s) (get_or-append x (z ∷ []) 0 i (omega arith)) (get_or-append_seam x z [] 0))
    ∙ shifted-list_of s ((s - 1) * z) x

owner_shifted : (s z : ℕ) (x : List ℕ)
    → diagonal_owner (suc (length x)) s (x ++ (z ∷ [])) ≡ number_from 0 (replicate (length x) s) (shifted s ((s - 1) * z) x)
unfolding diagonal_owner owner_at diagonal_moduli diagonal_matrix coordinates_at number_from
owner_shifted s z x =
    ap₂ (λ (c : ℕ) (cs : List ℕ). number_from c (replicate (length x) s) cs)
    (zero-add (times (replicate (suc (length x)) 0) (x ++ (z ∷ [])) % 1) ∙ mod-one (times (replicate (suc (length x)) 0) (x ++ (z ∷ []))))
    (coordinates_shifted s z x)

-- the owner is the number with these coordinates
pub diagonal_owner_lem : (n s z : ℕ) (x : List ℕ) → length x ≡ n
    → diagonal_owner (suc n) s (x ++ (z ∷ [])) ≡ number_from 0 (replicate n s) (shifted s ((s - 1) * z) x)
diagonal_owner_lem n s z x e =
    ap (λ (m : ℕ). diagonal_owner (suc m) s (x ++ (z ∷ []))) (sym e)
    ∙ owner_shifted s z x
    ∙ ap (λ (m : ℕ). number_from 0 (replicate m s) (shifted s ((s - 1) * z) x)) e
