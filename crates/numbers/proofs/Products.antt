-- Products of lists: joined, reversed, and with one place left out.
use mathlib.Core.Path.{◌≡◌, refl, sym, ◌∙◌, ap}
use mathlib.Core.List.{List, [], ◌∷◌, ◌++◌, reverse, append_assoc, reverse-cons, reverse-append}
use Prim.Native.Nat.{ℕ, zero, suc, ◌*◌, ◌<◌}
use native.Mathlib.Nat.{not-suc-le-zero, le_of_suc-le-suc, one-mul}
use native.Mathlib.Omega.{arith}
use lib.ListN.{length, get_or, take, drop, take-append-drop}
use lib.Seq.{drop-cons}
use Rattle.numbers.specs.Products.{product, without}

pub product-append : (xs ys : List ℕ) → product (xs ++ ys) ≡ product xs * product ys
product-append [] ys = sym (one-mul (product ys))
product-append (x ∷ xs) ys = omega (arith, ap (λ (n : ℕ). x * n) (product-append xs ys))

pub product-reverse : (xs : List ℕ) → product (reverse xs) ≡ product xs
product-reverse [] = refl
product-reverse (x ∷ xs) =
    ap product (reverse-cons x xs) ∙ product-append (reverse xs) (x ∷ []) ∙ ap (λ (n : ℕ). n * (x * 1)) (product-reverse xs) ∙ turn (product xs)
  where
    turn : (n : ℕ) → n * (x * 1) ≡ x * n
    turn n = omega arith

-- ---- a list around its place k

-- what stands before k, at k and after k make up the list
pub around : (k : ℕ) (xs : List ℕ) → k < length xs → xs ≡ take k xs ++ (get_or xs k 0 ∷ drop (suc k) xs)
around k xs h = sym (take-append-drop k xs) ∙ ap (λ (zs : List ℕ). take k xs ++ zs) (drop-cons xs k 0 h)

pub reverse_middle : (xs : List ℕ) (b : ℕ) (ys : List ℕ) → reverse (xs ++ (b ∷ ys)) ≡ reverse ys ++ (b ∷ reverse xs)
reverse_middle xs b ys =
    reverse-append xs (b ∷ ys) ∙ ap (λ (zs : List ℕ). zs ++ reverse xs) (reverse-cons b ys) ∙ append_assoc (reverse ys) (b ∷ []) (reverse xs)

pub without_middle : (xs : List ℕ) (b : ℕ) (ys : List ℕ) → without (length xs) (xs ++ (b ∷ ys)) ≡ xs ++ ys
without_middle [] b ys = refl
without_middle (x ∷ xs) b ys = ap (λ (zs : List ℕ). x ∷ zs) (without_middle xs b ys)

pub without_around : (k : ℕ) (xs : List ℕ) → k < length xs → without k xs ≡ take k xs ++ drop (suc k) xs
without_around k [] h = absurd (not-suc-le-zero h)
without_around zero (x ∷ xs) h = refl
without_around (suc k) (x ∷ xs) h = ap (λ (zs : List ℕ). x ∷ zs) (without_around k xs (le_of_suc-le-suc h))

-- the product splits into what is left out and the rest
pub product-without : (k : ℕ) (xs : List ℕ) → k < length xs → product xs ≡ get_or xs k 0 * product (without k xs)
product-without k [] h = absurd (not-suc-le-zero h)
product-without zero (x ∷ xs) h = refl
product-without (suc k) (x ∷ xs) h = omega (arith, ap (λ (n : ℕ). x * n) (product-without k xs (le_of_suc-le-suc h)))
