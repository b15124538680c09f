-- The moduli (document 01, "Owners"): they multiply to p, the first is 1, and each divides its cut.
-- The theory behind evenness takes the dimensions from d down to 2, and dimension 1 apart: what is said of that order has `Down` in its name.
-- There a modulus is what its cut shares with what the moduli before it leave of p.
use mathlib.Core.Path.{◌≡◌, refl, sym, ap, ap₂, ◌∙◌, subst, subst⁻¹}
use mathlib.Core.List.{List, [], ◌∷◌, ◌++◌, reverse, reverse-cons}
use Prim.Native.Nat.{ℕ, zero, suc, ◌-◌, ◌*◌, ◌/◌, ◌≤◌, ◌<◌, ◌∣◌}
use native.Mathlib.Nat.{not-suc-le-zero, le_of_suc-le-suc, zero-lt-suc, lt_of_not-le, mul_comm, div-one, div_self, div-mul_cancel, div-div-eq-div-mul, div-eq_of_eq-mul_right}
use native.Mathlib.Nat.{dvd-mul_left, dvd-mul_left_of_dvd, eq-one_of_dvd-one}
use native.Mathlib.Decide.{dec_le}
use native.Mathlib.Omega.{arith}
use lib.ListN.{length, get_or, take, drop, length-reverse, length-drop}
use Rattle.numbers.specs.Gcd.{gcd}
use Rattle.numbers.specs.Products.{product, without}
use Rattle.numbers.proofs.Divides.{quotient_pos}
use Rattle.numbers.proofs.Gcd.{gcd-dvd_left, gcd-dvd_right, dvd-gcd, gcd-one, gcd_pos, gcd_split, gcd-rest_pos, gcd_of-dvd, gcd-mul, gauss}
use Rattle.numbers.proofs.Products.{product-append, product-reverse, around, reverse_middle, without_middle, without_around}
use Rattle.multipartition.specs.Cuts.{Even}
use Rattle.multipartition.specs.Moduli.{moduli_of}
use Rattle.multipartition.proofs.MixedRadix.{Positive}

-- ---- document 01's moduli

pub length_moduli : (p : ℕ) (cuts : List ℕ) → length (moduli_of p cuts) ≡ length cuts
unfolding moduli_of
length_moduli p [] = refl
length_moduli p (b ∷ cuts) = ap suc (length_moduli p cuts)

-- what p shares with fewer cuts divides what it shares with more
gcd-dvd-gcd-mul : (p b n : ℕ) → gcd p n ∣ gcd p (b * n)
gcd-dvd-gcd-mul p b n = dvd-gcd (gcd p n) p (b * n) (gcd-dvd_left p n) (dvd-mul_left_of_dvd (gcd p n) (gcd-dvd_right p n) b)

-- the moduli from some dimension on multiply to what p shares with the cuts from there on
pub product_moduli : (p : ℕ) (cuts : List ℕ) → product (moduli_of p cuts) ≡ gcd p (product cuts)
unfolding moduli_of
product_moduli p [] = sym (gcd-one p)
product_moduli p (b ∷ cuts) =
    ap (λ (n : ℕ). gcd p (b * product cuts) / gcd p (product cuts) * n) (product_moduli p cuts)
    ∙ div-mul_cancel (gcd p (product cuts)) (gcd-dvd-gcd-mul p b (product cuts))

-- for even cuts p divides the product of the cuts after the first, and of all
pub even-dvd-rest : (p b : ℕ) (cuts : List ℕ) → Even p (b ∷ cuts) → p ∣ product cuts
even-dvd-rest p b cuts even = even zero (zero-lt-suc (length cuts))

pub even-dvd-product : (p b : ℕ) (cuts : List ℕ) → Even p (b ∷ cuts) → p ∣ product (b ∷ cuts)
even-dvd-product p b cuts even = dvd-mul_left_of_dvd p (even-dvd-rest p b cuts even) b

-- no modulus is 0
pub moduli_positive : (p : ℕ) (cuts : List ℕ) → zero < p → Positive (moduli_of p cuts)
unfolding moduli_of Positive
moduli_positive p [] hp = tt
moduli_positive p (b ∷ cuts) hp =
    (quotient_pos (gcd p (product cuts)) (gcd_pos p (b * product cuts) hp) (gcd-dvd-gcd-mul p b (product cuts)), moduli_positive p cuts hp)

-- "the moduli multiply to p"
pub moduli_product : (p : ℕ) (cuts : List ℕ) → zero < length cuts → Even p cuts → product (moduli_of p cuts) ≡ p
moduli_product p [] l even = absurd (not-suc-le-zero l)
moduli_product p (b ∷ cuts) l even = product_moduli p (b ∷ cuts) ∙ gcd_of-dvd p (product (b ∷ cuts)) (even-dvd-product p b cuts even)

-- "m1 = 1"
pub first_modulus : (p : ℕ) (cuts : List ℕ) → zero < p → zero < length cuts → Even p cuts → get_or (moduli_of p cuts) 0 0 ≡ 1
unfolding moduli_of
first_modulus p [] hp l even = absurd (not-suc-le-zero l)
first_modulus p (b ∷ cuts) hp l even =
    ap₂ (λ (x y : ℕ). x / y) (gcd_of-dvd p (product (b ∷ cuts)) (even-dvd-product p b cuts even))
    (gcd_of-dvd p (product cuts) (even-dvd-rest p b cuts even))
    ∙ div_self hp

-- a modulus is what its cut shares with what the later moduli leave of p
modulus_is-gcd : (p b n : ℕ) → zero < p → gcd p (b * n) / gcd p n ≡ gcd (p / gcd p n) b
modulus_is-gcd p b n hp = div-eq_of_eq-mul_right (gcd_pos p n hp) (ap (gcd p) (mul_comm b n) ∙ gcd-mul p n b)

-- each modulus divides its cut
pub modulus-dvd_cut : (p : ℕ) (cuts : List ℕ) → zero < p → (k : ℕ) → k < length cuts → get_or (moduli_of p cuts) k 0 ∣ get_or cuts k 0
unfolding moduli_of
modulus-dvd_cut p [] hp k l = absurd (not-suc-le-zero l)
modulus-dvd_cut p (b ∷ cuts) hp zero l =
    subst⁻¹ (λ (m : ℕ). m ∣ b) (modulus_is-gcd p b (product cuts) hp) (gcd-dvd_right (p / gcd p (product cuts)) b)
modulus-dvd_cut p (b ∷ cuts) hp (suc k) l = modulus-dvd_cut p cuts hp k (le_of_suc-le-suc l)

-- ---- the moduli from dimension d down

-- what is left of p after a cut has taken its share
abbrev pub remains : ℕ → ℕ → ℕ
remains p b = p / gcd p b

unfoldable pub moduli_down : ℕ → List ℕ → List ℕ
moduli_down p [] = []
moduli_down p (b ∷ cuts) = gcd p b ∷ moduli_down (remains p b) cuts

-- what the moduli of a first part leave of p goes to the second part
moduli_down-append : (p : ℕ) (xs ys : List ℕ) → moduli_down p (xs ++ ys) ≡ moduli_down p xs ++ moduli_down (remains p (product xs)) ys
unfolding moduli_down
moduli_down-append p [] ys = ap (λ (n : ℕ). moduli_down n ys) (sym (ap (λ (n : ℕ). p / n) (gcd-one p) ∙ div-one p))
moduli_down-append p (x ∷ xs) ys =
    let q : ℕ = remains p x in
    let left : remains q (product xs) ≡ remains p (x * product xs) =
    div-div-eq-div-mul p (gcd p x) (gcd q (product xs)) ∙ ap (λ (n : ℕ). p / n) (sym (gcd-mul p x (product xs))) in
    ap (λ (ms : List ℕ). gcd p x ∷ ms) (moduli_down-append q xs ys ∙ ap (λ (n : ℕ). moduli_down q xs ++ moduli_down n ys) left)

-- they are document 01's moduli
pub moduli_down-reverse : (p : ℕ) (cuts : List ℕ) → zero < p → moduli_down p (reverse cuts) ≡ reverse (moduli_of p cuts)
unfolding moduli_down moduli_of
moduli_down-reverse p [] hp = refl
moduli_down-reverse p (b ∷ cuts) hp =
    ap (moduli_down p) (reverse-cons b cuts) ∙ moduli_down-append p (reverse cuts) (b ∷ [])
    ∙ ap₂ (λ (ms : List ℕ) (m : ℕ). ms ++ (m ∷ [])) (moduli_down-reverse p cuts hp) last
    ∙ sym (reverse-cons (gcd p (product (b ∷ cuts)) / gcd p (product cuts)) (moduli_of p cuts))
  where
    last : gcd (remains p (product (reverse cuts))) b ≡ gcd p (product (b ∷ cuts)) / gcd p (product cuts)
    last = ap (λ (n : ℕ). gcd (remains p n) b) (product-reverse cuts) ∙ sym (modulus_is-gcd p b (product cuts) hp)

pub remains-dvd : (p b : ℕ) → remains p b ∣ p
remains-dvd p b = subst (λ (n : ℕ). remains p b ∣ n) (gcd_split p b) (dvd-mul_left (remains p b) (gcd p b))

-- ---- even cuts from dimension d down: b1 is the cut of dimension 1

-- the product of all cuts but that of dimension d - k; past the list stands dimension 1
unfoldable pub others_down : ℕ → ℕ → List ℕ → ℕ
others_down k b1 [] = 1
others_down zero b1 (b ∷ cuts) = b1 * product cuts
others_down (suc k) b1 (b ∷ cuts) = b * others_down k b1 cuts

abbrev pub EvenDown : ℕ → ℕ → List ℕ → Type 0
EvenDown p b1 cuts = (k : ℕ) → p ∣ others_down k b1 cuts

others_down_past : (k b1 : ℕ) (cuts : List ℕ) → length cuts ≤ k → others_down k b1 cuts ≡ product cuts
unfolding others_down
others_down_past k b1 [] l = refl
others_down_past zero b1 (b ∷ cuts) l = absurd (not-suc-le-zero l)
others_down_past (suc k) b1 (b ∷ cuts) l = ap (λ (n : ℕ). b * n) (others_down_past k b1 cuts (le_of_suc-le-suc l))

others_down-without : (k b1 : ℕ) (cuts : List ℕ) → k ≤ length cuts → others_down k b1 cuts ≡ product (without k (cuts ++ (b1 ∷ [])))
unfolding others_down
others_down-without zero b1 [] l = refl
others_down-without (suc k) b1 [] l = absurd (not-suc-le-zero l)
others_down-without zero b1 (b ∷ cuts) l = sym (product-append cuts (b1 ∷ []) ∙ omega arith)
others_down-without (suc k) b1 (b ∷ cuts) l = ap (λ (n : ℕ). b * n) (others_down-without k b1 cuts (le_of_suc-le-suc l))

-- the product of all cuts but one, in either order
product-without-reverse : (k : ℕ) (cuts : List ℕ) → k < length cuts → product (without (length cuts - suc k) (reverse cuts)) ≡ product (without k cuts)
product-without-reverse k cuts l =
    ap₂ (λ (n : ℕ) (v : List ℕ). product (without n v)) place (ap reverse (around k cuts l) ∙ reverse_middle before b after)
    ∙ ap product (without_middle (reverse after) b (reverse before))
    ∙ product-append (reverse after) (reverse before)
    ∙ ap₂ ◌*◌ (product-reverse after) (product-reverse before)
    ∙ mul_comm (product after) (product before)
    ∙ sym (ap product (without_around k cuts l) ∙ product-append before after)
  where
    before : List ℕ
    before = take k cuts

    after : List ℕ
    after = drop (suc k) cuts

    b : ℕ
    b = get_or cuts k 0

    place : length cuts - suc k ≡ length (reverse after)
    place = sym (length-reverse after ∙ length-drop (suc k) cuts)

pub others_down-reverse : (b1 : ℕ) (cuts : List ℕ) (k : ℕ) → k ≤ length cuts
    → others_down (length cuts - k) b1 (reverse cuts) ≡ product (without k (b1 ∷ cuts))
others_down-reverse b1 cuts k l =
    others_down-without (length cuts - k) b1 (reverse cuts) (omega (arith, length-reverse cuts))
    ∙ ap₂ (λ (n : ℕ) (v : List ℕ). product (without n v)) place (sym (reverse-cons b1 cuts))
    ∙ product-without-reverse k (b1 ∷ cuts) (omega arith)
  where
    place : length cuts - k ≡ length (b1 ∷ cuts) - suc k
    place = omega arith

pub even_down : (p b1 : ℕ) (cuts : List ℕ) → Even p (b1 ∷ cuts) → EvenDown p b1 (reverse cuts)
even_down p b1 cuts even k = go (dec_le (length cuts) k)
  where
    go : Dec (length cuts ≤ k) → p ∣ others_down k b1 (reverse cuts)
    go (yes l) =
        subst⁻¹ (λ (n : ℕ). p ∣ n) (others_down_past k b1 (reverse cuts) (omega (arith, length-reverse cuts)) ∙ product-reverse cuts)
        (even-dvd-rest p b1 cuts even)
    go (no n) =
        let l : k < length cuts = lt_of_not-le n in
        let back : length cuts - (length cuts - k) ≡ k = omega arith in
        subst (λ (j : ℕ). p ∣ others_down j b1 (reverse cuts)) back
        (subst⁻¹ (λ (n : ℕ). p ∣ n) (others_down-reverse b1 cuts (length cuts - k) (omega arith)) (even (length cuts - k) (omega arith)))

-- even cuts stay even without the highest dimension, for what remains of p
pub even_remains : (p b1 b : ℕ) (cuts : List ℕ) → zero < p → EvenDown p b1 (b ∷ cuts) → EvenDown (remains p b) b1 cuts
unfolding others_down
even_remains p b1 b cuts hp even k = gauss p b (others_down k b1 cuts) hp (even (suc k))

-- the moduli of the dimensions from d down to 2 multiply to p
pub moduli_down-product : (p b1 : ℕ) (cuts : List ℕ) → zero < p → EvenDown p b1 cuts → product (moduli_down p cuts) ≡ p
unfolding moduli_down others_down
moduli_down-product p b1 [] hp even = sym (eq-one_of_dvd-one (even 0))
moduli_down-product p b1 (b ∷ cuts) hp even =
    ap (λ (n : ℕ). gcd p b * n) (moduli_down-product (remains p b) b1 cuts (gcd-rest_pos p b hp) (even_remains p b1 b cuts hp even))
    ∙ gcd_split p b
