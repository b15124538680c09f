-- With even cuts every processor owns the same number of tiles in every slab: one induction on the dimensions, from dimension d down.
-- In a slab of a lower dimension, dimension d contributes a factor, whatever the position below it; the slabs of dimension d itself are peeled.
use mathlib.Core.Path.{◌≡◌, refl, sym, ap, ap₂, ◌∙◌, subst, subst⁻¹}
use mathlib.Core.List.{List, [], ◌∷◌}
use Prim.Native.Nat.{ℕ, zero, suc, ◌+◌, ◌*◌, ◌/◌, ◌%◌, ◌<◌, ◌∣◌}
use native.Mathlib.Nat.{mul_comm, mul-zero, zero-mul, mod-lt, mod-eq_of_lt, mod-add-mod, add-mod-mod, mod-eq-zero_of_dvd, div-add-mod', div-lt_iff_lt-mul, div-eq_of_eq-mul_right, dvd_trans, dvd-mul_right_of_dvd}
use native.Mathlib.Decide.{ℕ_discrete}
use native.Mathlib.Omega.{arith}
use lib.Arith.{digits_div, digits_mod, lt-one}
use Rattle.numbers.specs.Gcd.{gcd}
use Rattle.numbers.specs.Products.{product}
use Rattle.numbers.specs.Sums.{same}
use Rattle.numbers.proofs.Gcd.{gcd-dvd_left, gcd-dvd_right, gcd_pos, gcd-rest_pos}
use Rattle.numbers.proofs.Sums.{same_yes, same_no, sum-mul_left}
use Rattle.numbers.proofs.Residues.{count_residue}
use Rattle.multipartition.specs.Lists.{first, rest}
use Rattle.multipartition.specs.MixedRadix.{number_up, digits_up}
use Rattle.multipartition.specs.Tiles.{Inside}
use Rattle.multipartition.proofs.MixedRadix.{number_up_below}
use Rattle.multipartition.proofs.Moduli.{remains, remains-dvd, moduli_down, moduli_down-product, others_down, EvenDown, even_remains}
use Rattle.multipartition.proofs.GridSums.{sum_cong, same_iff, total_ext, slab_total, slab_total-ext, slab_total-mul_left, slab_total-swap, place_down, equal_shares}
use Rattle.multipartition.proofs.Rows.{taken, reached, values, hits, Below, moduli_down_dividing, modulus_reached-dvd}
use Rattle.multipartition.proofs.Peel.{shares, peel}

-- ---- the processors by their coordinates, from dimension d down

-- the remainders of the values ys
unfoldable pub remainders_down : List ℕ → List ℕ → List ℕ
remainders_down [] ys = []
remainders_down (m ∷ moduli) ys = (first ys % m) ∷ remainders_down moduli (rest ys)

-- a number n * m + r with r < m is q just if n and r are q's quotient and remainder
same_digits : (n r m q : ℕ) → r < m → same (n * m + r) q ≡ same n (q / m) * same r (q % m)
same_digits n r m q l = go (ℕ_discrete n (q / m)) (ℕ_discrete r (q % m))
  where
    go : Dec (n ≡ q / m) → Dec (r ≡ q % m) → same (n * m + r) q ≡ same n (q / m) * same r (q % m)
    go (yes e) (yes f) =
        same_yes (n * m + r) q (ap₂ (λ (x y : ℕ). x * m + y) e f ∙ div-add-mod' q m)
        ∙ sym (ap₂ ◌*◌ (same_yes n (q / m) e) (same_yes r (q % m) f))
    go (yes e) (no g) =
        same_no (n * m + r) q (λ h. g (sym (digits_mod n l) ∙ ap (λ (x : ℕ). x % m) h))
        ∙ sym (ap (λ (x : ℕ). same n (q / m) * x) (same_no r (q % m) g) ∙ mul-zero (same n (q / m)))
    go (no g) f =
        same_no (n * m + r) q (λ h. g (sym (digits_div n l) ∙ ap (λ (x : ℕ). x / m) h))
        ∙ sym (ap (λ (x : ℕ). x * same r (q % m)) (same_no n (q / m) g) ∙ zero-mul (same r (q % m)))

-- remainders are below their moduli
remainders_inside : (p : ℕ) (cuts ys : List ℕ) → zero < p → Inside (moduli_down p cuts) (remainders_down (moduli_down p cuts) ys)
unfolding moduli_down remainders_down Inside
remainders_inside p [] ys l = tt
remainders_inside p (b ∷ cuts) ys l = (mod-lt (first ys) (gcd_pos p b l), remainders_inside (remains p b) cuts (rest ys) (gcd-rest_pos p b l))

digits_below : (p : ℕ) (cuts : List ℕ) (q : ℕ) → zero < p → Below cuts (moduli_down p cuts) (digits_up (moduli_down p cuts) q)
unfolding moduli_down digits_up Below
digits_below p [] q l = tt
digits_below p (b ∷ cuts) q l = (mod-lt q (gcd_pos p b l), digits_below (remains p b) cuts (q / gcd p b) (gcd-rest_pos p b l))

-- the values have q's coordinates for remainders just if the number of their remainders is q
hits_number : (p : ℕ) (cuts ys : List ℕ) (q : ℕ) → zero < p → q < product (moduli_down p cuts)
    → hits cuts (moduli_down p cuts) (digits_up (moduli_down p cuts) q) ys
    ≡ same (number_up (moduli_down p cuts) (remainders_down (moduli_down p cuts) ys)) q
unfolding moduli_down digits_up hits number_up remainders_down
hits_number p [] ys q l h = sym (same_yes 0 q (sym (lt-one h)))
hits_number p (b ∷ cuts) ys q l h =
    ap (λ (n : ℕ). n * same (first ys % gcd p b) (q % gcd p b))
    (hits_number (remains p b) cuts (rest ys) (q / gcd p b) (gcd-rest_pos p b l)
    ((div-lt_iff_lt-mul (gcd_pos p b l)).1 (subst (λ (n : ℕ). q < n) (mul_comm (gcd p b) (product ms)) h)))
    ∙ sym (same_digits (number_up ms (remainders_down ms (rest ys))) (first ys % gcd p b) (gcd p b) q (mod-lt (first ys) (gcd_pos p b l)))
    ∙ ap (λ (n : ℕ). same n q) regroup
  where
    ms : List ℕ
    ms = moduli_down (remains p b) cuts

    regroup : number_up ms (remainders_down ms (rest ys)) * gcd p b + first ys % gcd p b ≡ first ys % gcd p b + gcd p b * number_up ms (remainders_down ms (rest ys))
    regroup = omega arith

-- ---- one coordinate vector

-- `neg` works as -1: what it multiplies goes to the other side
pub negated : (neg m x z c : ℕ) → m ∣ neg + 1 → c < m → same ((x + neg * z) % m) c ≡ same (x % m) ((c + z) % m)
negated neg m x z c d l = same_iff ((x + neg * z) % m) c (x % m) ((c + z) % m) there back
  where
    multiple : (y k : ℕ) → m ∣ k → (y + k) % m ≡ y % m
    multiple y k e = sym (add-mod-mod y k m) ∙ ap (λ (n : ℕ). (y + n) % m) (mod-eq-zero_of_dvd m e) ∙ ap (λ (n : ℕ). n % m) (omega arith)

    around : (y : ℕ) → (y + neg * z + z) % m ≡ y % m
    around y = ap (λ (n : ℕ). n % m) (omega arith) ∙ multiple y ((neg + 1) * z) (dvd-mul_right_of_dvd m d z)

    there : (x + neg * z) % m ≡ c → x % m ≡ (c + z) % m
    there e = sym (around x) ∙ sym (mod-add-mod (x + neg * z) m z) ∙ ap (λ (n : ℕ). (n + z) % m) e

    back : x % m ≡ (c + z) % m → (x + neg * z) % m ≡ c
    back e =
        sym (mod-add-mod x m (neg * z))
        ∙ ap (λ (n : ℕ). (n + neg * z) % m) e
        ∙ mod-add-mod (c + z) m (neg * z)
        ∙ ap (λ (n : ℕ). n % m) (omega arith)
        ∙ around c
        ∙ mod-eq_of_lt l

-- how many positions of a slab of dimension d - k one processor owns
unfoldable part : ℕ → ℕ → ℕ → List ℕ → ℕ
part k p b1 [] = 1
part zero p b1 (b ∷ cuts) = shares (gcd p b) cuts (moduli_down (remains p b) cuts) * (b1 / reached (gcd p b) cuts (moduli_down (remains p b) cuts))
part (suc k) p b1 (b ∷ cuts) = b / gcd p b * part k (remains p b) b1 cuts

-- 1 if the position (i1, x) has the coordinates cs
abbrev owned : ℕ → ℕ → List ℕ → List ℕ → ℕ → List ℕ → ℕ
owned neg p cuts cs i1 x = hits cuts (moduli_down p cuts) cs (values neg i1 cuts (moduli_down p cuts) x)

-- a slab of dimension d: its own row's condition is the question that is peeled
highest : (neg p b1 b : ℕ) (cuts cs : List ℕ) (s : ℕ) → zero < p → p ∣ neg + 1 → EvenDown p b1 (b ∷ cuts)
    → Below (b ∷ cuts) (moduli_down p (b ∷ cuts)) cs
    → slab_total zero s b1 (b ∷ cuts) (owned neg p (b ∷ cuts) cs) ≡ part zero p b1 (b ∷ cuts)
unfolding slab_total hits values moduli_down part Below
highest neg p b1 b cuts cs s l n even h =
    sum_cong b1 (λ i1 z. total_ext cuts (λ x w.
    ap (λ (y : ℕ). hits cuts ms (rest cs) (values neg i1 cuts ms x) * y)
    (ap (λ (y : ℕ). same (y % gcd p b) (first cs)) (omega arith)
    ∙ negated neg (gcd p b) (i1 + s) (taken (gcd p b) cuts ms (values neg i1 cuts ms x)) (first cs) (dvd_trans (gcd p b) (gcd-dvd_left p b) n) h.0)))
    ∙ peel neg b1 cuts ms (rest cs) (gcd p b) (first cs) s (moduli_down_dividing (remains p b) cuts) h.1 (gcd_pos p b l)
    (modulus_reached-dvd p b1 b cuts l even)
  where
    ms : List ℕ
    ms = moduli_down (remains p b) cuts

-- a slab of a lower dimension
lower : (neg p b1 b : ℕ) (cuts cs : List ℕ) (k s : ℕ) → s < place_down k b1 cuts → first cs < gcd p b
    → slab_total (suc k) s b1 (b ∷ cuts) (owned neg p (b ∷ cuts) cs) ≡ b / gcd p b * slab_total k s b1 cuts (owned neg (remains p b) cuts (rest cs))
unfolding slab_total hits values moduli_down
lower neg p b1 b cuts cs k s inside h =
    slab_total-swap b k s b1 cuts (λ i i1 x. below i1 x * same ((i + shift i1 x) % gcd p b) (first cs))
    ∙ slab_total-ext k s b1 cuts inside (λ i1 x a w.
    sum-mul_left b (below i1 x) (λ i. same ((i + shift i1 x) % gcd p b) (first cs))
    ∙ ap (λ (n : ℕ). below i1 x * n) (count_residue b (gcd p b) (shift i1 x) (first cs) (gcd-dvd_right p b) h)
    ∙ mul_comm (below i1 x) (b / gcd p b))
    ∙ slab_total-mul_left k s b1 cuts (b / gcd p b) (owned neg (remains p b) cuts (rest cs))
  where
    below : ℕ → List ℕ → ℕ
    below i1 x = owned neg (remains p b) cuts (rest cs) i1 x

    shift : ℕ → List ℕ → ℕ
    shift i1 x = i1 + neg * taken (gcd p b) cuts (moduli_down (remains p b) cuts) (values neg i1 cuts (moduli_down (remains p b) cuts) x)

-- the count depends neither on the coordinates cs nor on the slab s
slab_part : (neg p b1 : ℕ) (cuts cs : List ℕ) (k s : ℕ) → zero < p → p ∣ neg + 1 → EvenDown p b1 cuts → s < place_down k b1 cuts
    → Below cuts (moduli_down p cuts) cs → slab_total k s b1 cuts (owned neg p cuts cs) ≡ part k p b1 cuts
unfolding slab_total hits values moduli_down part Below
slab_part neg p b1 [] cs k s l n even inside h = refl
slab_part neg p b1 (b ∷ cuts) cs zero s l n even inside h = highest neg p b1 b cuts cs s l n even h
slab_part neg p b1 (b ∷ cuts) cs (suc k) s l n even inside h =
    lower neg p b1 b cuts cs k s inside h.0
    ∙ ap (λ (x : ℕ). b / gcd p b * x)
    (slab_part neg (remains p b) b1 cuts (rest cs) k s (gcd-rest_pos p b l) (dvd_trans (remains p b) (remains-dvd p b) n)
    (even_remains p b1 b cuts l even) inside h.1)

-- ---- the theorem

-- the owner of the position (i1, x)
abbrev pub owner_down : ℕ → ℕ → List ℕ → ℕ → List ℕ → ℕ
owner_down neg p cuts i1 x = number_up (moduli_down p cuts) (remainders_down (moduli_down p cuts) (values neg i1 cuts (moduli_down p cuts) x))

-- every processor owns a p-th of the tiles of each slab
pub even_owners_down : (neg p b1 : ℕ) (cuts : List ℕ) → zero < p → p ∣ neg + 1 → EvenDown p b1 cuts → (k s q : ℕ) → s < place_down k b1 cuts → q < p
    → slab_total k s b1 cuts (λ i1 x. same (owner_down neg p cuts i1 x) q) ≡ others_down k b1 cuts / p
even_owners_down neg p b1 cuts l n even k s q inside h = share q h ∙ sym (div-eq_of_eq-mul_right l (sym whole))
  where
    full : product (moduli_down p cuts) ≡ p
    full = moduli_down-product p b1 cuts l even

    share : (q : ℕ) → q < p → slab_total k s b1 cuts (λ i1 x. same (owner_down neg p cuts i1 x) q) ≡ part k p b1 cuts
    share q h =
        slab_total-ext k s b1 cuts inside
        (λ i1 x a w. sym (hits_number p cuts (values neg i1 cuts (moduli_down p cuts) x) q l (subst⁻¹ (λ (y : ℕ). q < y) full h)))
        ∙ slab_part neg p b1 cuts (digits_up (moduli_down p cuts) q) k s l n even inside (digits_below p cuts q l)

    whole : p * part k p b1 cuts ≡ others_down k b1 cuts
    whole =
        equal_shares k s b1 cuts p (part k p b1 cuts) (owner_down neg p cuts) inside
        (λ i1 x a w.
        subst (λ (y : ℕ). owner_down neg p cuts i1 x < y) full
        (number_up_below (moduli_down p cuts) _ (remainders_inside p cuts (values neg i1 cuts (moduli_down p cuts) x) l)))
        share
