-- Every owner is a processor, and with even cuts every processor owns exactly tiles / (bk * p) tiles of each slab of dimension k (document 01,
-- "The rival of demand 3"). The induction is Evenness; here it is put in document 01's words, for every number of dimensions.
use mathlib.Core.Path.{◌≡◌, sym, ap, ◌∙◌, subst, subst⁻¹}
use mathlib.Core.List.{List, [], ◌∷◌, reverse}
use Prim.Native.Nat.{ℕ, zero, ◌+◌, ◌-◌, ◌*◌, ◌/◌, ◌<◌, ◌∣◌}
use native.Mathlib.Nat.{not-suc-le-zero, le_of_suc-le-suc, le_trans, le_of_dvd, dvd_refl, mul-dvd-mul_left, mod-lt, div-div-eq-div-mul, mul-div_cancel_left}
use native.Mathlib.Omega.{arith}
use lib.ListN.{length, get_or, length-reverse}
use Rattle.numbers.specs.Products.{product, without}
use Rattle.numbers.specs.Sums.{same}
use Rattle.numbers.proofs.Gcd.{gcd-dvd_left}
use Rattle.numbers.proofs.Products.{product-without}
use Rattle.multipartition.specs.Lists.{first_list, rest_lists}
use Rattle.multipartition.specs.Cuts.{Even}
use Rattle.multipartition.specs.Moduli.{moduli_of}
use Rattle.multipartition.specs.Matrix.{matrix_of}
use Rattle.multipartition.specs.MixedRadix.{digits_of}
use Rattle.multipartition.specs.Owners.{times, coordinates_at, owner_at, owner_of}
use Rattle.multipartition.specs.Tiles.{Inside}
use Rattle.multipartition.specs.Rivals.{held, Balanced}
use Rattle.multipartition.proofs.MixedRadix.{Positive, number_below, digits_of_number}
use Rattle.multipartition.proofs.Tiles.{inside-length}
use Rattle.multipartition.proofs.Moduli.{product_moduli, moduli_positive, others_down-reverse, even_down}
use Rattle.multipartition.proofs.GridSums.{slab_total-ext, place_down, place_down-reverse, held_slab_total}
use Rattle.multipartition.proofs.Evenness.{even_owners_down}
use Rattle.multipartition.proofs.Coordinates.{owner_of_is_owner_down}

-- ---- any moduli but 0, and any matrix

pub coordinates_inside : (moduli : List ℕ) (matrix : List (List ℕ)) (position : List ℕ) → Positive moduli
    → Inside moduli (coordinates_at moduli matrix position)
unfolding coordinates_at Inside Positive
coordinates_inside [] matrix position h = tt
coordinates_inside (m ∷ moduli) matrix position h =
    (mod-lt (times (first_list matrix) position) h.0, coordinates_inside moduli (rest_lists matrix) position h.1)

module _ (moduli : List ℕ) (matrix : List (List ℕ)) (position : List ℕ) (positive : Positive moduli) where
  pub owner_below-product : owner_at moduli matrix position < product moduli
  unfolding owner_at
  owner_below-product = number_below moduli (coordinates_at moduli matrix position) (coordinates_inside moduli matrix position positive)

  -- the digits of the owner's number are its coordinates
  pub digits_of_owner : digits_of moduli (owner_at moduli matrix position) ≡ coordinates_at moduli matrix position
  unfolding owner_at
  digits_of_owner = digits_of_number moduli (coordinates_at moduli matrix position) positive (coordinates_inside moduli matrix position positive)

-- ---- the planner's

-- every owner is below p
pub owner_below : (p : ℕ) (cuts position : List ℕ) → zero < p → owner_of p cuts position < p
unfolding owner_of
owner_below p cuts position l =
    le_trans (owner_below-product (moduli_of p cuts) (matrix_of p cuts) position (moduli_positive p cuts l))
    (le_of_dvd l (subst (λ (n : ℕ). n ∣ p) (sym (product_moduli p cuts)) (gcd-dvd_left p (product cuts))))

-- with even cuts every processor owns, in each slab of dimension k, the product of the other cuts divided by p
pub even_owners-others : (p : ℕ) (cuts : List ℕ) → zero < p → Even p cuts → (k s q : ℕ) → k < length cuts → s < get_or cuts k 0 → q < p
    → held cuts (owner_of p cuts) k s q ≡ product (without k cuts) / p
even_owners-others p [] l even k s q h m o = absurd (not-suc-le-zero h)
even_owners-others p (b1 ∷ cuts) l even k s q h m o =
    held_slab_total b1 cuts (owner_of p (b1 ∷ cuts)) k s q (le_of_suc-le-suc h) m
    ∙ slab_total-ext (length cuts - k) s b1 (reverse cuts) inside
    (λ i1 x a w. ap (λ (n : ℕ). same n q) (owner_of_is_owner_down p (p - 1) b1 i1 cuts x l neg even (inside-length (reverse cuts) x w ∙ length-reverse cuts)))
    ∙ even_owners_down (p - 1) p b1 (reverse cuts) l neg (even_down p b1 cuts even) (length cuts - k) s q inside o
    ∙ ap (λ (n : ℕ). n / p) (others_down-reverse b1 cuts k (le_of_suc-le-suc h))
  where
    neg : p ∣ p - 1 + 1
    neg = subst (λ (n : ℕ). p ∣ n) (omega arith) (dvd_refl p)

    inside : s < place_down (length cuts - k) b1 (reverse cuts)
    inside = subst⁻¹ (λ (n : ℕ). s < n) (place_down-reverse k b1 cuts (le_of_suc-le-suc h)) m

-- "every processor owns exactly tiles / (bk · p) tiles of each slab of dimension k"
pub even_owners : (p : ℕ) (cuts : List ℕ) → zero < p → Even p cuts → (k s q : ℕ) → k < length cuts → s < get_or cuts k 0 → q < p
    → held cuts (owner_of p cuts) k s q ≡ product cuts / (get_or cuts k 0 * p)
even_owners p cuts l even k s q h m o =
    even_owners-others p cuts l even k s q h m o
    ∙ ap (λ (n : ℕ). n / p) (sym quotient)
    ∙ div-div-eq-div-mul (product cuts) (get_or cuts k 0) p
  where
    quotient : product cuts / get_or cuts k 0 ≡ product (without k cuts)
    quotient = ap (λ (n : ℕ). n / get_or cuts k 0) (product-without k cuts h) ∙ mul-div_cancel_left (product (without k cuts)) (omega arith)

-- that share is exact: bk · p divides the number of tiles
pub share_exact : (p : ℕ) (cuts : List ℕ) → Even p cuts → (k : ℕ) → k < length cuts → get_or cuts k 0 * p ∣ product cuts
share_exact p cuts even k h =
    subst⁻¹ (λ (n : ℕ). get_or cuts k 0 * p ∣ n) (product-without k cuts h) (mul-dvd-mul_left p (get_or cuts k 0) (even k h))

-- so all processors own the same number
pub owners_balanced : (p : ℕ) (cuts : List ℕ) → zero < p → Even p cuts → Balanced p cuts (owner_of p cuts)
unfolding Balanced
owners_balanced p cuts l even k s h m q r o o' = even_owners p cuts l even k s q h m o ∙ sym (even_owners p cuts l even k s r h m o')
