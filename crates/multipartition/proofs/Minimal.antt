-- The cheapest cuts are minimal: none can be lowered so that they stay even. So every cut divides p, and the number of tiles divides p * p.
-- For if the products of all cuts but one had a common divisor p * c with c > 1, c would share a factor with some cut, and that cut could be
-- divided by it.
use mathlib.Core.Path.{◌≡◌, refl, sym, ap, ◌∙◌, subst, subst⁻¹}
use mathlib.Core.Logic.{◌⊎◌, inl, inr, ◌≢◌}
use mathlib.Core.List.{List, [], ◌∷◌}
use mathlib.Core.Option.{some}
use Prim.Native.Nat.{ℕ, zero, suc, ◌*◌, ◌/◌, ◌≤◌, ◌<◌, ◌∣◌}
use native.Mathlib.Nat.{le_refl, le_trans, le_of_suc-le-suc, not-suc-le-zero, zero-lt-suc, eq-or-lt_of_le, mul-le-mul_right, le_of_dvd, pos_of_dvd_of_pos, mul-div_cancel', div-one, mul-one, mul-pos}
use native.Mathlib.Nat.{dvd_trans, dvd-zero, one-dvd, dvd-one, dvd-mul_left, mul-dvd-mul_left, mul-dvd-mul_right, dvd_of_mul-dvd-mul_left}
use native.Mathlib.Decide.{ℕ_discrete}
use native.Mathlib.Omega.{arith}
use lib.ListN.{length, get_or, set, length-set}
use lib.Seq.{get_or-set_same, set-get_or}
use Rattle.numbers.specs.Gcd.{gcd}
use Rattle.numbers.specs.Products.{product, without}
use Rattle.numbers.proofs.Divides.{divides, quotient_pos}
use Rattle.numbers.proofs.Gcd.{gcd-dvd_left, gcd-dvd_right, dvd-gcd, gcd_pos, gcd-mul_left, gauss, dvd-gcd-factor}
use Rattle.numbers.proofs.Products.{product-without}
use Rattle.multipartition.specs.Cuts.{Even, Within, cheapest_within}
use Rattle.multipartition.proofs.MixedRadix.{Positive, product_positive}
use Rattle.multipartition.proofs.Order.{AtMost, at_most_refl, precedes_antisymm, precedes_of_at_most}
use Rattle.multipartition.proofs.Cheapest.{cheapest_within_lem, cheapest_even, cheapest-precedes}
use Rattle.multipartition.proofs.Fitting.{within_positive, within_of_at_most}

-- even cuts of which none can be lowered, not to 0, so that they stay even
pub record Minimal (p : ℕ) (cuts : List ℕ) : Type 0 where
  pub even : Even p cuts
  pub positive : Positive cuts
  pub least : (lower : List ℕ) → AtMost lower cuts → Positive lower → Even p lower → lower ≡ cuts

-- lower cuts would be within `most`, and would be chosen before
pub cheapest_minimal : (p : ℕ) (most weights cuts : List ℕ) → cheapest_within p most weights ≡ some cuts → Minimal p cuts
cheapest_minimal p most weights cuts e = record {
  even = cheapest_even p most weights cuts e;
  positive = within_positive most cuts within;
  least = λ lower m z even.
      precedes_antisymm weights lower cuts (precedes_of_at_most weights lower cuts m)
      (cheapest-precedes p most weights cuts lower e (within_of_at_most most cuts lower within m z) even);
}
  where
    within : Within most cuts
    within = cheapest_within_lem p most weights cuts e

-- ---- one cut lowered

pub positive-at : (cuts : List ℕ) → Positive cuts → (k : ℕ) → k < length cuts → zero < get_or cuts k 0
unfolding Positive
positive-at [] h k l = absurd (not-suc-le-zero l)
positive-at (b ∷ cuts) h zero l = h.0
positive-at (b ∷ cuts) h (suc k) l = positive-at cuts h.1 k (le_of_suc-le-suc l)

pub positive-set : (cuts : List ℕ) (k c : ℕ) → Positive cuts → zero < c → Positive (set cuts k c)
unfolding Positive
positive-set [] k c h l = tt
positive-set (b ∷ cuts) zero c h l = (l, h.1)
positive-set (b ∷ cuts) (suc k) c h l = (h.0, positive-set cuts k c h.1 l)

at_most-set : (cuts : List ℕ) (k c : ℕ) → c ≤ get_or cuts k 0 → AtMost (set cuts k c) cuts
at_most-set [] k c l = tt
at_most-set (b ∷ cuts) zero c l = (l, at_most_refl cuts)
at_most-set (b ∷ cuts) (suc k) c l = (le_refl b, at_most-set cuts k c l)

without-set : (cuts : List ℕ) (k c : ℕ) → without k (set cuts k c) ≡ without k cuts
without-set [] k c = refl
without-set (b ∷ cuts) zero c = refl
without-set (b ∷ cuts) (suc k) c = ap (λ (v : List ℕ). b ∷ v) (without-set cuts k c)

product-set : (cuts : List ℕ) (k c : ℕ) → k < length cuts → product (set cuts k c) ≡ c * product (without k cuts)
product-set [] k c l = absurd (not-suc-le-zero l)
product-set (b ∷ cuts) zero c l = refl
product-set (b ∷ cuts) (suc k) c l = omega (arith, ap (λ (n : ℕ). b * n) (product-set cuts k c (le_of_suc-le-suc l)))

-- the product of all cuts but those of the dimensions k and j
pub product_but : ℕ → ℕ → List ℕ → ℕ
product_but k j [] = 1
product_but zero zero (b ∷ cuts) = product cuts
product_but zero (suc j) (b ∷ cuts) = product (without j cuts)
product_but (suc k) zero (b ∷ cuts) = product (without k cuts)
product_but (suc k) (suc j) (b ∷ cuts) = b * product_but k j cuts

-- where cut k is c, the product of all cuts but that of another dimension j is c times the rest
pub product-without-set : (cuts : List ℕ) (k j c : ℕ) → k < length cuts → j < length cuts → j ≢ k
    → product (without j (set cuts k c)) ≡ c * product_but k j cuts
unfolding product_but
product-without-set [] k j c l m n = absurd (not-suc-le-zero l)
product-without-set (b ∷ cuts) zero zero c l m n = absurd (n refl)
product-without-set (b ∷ cuts) zero (suc j) c l m n = refl
product-without-set (b ∷ cuts) (suc k) zero c l m n = product-set cuts k c (le_of_suc-le-suc l)
product-without-set (b ∷ cuts) (suc k) (suc j) c l m n =
    omega (arith, ap (λ (n : ℕ). b * n) (product-without-set cuts k j c (le_of_suc-le-suc l) (le_of_suc-le-suc m) (λ e. n (ap suc e))))

product-without_but : (cuts : List ℕ) (k j : ℕ) → k < length cuts → j < length cuts → j ≢ k
    → product (without j cuts) ≡ get_or cuts k 0 * product_but k j cuts
product-without_but cuts k j l m n =
    ap (λ (v : List ℕ). product (without j v)) (sym (set-get_or cuts k 0)) ∙ product-without-set cuts k j (get_or cuts k 0) l m n

-- Minimal cuts stay as they are, if c is at most cut k and p would still divide the product of all cuts but any other one.
pub minimal_unchanged : (p : ℕ) (cuts : List ℕ) (k c : ℕ) → Minimal p cuts → k < length cuts → 1 ≤ c → c ≤ get_or cuts k 0
    → ((j : ℕ) → j < length cuts → j ≢ k → p ∣ c * product_but k j cuts) → c ≡ get_or cuts k 0
minimal_unchanged p cuts k c minimal l low high still =
    sym (get_or-set_same cuts k c 0 l)
    ∙ ap (λ (v : List ℕ). get_or v k 0)
    (minimal.least (set cuts k c) (at_most-set cuts k c high) (positive-set cuts k c minimal.positive low) even)
  where
    even : Even p (set cuts k c)
    even j m = go (ℕ_discrete j k)
      where
        inside : j < length cuts
        inside = subst (λ (n : ℕ). j < n) (length-set cuts k c) m

        go : Dec (j ≡ k) → p ∣ product (without j (set cuts k c))
        go (yes e) =
            subst⁻¹ (λ (i : ℕ). p ∣ product (without i (set cuts k c))) e
            (subst⁻¹ (λ (v : List ℕ). p ∣ product v) (without-set cuts k c) (minimal.even k l))
        go (no n) = subst⁻¹ (λ (i : ℕ). p ∣ i) (product-without-set cuts k j c l inside n) (still j inside n)

-- ---- every cut divides p

minimal_cut-dvd : (p : ℕ) (cuts : List ℕ) → Minimal p cuts → (k : ℕ) → k < length cuts → get_or cuts k 0 ∣ p
minimal_cut-dvd p cuts minimal k l = subst (λ (n : ℕ). n ∣ p) shared (gcd-dvd_right b p)
  where
    b : ℕ
    b = get_or cuts k 0

    positive : zero < b
    positive = positive-at cuts minimal.positive k l

    shared : gcd b p ≡ b
    shared =
        minimal_unchanged p cuts k (gcd b p) minimal l (gcd_pos b p positive) (le_of_dvd positive (gcd-dvd_left b p))
        (λ j m n. dvd-gcd-factor p b (product_but k j cuts) (subst (λ (i : ℕ). p ∣ i) (product-without_but cuts k j l m n) (minimal.even j m)))

-- ---- the number of tiles divides p * p

-- the greatest common divisor of f 0 .. f (n - 1)
gcd_below : ℕ → (ℕ → ℕ) → ℕ
gcd_below zero f = zero
gcd_below (suc n) f = gcd (gcd_below n f) (f n)

gcd_below-dvd : (n : ℕ) (f : ℕ → ℕ) (k : ℕ) → k < n → gcd_below n f ∣ f k
unfolding gcd_below
gcd_below-dvd zero f k l = absurd (not-suc-le-zero l)
gcd_below-dvd (suc n) f k l = go (gcd_below-dvd n f k) (eq-or-lt_of_le (le_of_suc-le-suc l))
  where
    go : (k < n → gcd_below n f ∣ f k) → (k ≡ n) ⊎ (k < n) → gcd (gcd_below n f) (f n) ∣ f k
    go earlier (inl e) = subst⁻¹ (λ (i : ℕ). gcd (gcd_below n f) (f n) ∣ f i) e (gcd-dvd_right (gcd_below n f) (f n))
    go earlier (inr m) = dvd_trans (gcd (gcd_below n f) (f n)) (gcd-dvd_left (gcd_below n f) (f n)) (earlier m)

-- what divides t times each of them divides t times their greatest common divisor
dvd-mul_gcd_below : (n t x : ℕ) (f : ℕ → ℕ) → ((k : ℕ) → k < n → x ∣ t * f k) → x ∣ t * gcd_below n f
unfolding gcd_below
dvd-mul_gcd_below zero t x f h = subst⁻¹ (λ (i : ℕ). x ∣ i) (omega arith) (dvd-zero x)
dvd-mul_gcd_below (suc n) t x f h =
    subst (λ (i : ℕ). x ∣ i) (gcd-mul_left t (gcd_below n f) (f n))
    (dvd-gcd x (t * gcd_below n f) (t * f n) (dvd-mul_gcd_below n t x f (λ k l. h k (omega arith))) (h n (omega arith)))

-- a divisor of a product other than 1 shares more than 1 with a factor
shares-factor : (c : ℕ) (cuts : List ℕ) → 1 < c → c ∣ product cuts → (j : ℕ) × (j < length cuts) × (1 < gcd c (get_or cuts j 0))
shares-factor c [] l d = absurd (not-one (dvd-one.0 d))
  where
    not-one : c ≡ 1 → ⊥
    not-one e = omega arith
shares-factor c (b ∷ cuts) l d = go (shares-factor c cuts l) (eq-or-lt_of_le (gcd_pos c b (omega arith)))
  where
    go : (c ∣ product cuts → (j : ℕ) × (j < length cuts) × (1 < gcd c (get_or cuts j 0)))
        → (1 ≡ gcd c b) ⊎ (1 < gcd c b) → (j : ℕ) × (j < length (b ∷ cuts)) × (1 < gcd c (get_or (b ∷ cuts) j 0))
    go later (inl e) =
        let others : c ∣ product cuts =
        subst (λ (i : ℕ). i ∣ product cuts) (ap (λ (i : ℕ). c / i) (sym e) ∙ div-one c) (gauss c b (product cuts) (omega arith) d) in
        let (j, m, s) = later others in
        (suc j, omega arith, s)
    go later (inr m) = (zero, zero-lt-suc (length cuts), m)

-- the products of all cuts but one have no common divisor p * c with c > 1
no_larger_divisor : (p : ℕ) (cuts : List ℕ) → Minimal p cuts → (c : ℕ) → ((k : ℕ) → k < length cuts → p * c ∣ product (without k cuts))
    → c ∣ product cuts → 1 < c → ⊥
no_larger_divisor p cuts minimal c d whole l =
    let (j, m, s) = shares-factor c cuts l whole in
    lowered j m s
  where
    lowered : (j : ℕ) → j < length cuts → 1 < gcd c (get_or cuts j 0) → ⊥
    lowered j m s = differ (minimal_unchanged p cuts j b' minimal m low (le_of_dvd positive (divides b' g split')) still)
      where
        b : ℕ
        b = get_or cuts j 0

        g : ℕ
        g = gcd c b

        b' : ℕ
        b' = b / g

        positive : zero < b
        positive = positive-at cuts minimal.positive j m

        split : g * b' ≡ b
        split = mul-div_cancel' g (gcd-dvd_right c b)

        split' : b ≡ b' * g
        split' = omega (arith, split)

        low : 1 ≤ b'
        low = quotient_pos g positive (gcd-dvd_right c b)

        differ : b' ≡ b → ⊥
        differ e = omega (arith, split, e, positive, mul-le-mul_right b' s)

        -- g divides c, so p * g divides the product of all cuts but one
        still : (k : ℕ) → k < length cuts → k ≢ j → p ∣ b' * product_but j k cuts
        still k n z =
            let R : ℕ = product_but j k cuts in
            let now : product (without k cuts) ≡ b * R = product-without_but cuts j k m n z in
            let more : g * p ∣ g * (b' * R) =
            subst (λ (i : ℕ). i ∣ g * (b' * R)) (omega arith)
            (subst (λ (i : ℕ). p * g ∣ i) (now ∙ ap (λ (i : ℕ). i * R) (sym split) ∙ omega arith)
            (dvd_trans (p * g) (mul-dvd-mul_left g p (gcd-dvd_left c b)) (d k n))) in
            dvd_of_mul-dvd-mul_left p (omega arith) more

minimal_tiles-dvd : (p : ℕ) (cuts : List ℕ) → zero < p → Minimal p cuts → product cuts ∣ p * p
minimal_tiles-dvd p [] hp minimal = one-dvd (p * p)
minimal_tiles-dvd p (b1 ∷ later) hp minimal =
    subst (λ (i : ℕ). product cuts ∣ p * i) exact (dvd-mul_gcd_below (length cuts) p (product cuts) others each)
  where
    cuts : List ℕ
    cuts = b1 ∷ later

    others : ℕ → ℕ
    others k = product (without k cuts)

    G : ℕ
    G = gcd_below (length cuts) others

    each : (k : ℕ) → k < length cuts → product cuts ∣ p * others k
    each k l =
        subst⁻¹ (λ (i : ℕ). i ∣ p * others k) (product-without k cuts l)
        (mul-dvd-mul_right (get_or cuts k 0) (minimal_cut-dvd p cuts minimal k l) (others k))

    -- p divides them all, so it divides their greatest common divisor
    over : p ∣ G
    over =
        subst (λ (i : ℕ). p ∣ i) (omega arith)
        (dvd-mul_gcd_below (length cuts) 1 p others (λ k l. subst (λ (i : ℕ). p ∣ i) (omega arith) (minimal.even k l)))

    whole : p * (G / p) ≡ G
    whole = mul-div_cancel' p over

    in_tiles : G ∣ product cuts
    in_tiles = dvd_trans G (gcd_below-dvd (length cuts) others 0 (zero-lt-suc (length later))) (dvd-mul_left (product later) b1)

    G_positive : zero < G
    G_positive = pos_of_dvd_of_pos in_tiles (product_positive cuts minimal.positive)

    exact : G ≡ p
    exact = is_one (eq-or-lt_of_le (quotient_pos p G_positive over))
      where
        is_one : (1 ≡ G / p) ⊎ (1 < G / p) → G ≡ p
        is_one (inl e) = sym whole ∙ ap (λ (i : ℕ). p * i) (sym e) ∙ mul-one p
        is_one (inr l) =
            absurd
            (no_larger_divisor p cuts minimal (G / p) (λ k m. subst⁻¹ (λ (i : ℕ). i ∣ others k) whole (gcd_below-dvd (length cuts) others k m))
            (dvd_trans (G / p) (subst (λ (i : ℕ). G / p ∣ i) whole (dvd-mul_left (G / p) p)) in_tiles) l)

-- ---- the cheapest cuts

module _ (p : ℕ) (most weights cuts : List ℕ) (e : cheapest_within p most weights ≡ some cuts) where
  -- each divides p
  pub cut-dvd-processors : (k : ℕ) → k < length cuts → get_or cuts k 0 ∣ p
  cut-dvd-processors = minimal_cut-dvd p cuts (cheapest_minimal p most weights cuts e)

  -- the number of tiles divides p * p
  pub tiles-dvd_square : zero < p → product cuts ∣ p * p
  tiles-dvd_square hp = minimal_tiles-dvd p cuts hp (cheapest_minimal p most weights cuts e)

  -- for p "1 to 4,096" the cuts are at most 4,096, and the tiles "at most 16,777,216"
  pub cut-le : zero < p → p ≤ 4096 → (k : ℕ) → k < length cuts → get_or cuts k 0 ≤ 4096
  cut-le hp small k l = le_trans (le_of_dvd hp (cut-dvd-processors k l)) small

  pub tiles-le : zero < p → p ≤ 4096 → product cuts ≤ 16777216
  tiles-le hp small = le_trans (le_of_dvd (mul-pos hp hp) (tiles-dvd_square hp)) (omega (arith, mul-le-mul_right p small))
