-- The laws of the greatest common divisor. All rest on three: gcd-dvd_left, gcd-dvd_right and dvd-gcd.
use mathlib.Core.Path.{◌≡◌, sym, ◌∙◌, ap, ap₂, subst}
use Prim.Native.Nat.{ℕ, zero, suc, ◌*◌, ◌/◌, ◌%◌, ◌≤◌, ◌<◌, ◌∣◌}
use native.Mathlib.Nat.{le_refl, le_trans, le_of_suc-le-suc, not-suc-le-zero, zero-lt-suc, mod-lt, eq-zero-or-pos}
use native.Mathlib.Nat.{dvd_refl, dvd-zero, one-dvd, dvd_trans, dvd_antisymm, dvd-mod_iff, dvd-mul_right, pos_of_dvd_of_pos}
use native.Mathlib.Nat.{mul-dvd-mul_left, dvd_of_mul-dvd-mul_left, mul-div_cancel', dvd-mul_right_of_dvd, mul-dvd-mul_right, mul_comm, zero-mul}
use mathlib.Core.Logic.{◌⊎◌, inl, inr}
use Rattle.numbers.specs.Gcd.{gcd, euclid}
use Rattle.numbers.proofs.Divides.{quotient_pos}

-- ---- what makes it the greatest common divisor

-- a divisor of the two numbers after a step divides the first number before it
step_back : (c a b : ℕ) → c ∣ b → c ∣ a % b → c ∣ a
step_back c a b hb h = (dvd-mod_iff c {m = a} {n = b} hb).0 h

euclid-dvd : (fuel a b : ℕ) → b ≤ fuel → (euclid fuel a b ∣ a) × (euclid fuel a b ∣ b)
unfolding euclid
euclid-dvd zero a zero h = (dvd_refl a, dvd-zero a)
euclid-dvd zero a (suc b) h = absurd (not-suc-le-zero h)
euclid-dvd (suc fuel) a zero h = (dvd_refl a, dvd-zero a)
euclid-dvd (suc fuel) a (suc b) h =
    let ih = euclid-dvd fuel (suc b) (a % suc b) (le_trans (le_of_suc-le-suc (mod-lt a (zero-lt-suc b))) (le_of_suc-le-suc h)) in
    (step_back (euclid fuel (suc b) (a % suc b)) a (suc b) ih.0 ih.1, ih.0)

euclid_greatest : (fuel a b c : ℕ) → c ∣ a → c ∣ b → c ∣ euclid fuel a b
unfolding euclid
euclid_greatest zero a b c ha hb = ha
euclid_greatest (suc fuel) a zero c ha hb = ha
euclid_greatest (suc fuel) a (suc b) c ha hb = euclid_greatest fuel (suc b) (a % suc b) c hb ((dvd-mod_iff c {m = a} {n = suc b} hb).1 ha)

pub gcd-dvd_left : (a b : ℕ) → gcd a b ∣ a
unfolding gcd
gcd-dvd_left a b = (euclid-dvd b a b (le_refl b)).0

pub gcd-dvd_right : (a b : ℕ) → gcd a b ∣ b
unfolding gcd
gcd-dvd_right a b = (euclid-dvd b a b (le_refl b)).1

pub dvd-gcd : (c a b : ℕ) → c ∣ a → c ∣ b → c ∣ gcd a b
unfolding gcd
dvd-gcd c a b ha hb = euclid_greatest b a b c ha hb

-- so it is the only number with these three laws
pub gcd_unique : (g a b : ℕ) → g ∣ a → g ∣ b → ((c : ℕ) → c ∣ a → c ∣ b → c ∣ g) → gcd a b ≡ g
gcd_unique g a b ha hb most = dvd_antisymm (most (gcd a b) (gcd-dvd_left a b) (gcd-dvd_right a b)) (dvd-gcd g a b ha hb)

-- ---- Euclid's step, as equations: what a loop goes by

pub gcd-zero : (a : ℕ) → gcd a zero ≡ a
gcd-zero a = gcd_unique a a zero (dvd_refl a) (dvd-zero a) (λ c h k. h)

pub gcd-one : (a : ℕ) → gcd a 1 ≡ 1
gcd-one a = gcd_unique 1 a 1 (one-dvd a) (dvd_refl 1) (λ c ha h. h)

pub gcd-step : (a b : ℕ) → gcd a b ≡ gcd b (a % b)
gcd-step a b =
    let g : ℕ = gcd b (a % b) in
    let gb : g ∣ b = gcd-dvd_left b (a % b) in
    gcd_unique g a b (step_back g a b gb (gcd-dvd_right b (a % b))) gb
    (λ c ha hb. dvd-gcd c b (a % b) hb ((dvd-mod_iff c {m = a} {n = b} hb).1 ha))

-- ---- commutative, associative, positive, and linear in a common factor

pub gcd_comm : (a b : ℕ) → gcd a b ≡ gcd b a
gcd_comm a b = gcd_unique (gcd b a) a b (gcd-dvd_right b a) (gcd-dvd_left b a) (λ c ha hb. dvd-gcd c b a hb ha)

pub gcd_assoc : (a b c : ℕ) → gcd (gcd a b) c ≡ gcd a (gcd b c)
gcd_assoc a b c =
    let g : ℕ = gcd a (gcd b c) in
    let gbc : g ∣ gcd b c = gcd-dvd_right a (gcd b c) in
    gcd_unique g (gcd a b) c
    (dvd-gcd g a b (gcd-dvd_left a (gcd b c)) (dvd_trans g gbc (gcd-dvd_left b c)))
    (dvd_trans g gbc (gcd-dvd_right b c))
    (λ e hab hc. dvd-gcd e a (gcd b c) (dvd_trans e hab (gcd-dvd_left a b)) (dvd-gcd e b c (dvd_trans e hab (gcd-dvd_right a b)) hc))

pub gcd_pos : (a b : ℕ) → zero < a → zero < gcd a b
gcd_pos a b h = pos_of_dvd_of_pos (gcd-dvd_left a b) h

pub gcd-mul_left : (k a b : ℕ) → gcd (k * a) (k * b) ≡ k * gcd a b
gcd-mul_left k a b = go (eq-zero-or-pos k)
  where
    -- the common divisor of the multiples is itself k times a common divisor
    upper : zero < k → gcd (k * a) (k * b) ∣ k * gcd a b
    upper h =
        let G : ℕ = gcd (k * a) (k * b) in
        let t : ℕ = G / k in
        let e : k * t ≡ G = mul-div_cancel' k (dvd-gcd k (k * a) (k * b) (dvd-mul_right k a) (dvd-mul_right k b)) in
        let ta : t ∣ a = dvd_of_mul-dvd-mul_left t h (rw e (gcd-dvd_left (k * a) (k * b))) in
        let tb : t ∣ b = dvd_of_mul-dvd-mul_left t h (rw e (gcd-dvd_right (k * a) (k * b))) in
        subst (λ (n : ℕ). n ∣ k * gcd a b) e (mul-dvd-mul_left t k (dvd-gcd t a b ta tb))

    lower : k * gcd a b ∣ gcd (k * a) (k * b)
    lower =
        dvd-gcd (k * gcd a b) (k * a) (k * b)
        (mul-dvd-mul_left (gcd a b) k (gcd-dvd_left a b))
        (mul-dvd-mul_left (gcd a b) k (gcd-dvd_right a b))

    go : (k ≡ zero) ⊎ (zero < k) → gcd (k * a) (k * b) ≡ k * gcd a b
    go (inl e) = rw e (simp (zero-mul, gcd-zero))
    go (inr h) = dvd_antisymm (upper h) lower

pub gcd-mul_right : (a b k : ℕ) → gcd (a * k) (b * k) ≡ gcd a b * k
gcd-mul_right a b k = ap₂ gcd (mul_comm a k) (mul_comm b k) ∙ gcd-mul_left k a b ∙ mul_comm k (gcd a b)

-- ---- a number and what its greatest common divisor with another leaves of it

-- the two factors of a, of which the first is shared with b
pub gcd_split : (a b : ℕ) → gcd a b * (a / gcd a b) ≡ a
gcd_split a b = mul-div_cancel' (gcd a b) (gcd-dvd_left a b)

pub gcd-rest_pos : (a b : ℕ) → zero < a → zero < a / gcd a b
gcd-rest_pos a b h = quotient_pos (gcd a b) h (gcd-dvd_left a b)

-- a divisor's gcd with its multiple is itself
pub gcd_of-dvd : (a b : ℕ) → a ∣ b → gcd a b ≡ a
gcd_of-dvd a b h = gcd_unique a a b (dvd_refl a) h (λ c ha hb. ha)

-- a divisor of the products of a and b with c divides the product of gcd a b with c
pub dvd-gcd-mul : (n a b c : ℕ) → n ∣ a * c → n ∣ b * c → n ∣ gcd a b * c
dvd-gcd-mul n a b c ha hb = rw (← gcd-mul_right a b c) (dvd-gcd n (a * c) (b * c) ha hb)

-- Gauss: what a does not share with b it must find in c
pub gauss : (a b c : ℕ) → zero < a → a ∣ b * c → a / gcd a b ∣ c
gauss a b c h d =
    dvd_of_mul-dvd-mul_left (a / gcd a b) (gcd_pos a b h)
    (rw (gcd_split a b) (dvd-gcd-mul a a b c (dvd-mul_right a c) d))

-- and the converse
pub gauss_back : (a b c : ℕ) → a / gcd a b ∣ c → a ∣ b * c
gauss_back a b c d =
    dvd_trans a (rw (gcd_split a b) at (mul-dvd-mul_left (a / gcd a b) (gcd a b) d))
    (mul-dvd-mul_right (gcd a b) (gcd-dvd_right a b) c)

-- the gcd with a product, one factor after the other
pub gcd-mul : (a b c : ℕ) → gcd a (b * c) ≡ gcd a b * gcd (a / gcd a b) c
gcd-mul a b c = dvd_antisymm there back ∙ split
  where
    there : gcd a (b * c) ∣ gcd a (gcd a b * c)
    there =
        let n : ℕ = gcd a (b * c) in
        let na : n ∣ a = gcd-dvd_left a (b * c) in
        dvd-gcd n a (gcd a b * c) na (dvd-gcd-mul n a b c (dvd-mul_right_of_dvd n na c) (gcd-dvd_right a (b * c)))

    back : gcd a (gcd a b * c) ∣ gcd a (b * c)
    back =
        let n : ℕ = gcd a (gcd a b * c) in
        dvd-gcd n a (b * c) (gcd-dvd_left a (gcd a b * c))
        (dvd_trans n (gcd-dvd_right a (gcd a b * c)) (mul-dvd-mul_right (gcd a b) (gcd-dvd_right a b) c))

    split : gcd a (gcd a b * c) ≡ gcd a b * gcd (a / gcd a b) c
    split = ap (λ (n : ℕ). gcd n (gcd a b * c)) (sym (gcd_split a b)) ∙ gcd-mul_left (gcd a b) (a / gcd a b) c

-- of a factor only what it shares with p is needed
pub dvd-gcd-factor : (p x y : ℕ) → p ∣ x * y → p ∣ gcd x p * y
dvd-gcd-factor p x y h = dvd-gcd-mul p x p y h (dvd-mul_right p y)
