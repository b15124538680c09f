-- Congruence: x ~ y (mod m) is that their remainders are equal.
use mathlib.Core.Path.{◌≡◌, sym, ◌∙◌, ap, ap₂, subst}
use Prim.Native.Nat.{ℕ, zero, ◌+◌, ◌-◌, ◌*◌, ◌/◌, ◌%◌, ◌≤◌, ◌<◌, ◌∣◌}
use native.Mathlib.Nat.{add-mod, mod-mod_of_dvd, div-add-mod, add-mul-mod_self_left}
use native.Mathlib.Nat.{mul-sub, mul-div_cancel'}
use native.Mathlib.Nat.{mul-add, mul-dvd-mul_left, dvd_of_mul-dvd-mul_left}
use native.Mathlib.Decide.{dec_le}
use native.Mathlib.Omega.{arith}
use Rattle.numbers.proofs.Divides.{divides}
use Rattle.numbers.proofs.Lcm.{lcm, lcm_least}

-- equal remainders
abbrev pub Congruent : ℕ → ℕ → ℕ → Type 0
Congruent m x y = x % m ≡ y % m

-- ---- x ~ y is that m divides their distance

-- the distance of two numbers
abbrev pub dist : ℕ → ℕ → ℕ
dist x y = (x - y) + (y - x)

-- a multiple of m added changes no remainder
pub add_multiple : (m x k : ℕ) → Congruent m (x + m * k) x
add_multiple m x k = add-mul-mod_self_left x m k

pub sub_congruent : (m x y : ℕ) → x ≤ y → m ∣ y - x → Congruent m x y
sub_congruent m x y h d =
    let e : m * ((y - x) / m) ≡ y - x = mul-div_cancel' m d in
    let f : x + m * ((y - x) / m) ≡ y = omega arith in
    sym (add_multiple m x ((y - x) / m)) ∙ ap (λ (n : ℕ). n % m) f

pub congruent-sub : (m x y : ℕ) → x ≤ y → Congruent m x y → m ∣ y - x
congruent-sub m x y h e =
    let ex : m * (x / m) + x % m ≡ x = div-add-mod x m in
    let ey : m * (y / m) + y % m ≡ y = div-add-mod y m in
    divides m (y / m - x / m) (mul-sub_form ex ey)
  where
    mul-sub_form : m * (x / m) + x % m ≡ x → m * (y / m) + y % m ≡ y → y - x ≡ m * (y / m - x / m)
    mul-sub_form ex ey = rw mul-sub (omega arith)

pub congruent_dist : (m x y : ℕ) → Congruent m x y → m ∣ dist x y
congruent_dist m x y e = go (dec_le x y)
  where
    go : Dec (x ≤ y) → m ∣ dist x y
    go (yes h) = subst (λ (n : ℕ). m ∣ n) (omega arith) (congruent-sub m x y h e)
    go (no h) = subst (λ (n : ℕ). m ∣ n) (omega arith) (congruent-sub m y x (omega arith) (sym e))

pub dist_congruent : (m x y : ℕ) → m ∣ dist x y → Congruent m x y
dist_congruent m x y d = go (dec_le x y)
  where
    go : Dec (x ≤ y) → Congruent m x y
    go (yes h) = sub_congruent m x y h (subst (λ (n : ℕ). m ∣ n) (omega arith) d)
    go (no h) = sym (sub_congruent m y x (omega arith) (subst (λ (n : ℕ). m ∣ n) (omega arith) d))

-- ---- sums, products and divisors of the modulus

pub congruent-add : (m x x' y y' : ℕ) → Congruent m x x' → Congruent m y y' → Congruent m (x + y) (x' + y')
congruent-add m x x' y y' e f = add-mod x y m ∙ ap₂ (λ (a b : ℕ). (a + b) % m) e f ∙ sym (add-mod x' y' m)

pub mul-mod : (x y m : ℕ) → (x * y) % m ≡ (x % m) * (y % m) % m
mul-mod x y m =
    let ex : m * (x / m) + x % m ≡ x = div-add-mod x m in
    let ey : m * (y / m) + y % m ≡ y = div-add-mod y m in
    ap₂ (λ (a b : ℕ). a * b % m) (sym ex) (sym ey) ∙ ap (λ (n : ℕ). n % m) (split (x / m) (x % m) (y / m) (y % m))
    ∙ add_multiple m (x % m * (y % m)) (x / m * (m * (y / m) + y % m) + x % m * (y / m))
  where
    split : (q r s t : ℕ) → (m * q + r) * (m * s + t) ≡ r * t + m * (q * (m * s + t) + r * s)
    split q r s t = omega arith

pub congruent-mul : (m x x' y y' : ℕ) → Congruent m x x' → Congruent m y y' → Congruent m (x * y) (x' * y')
congruent-mul m x x' y y' e f = mul-mod x y m ∙ ap₂ (λ (a b : ℕ). a * b % m) e f ∙ sym (mul-mod x' y' m)

-- a congruence holds modulo each divisor of its modulus
pub congruent_of-dvd : (n m x y : ℕ) → n ∣ m → Congruent m x y → Congruent n x y
congruent_of-dvd n m x y d e = sym (mod-mod_of_dvd n x d) ∙ ap (λ (k : ℕ). k % n) e ∙ mod-mod_of_dvd n y d

-- a term on both sides, and a factor of both sides and of the modulus, may be left out
pub congruent_cancel-add : (m c x y : ℕ) → Congruent m (c + x) (c + y) → Congruent m x y
congruent_cancel-add m c x y e = dist_congruent m x y (subst (λ (n : ℕ). m ∣ n) (omega arith) (congruent_dist m (c + x) (c + y) e))

dist-mul : (t x y : ℕ) → dist (t * x) (t * y) ≡ t * dist x y
dist-mul t x y = sym (mul-add t (x - y) (y - x) ∙ ap₂ ◌+◌ (mul-sub t x y) (mul-sub t y x))

pub congruent-mul_left : (t m x y : ℕ) → Congruent m x y → Congruent (t * m) (t * x) (t * y)
congruent-mul_left t m x y e = dist_congruent (t * m) (t * x) (t * y) (rw dist-mul (mul-dvd-mul_left m t (congruent_dist m x y e)))

pub congruent_cancel-mul : (t m x y : ℕ) → zero < t → Congruent (t * m) (t * x) (t * y) → Congruent m x y
congruent_cancel-mul t m x y h e =
    dist_congruent m x y (dvd_of_mul-dvd-mul_left m h (rw dist-mul at (congruent_dist (t * m) (t * x) (t * y) e)))

-- congruences modulo two numbers are one modulo their least common multiple
pub congruent-lcm : (m n x y : ℕ) → Congruent m x y → Congruent n x y → Congruent (lcm m n) x y
congruent-lcm m n x y e f = dist_congruent (lcm m n) x y (lcm_least m n (dist x y) (congruent_dist m x y e) (congruent_dist n x y f))
