-- Whole numbers modulo m: the natural numbers that stand for them, and their remainders. A whole number is the difference of its two parts, one
-- of which is 0, so that every law here is one of congruence of natural numbers.
use mathlib.Core.Path.{◌≡◌, refl, sym, ap, ◌∙◌}
use mathlib.Core.Bool.{Bool, true, false, not, cond}
use Prim.Native.Nat.{ℕ, zero, suc, ◌+◌, ◌-◌, ◌*◌, ◌/◌, ◌%◌, ◌≤◌, ◌<◌, ◌∣◌}
use native.Mathlib.Nat.{mul-zero, mod-lt, mod-eq_of_lt, div-add-mod, zero-mod, dvd-mul_right_of_dvd, mod-eq-zero_of_dvd}
use native.Mathlib.Omega.{arith}
use lib.Dec.{T, ltb, ltb→lt, nltb→le}
use lib.IntN.{ℤ, pos, negsuc, neg_ℤ, sub_ℕ, ◌+ℤ◌, ◌-ℤ◌, ◌*ℤ◌}
use Rattle.numbers.proofs.Congruence.{Congruent, congruent-add, congruent-mul, congruent_cancel-add, congruent_of-dvd, add_multiple}
use Rattle.multipartition.specs.Matrix.{remainder}
use Rattle.multipartition.specs.WholeNumbers.{plus, minus, Stands}

-- ---- sums, differences and multiples by their two parts

sub_parts : (a b : ℕ) → plus (sub_ℕ a b) + b ≡ minus (sub_ℕ a b) + a
sub_parts a b = go (ltb a b) (ltb→lt a b) (nltb→le a b)
  where
    go : (c : Bool) → (T c → a < b) → (T (not c) → b ≤ a)
        → plus (cond c (negsuc (b - suc a)) (pos (a - b))) + b ≡ minus (cond c (negsuc (b - suc a)) (pos (a - b))) + a
    go true f g = let h : a < b = f tt in omega arith
    go false f g = let h : b ≤ a = g tt in omega arith

add_parts : (u v : ℤ) → plus (u +ℤ v) + (minus u + minus v) ≡ minus (u +ℤ v) + (plus u + plus v)
add_parts (pos a) (pos b) = omega arith
add_parts (pos a) (negsuc b) = omega (arith, sub_parts a (suc b))
add_parts (negsuc a) (pos b) = omega (arith, sub_parts b (suc a))
add_parts (negsuc a) (negsuc b) = omega arith

plus-neg : (z : ℤ) → plus (neg_ℤ z) ≡ minus z
plus-neg (pos zero) = refl
plus-neg (pos (suc n)) = refl
plus-neg (negsuc n) = refl

minus-neg : (z : ℤ) → minus (neg_ℤ z) ≡ plus z
minus-neg (pos zero) = refl
minus-neg (pos (suc n)) = refl
minus-neg (negsuc n) = refl

plus_times : (t : ℕ) (z : ℤ) → plus (pos t *ℤ z) ≡ t * plus z
plus_times t (pos n) = refl
plus_times t (negsuc n) = plus-neg (pos (t * suc n)) ∙ sym (mul-zero t)

minus-times : (t : ℕ) (z : ℤ) → minus (pos t *ℤ z) ≡ t * minus z
minus-times t (pos n) = sym (mul-zero t)
minus-times t (negsuc n) = minus-neg (pos (t * suc n))

take_parts : (u v : ℤ) (t : ℕ)
    → plus (u -ℤ pos t *ℤ v) + (minus u + t * plus v) ≡ minus (u -ℤ pos t *ℤ v) + (plus u + t * minus v)
take_parts u v t =
    ap (λ (x : ℕ). plus (u -ℤ pos t *ℤ v) + (minus u + x)) (sym (minus-neg (pos t *ℤ v) ∙ plus_times t v))
    ∙ add_parts u (neg_ℤ (pos t *ℤ v))
    ∙ ap (λ (x : ℕ). minus (u -ℤ pos t *ℤ v) + (plus u + x)) (plus-neg (pos t *ℤ v) ∙ minus-times t v)

-- ---- what stands for a difference, for a remainder, and modulo a divisor

-- Where neg stands for -1: if x stands for u and y for v, then x + neg * (t * y) stands for u - t * v.
pub stands-take : (m neg : ℕ) → m ∣ neg + 1 → (u v : ℤ) (t x y : ℕ) → Stands m u x → Stands m v y
    → Stands m (u -ℤ pos t *ℤ v) (x + neg * (t * y))
unfolding Stands
stands-take m neg d u v t x y e f = congruent_cancel-add m (minus u + t * minus v + t * y) (x + neg * (t * y) + minus z) (plus z) both
  where
    z : ℤ
    z = u -ℤ pos t *ℤ v

    around : Congruent m (t * y + neg * (t * y)) 0
    around =
        ap (λ (n : ℕ). n % m) (omega arith)
        ∙ mod-eq-zero_of_dvd m (dvd-mul_right_of_dvd m d (t * y))
        ∙ sym (zero-mod m)

    parts : plus z + (minus u + t * plus v) ≡ minus z + (plus u + t * minus v)
    parts = take_parts u v t

    both : Congruent m (minus u + t * minus v + t * y + (x + neg * (t * y) + minus z)) (minus u + t * minus v + t * y + plus z)
    both =
        ap (λ (n : ℕ). n % m) (omega arith)
        ∙ congruent-add m (x + minus u + (minus z + t * minus v)) (plus u + (minus z + t * minus v)) (t * y + neg * (t * y)) 0
        (congruent-add m (x + minus u) (plus u) (minus z + t * minus v) (minus z + t * minus v) e refl) around
        ∙ ap (λ (n : ℕ). n % m) (omega (arith, parts))
        ∙ congruent-add m (plus z + minus u) (plus z + minus u) (t * plus v) (t * (y + minus v)) refl
        (congruent-mul m t t (plus v) (y + minus v) refl (sym f))
        ∙ ap (λ (n : ℕ). n % m) (omega arith)

-- a congruent number stands for the same
pub stands_congruent : (m : ℕ) (z : ℤ) (n n' : ℕ) → Congruent m n n' → Stands m z n → Stands m z n'
unfolding Stands
stands_congruent m z n n' c e = congruent-add m n' n (minus z) (minus z) (sym c) refl ∙ e

pub stands-remainder : (m : ℕ) (z : ℤ) (n : ℕ) → zero < m → Stands m z n → remainder z m ≡ n % m
unfolding Stands remainder
stands-remainder m (pos a) n l e = sym e ∙ ap (λ (x : ℕ). x % m) (omega arith)
stands-remainder m (negsuc a) n l e =
    sym (mod-eq_of_lt low)
    ∙ congruent_cancel-add m (suc a) (m - suc (a % m)) n
    (ap (λ (x : ℕ). x % m) whole ∙ add_multiple m 0 (suc (a / m)) ∙ sym e ∙ ap (λ (x : ℕ). x % m) (omega arith))
  where
    small : a % m < m
    small = mod-lt a l

    low : m - suc (a % m) < m
    low = omega (arith, small)

    split : m * (a / m) + a % m ≡ a
    split = div-add-mod a m

    whole : suc a + (m - suc (a % m)) ≡ 0 + m * suc (a / m)
    whole = omega (arith, small, split)

pub stands-dvd : (m p : ℕ) (z : ℤ) (n : ℕ) → m ∣ p → Stands p z n → Stands m z n
unfolding Stands
stands-dvd m p z n d e = congruent_of-dvd m p (n + minus z) (plus z) d e

pub stands-nat : (m n : ℕ) → Stands m (pos n) n
unfolding Stands
stands-nat m n = ap (λ (x : ℕ). x % m) (omega arith)

-- ---- the difference of two naturals

difference_parts : (c a : ℕ) → plus (pos c -ℤ pos a) + a ≡ minus (pos c -ℤ pos a) + c
difference_parts c a =
    omega (arith, add_parts (pos c) (neg_ℤ (pos a)), plus-neg (pos a), minus-neg (pos a))

-- y stands for c - a, if y + a is congruent to c
pub stands_difference : (m c a y : ℕ) → Congruent m (y + a) c → Stands m (pos c -ℤ pos a) y
unfolding Stands
stands_difference m c a y e =
    congruent_cancel-add m a (y + minus z) (plus z)
    (ap (λ (n : ℕ). n % m) (omega arith)
    ∙ congruent-add m (y + a) c (minus z) (minus z) e refl
    ∙ ap (λ (n : ℕ). n % m) (omega (arith, difference_parts c a)))
  where
    z : ℤ
    z = pos c -ℤ pos a

-- so its remainder is that of y
pub remainder_difference : (m c a y : ℕ) → zero < m → Congruent m (y + a) c → remainder (pos c -ℤ pos a) m ≡ y % m
remainder_difference m c a y l e = stands-remainder m (pos c -ℤ pos a) y l (stands_difference m c a y e)
