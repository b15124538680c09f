-- The least common multiple, and its three laws.
use mathlib.Core.Path.{◌≡◌, sym, ◌∙◌, ap, subst}
use mathlib.Core.Logic.{◌⊎◌, inl, inr}
use Prim.Native.Nat.{ℕ, zero, ◌*◌, ◌/◌, ◌<◌, ◌∣◌}
use native.Mathlib.Nat.{dvd-mul_right, dvd-zero, mul-dvd-mul_left, mul-div_cancel', eq-zero-or-pos, eq-zero_of_zero-dvd, mul-pos}
use native.Mathlib.Omega.{arith}
use Rattle.numbers.specs.Gcd.{gcd}
use Rattle.numbers.proofs.Divides.{divides}
use Rattle.numbers.proofs.Gcd.{gcd_split, gcd-rest_pos, gcd-dvd_right, gauss}

-- a times what b does not share with a
unfoldable pub lcm : ℕ → ℕ → ℕ
lcm a b = a * (b / gcd b a)

pub lcm_pos : (a b : ℕ) → zero < a → zero < b → zero < lcm a b
unfolding lcm
lcm_pos a b ha hb = mul-pos ha (gcd-rest_pos b a hb)

pub dvd-lcm_left : (a b : ℕ) → a ∣ lcm a b
unfolding lcm
dvd-lcm_left a b = dvd-mul_right a (b / gcd b a)

pub dvd-lcm_right : (a b : ℕ) → b ∣ lcm a b
unfolding lcm
dvd-lcm_right a b =
    let g : ℕ = gcd b a in
    let ea : g * (a / g) ≡ a = mul-div_cancel' g (gcd-dvd_right b a) in
    let eb : g * (b / g) ≡ b = gcd_split b a in
    divides b (a / g)
    (ap (λ (n : ℕ). n * (b / g)) (sym ea) ∙ regroup g (a / g) (b / g) ∙ ap (λ (n : ℕ). n * (a / g)) eb)
  where
    regroup : (x y z : ℕ) → x * y * z ≡ x * z * y
    regroup x y z = omega arith

pub lcm_least : (a b n : ℕ) → a ∣ n → b ∣ n → lcm a b ∣ n
unfolding lcm
lcm_least a b n ha hb = go (eq-zero-or-pos b)
  where
    go : (b ≡ zero) ⊎ (zero < b) → a * (b / gcd b a) ∣ n
    go (inl e) = rw (eq-zero_of_zero-dvd (subst (λ (m : ℕ). m ∣ n) e hb)) (dvd-zero (a * (b / gcd b a)))
    go (inr h) =
        let e : a * (n / a) ≡ n = mul-div_cancel' a ha in
        subst (λ (m : ℕ). a * (b / gcd b a) ∣ m) e
        (mul-dvd-mul_left (b / gcd b a) a (gauss b a (n / a) h (rw e hb)))
