-- Divisibility over the native ℕ: `a ∣ b` is `Prim.Native.Nat`'s, and most of its laws are in `native.Mathlib.Nat`.
-- Here are the few that the kit lacks. A witness of `a ∣ b` is always `b / a`, so nothing is taken out of the truncation.
use mathlib.Core.Path.{◌≡◌, subst⁻¹}
use Prim.Native.Nat.{ℕ, zero, ◌*◌, ◌/◌, ◌<◌, ◌∣◌}
use native.Mathlib.Nat.{dvd-mul_right, mul-div_cancel', pos_of_dvd_of_pos}
use native.Mathlib.Omega.{arith}

-- a witness makes a divisor
pub divides : (a c : ℕ) {b : ℕ} → b ≡ a * c → a ∣ b
divides a c e = subst⁻¹ (λ (n : ℕ). a ∣ n) e (dvd-mul_right a c)

-- a product is positive only if its factors are
pub pos_left : (a b : ℕ) → zero < a * b → zero < a
pos_left a b h = pos_of_dvd_of_pos (dvd-mul_right a b) h

pub pos_right : (a b : ℕ) → zero < a * b → zero < b
pos_right a b h = pos_of_dvd_of_pos (divides b a {b = a * b} (omega arith)) h

-- what divides a positive number has a positive quotient in it
pub quotient_pos : (a : ℕ) {b : ℕ} → zero < b → a ∣ b → zero < b / a
quotient_pos a {b} h d = pos_right a (b / a) (subst⁻¹ (λ (n : ℕ). zero < n) (mul-div_cancel' a d) h)
