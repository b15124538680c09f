-- Bézout's law over the natural numbers: gcd a b is a multiple of a, less a multiple of b.
use mathlib.Core.Path.{◌≡◌, ap}
use Prim.Native.Nat.{ℕ, zero, suc, ◌+◌, ◌*◌, ◌/◌, ◌%◌, ◌≤◌, ◌<◌}
use native.Mathlib.Nat.{le_refl, le_trans, le_of_suc-le-suc, not-suc-le-zero, zero-lt-suc, mod-lt, div-add-mod}
use native.Mathlib.Omega.{arith}
use Rattle.numbers.specs.Gcd.{gcd}
use Rattle.numbers.proofs.Gcd.{gcd-zero, gcd-step}

-- g is u times a, less v times b
abbrev pub Combination : ℕ → ℕ → ℕ → Type 0
Combination g a b = (u : ℕ) × (v : ℕ) × (a * u ≡ b * v + g)

-- the roles of two positive numbers may be exchanged
turn : (g a b : ℕ) → Combination g (suc b) (suc a) → Combination g (suc a) (suc b)
turn g a b (s, v, e) = ((v + s) * b + s, (v + s) * a + v, omega arith)

-- one step of Euclid's, backwards
step : (g a b q r : ℕ) → b * q + r ≡ a → Combination g b r → Combination g b a
step g a b q r e (u, v, k) = (u + q * v, v, omega (arith, ap (λ (n : ℕ). n * v) e))

combination : (fuel a b : ℕ) → zero < a → b ≤ fuel → Combination (gcd a b) a b
combination zero a zero ha h = (1, zero, omega (arith, gcd-zero a))
combination zero a (suc b) ha h = absurd (not-suc-le-zero h)
combination (suc fuel) a zero ha h = (1, zero, omega (arith, gcd-zero a))
combination (suc fuel) zero (suc b) ha h = absurd (not-suc-le-zero ha)
combination (suc fuel) (suc a) (suc b) ha h =
    let r : ℕ = suc a % suc b in
    let small : r ≤ fuel = le_trans (le_of_suc-le-suc (mod-lt (suc a) (zero-lt-suc b))) (le_of_suc-le-suc h) in
    rw (gcd-step (suc a) (suc b))
    (turn (gcd (suc b) r) a b
    (step (gcd (suc b) r) (suc a) (suc b) (suc a / suc b) r (div-add-mod (suc a) (suc b)) (combination fuel (suc b) r (zero-lt-suc b) small)))

pub bezout : (a b : ℕ) → zero < a → Combination (gcd a b) a b
bezout a b ha = combination b a b ha (le_refl b)
