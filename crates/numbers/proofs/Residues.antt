-- Counting residues in a run of consecutive numbers.
use mathlib.Core.Path.{◌≡◌, refl, sym, ◌∙◌, ap, subst}
use mathlib.Core.Logic.{◌⊎◌, inl, inr}
use Prim.Native.Nat.{ℕ, zero, ◌+◌, ◌-◌, ◌*◌, ◌/◌, ◌%◌, ◌≤◌, ◌<◌, ◌∣◌}
use native.Mathlib.Nat.{add-mod_right, mod-lt, mod-eq_of_lt, div-mul_cancel, mul-div_cancel', mul-one, eq-zero-or-pos, zero-div, pos_of_dvd_of_pos, mul-le-mul_right, mul-dvd-mul_left}
use native.Mathlib.Decide.{ℕ_discrete}
use native.Mathlib.Omega.{arith}
use Rattle.numbers.specs.Gcd.{gcd}
use Rattle.numbers.specs.Sums.{sum, same}
use Rattle.numbers.proofs.Divides.{pos_left, pos_right}
use Rattle.numbers.proofs.Gcd.{gcd-mul_left, gcd-dvd_left, gcd-dvd_right}
use Rattle.numbers.proofs.Lcm.{lcm, lcm_pos, lcm_least, dvd-lcm_left, dvd-lcm_right}
use Rattle.numbers.proofs.Bezout.{bezout}
use Rattle.numbers.proofs.Congruence.{Congruent, congruent_of-dvd, congruent-add, congruent-mul_left, congruent_cancel-add, congruent_cancel-mul, congruent-lcm, congruent-sub, add_multiple}
use Rattle.numbers.proofs.Sums.{sum-ext, sum-zero, sum_periods, sum_shift, count-one, same_yes, same_no, both_yes, both_no}

-- among b consecutive numbers, each residue of a divisor m of b is met b / m times
pub count_residue : (b m Y c : ℕ) → m ∣ b → c < m → sum b (λ i. same ((i + Y) % m) c) ≡ b / m
count_residue b m Y c d h =
    let f : ℕ → ℕ = λ y. same (y % m) c in
    let period : (i : ℕ) → f (i + m) ≡ f i = λ i. ap (λ (n : ℕ). same n c) (add-mod_right i m) in
    let one : sum m f ≡ 1 = sum-ext m f (λ i. same i c) (λ i l. ap (λ (n : ℕ). same n c) (mod-eq_of_lt l)) ∙ count-one m c h in
    let run : sum (b / m * m) (λ i. f (i + Y)) ≡ b / m * sum m (λ i. f (i + Y)) =
    sum_periods (b / m) m (λ i. f (i + Y)) (λ i. ap f (omega arith) ∙ period (i + Y)) in
    ap (λ (n : ℕ). sum n (λ i. f (i + Y))) (sym (div-mul_cancel m d)) ∙ run
    ∙ ap (λ (n : ℕ). b / m * n) (sum_shift Y m f period ∙ one) ∙ mul-one (b / m)

-- the same with any number for the residue. A start below zero, U - V, is counted with Y = U and c + V for c; in count_joint with e + V for e and A + t * V for A
pub count_congruent : (b m Y c : ℕ) → m ∣ b → zero < m → sum b (λ i. same ((i + Y) % m) (c % m)) ≡ b / m
count_congruent b m Y c d h = count_residue b m Y (c % m) d (mod-lt c h)

-- ---- two conditions at once on the numbers of a run

-- 1 where x ~ e (mod m) and A ~ c + t * x (mod r), else 0
unfoldable pub joint : (m r t A c e : ℕ) → ℕ → ℕ
joint m r t A c e x = same (x % m) (e % m) * same (A % r) ((c + t * x) % r)

module _ (m g t A c e : ℕ) where
  -- the two conditions have a common solution, if their residues agree modulo what the two moduli share
  solution : zero < m → zero < t * g → Congruent (gcd (t * m) (t * g)) A (c + t * e) → (y : ℕ) × Congruent m y e × Congruent (t * g) A (c + t * y)
  solution hm hr agree =
      let d : ℕ = gcd m g in
      let p : ℕ = c + t * e in
      let (u, v, uv) = bezout m g hm in
      let shared : gcd (t * m) (t * g) ≡ t * d = gcd-mul_left t m g in
      let higher : p ≤ A + t * g * p = omega (arith, mul-le-mul_right p hr) in
      let raised : Congruent (t * d) (A + t * g * p) A =
      congruent_of-dvd (t * d) (t * g) (A + t * g * p) A (mul-dvd-mul_left d t (gcd-dvd_right m g)) (add_multiple (t * g) A p) in
      let agree' : Congruent (t * d) p (A + t * g * p) = sym (raised ∙ subst (λ (n : ℕ). Congruent n A p) shared agree) in
      let k : ℕ = (A + t * g * p - p) / (t * d) in
      let split : t * d * k ≡ A + t * g * p - p = mul-div_cancel' (t * d) (congruent-sub (t * d) p (A + t * g * p) higher agree') in
      let same_number : c + t * (e + m * (u * k)) ≡ A + t * g * (p + v * k) = meet d p u v k refl uv split higher in
      (e + m * (u * k), add_multiple m e (u * k), sym (ap (λ (n : ℕ). n % (t * g)) same_number ∙ add_multiple (t * g) A (p + v * k)))
    where
      meet : (d p u v k : ℕ) → p ≡ c + t * e → m * u ≡ g * v + d → t * d * k ≡ A + t * g * p - p → p ≤ A + t * g * p
          → c + t * (e + m * (u * k)) ≡ A + t * g * (p + v * k)
      meet d p u v k start uv split higher = omega (arith, ap (λ (n : ℕ). t * k * n) uv)

  -- modulo the least common multiple the solution is the only one
  joint_is-one_residue : (y : ℕ) → zero < t * g → Congruent m y e → Congruent (t * g) A (c + t * y)
      → (x : ℕ) → joint m (t * g) t A c e x ≡ same (x % lcm m g) (y % lcm m g)
  unfolding joint
  joint_is-one_residue y hr ym yr x = go (ℕ_discrete (x % lcm m g) (y % lcm m g))
    where
      solves_m : Congruent (lcm m g) x y → Congruent m x e
      solves_m s = congruent_of-dvd m (lcm m g) x y (dvd-lcm_left m g) s ∙ ym

      solves_r : Congruent (lcm m g) x y → Congruent (t * g) A (c + t * x)
      solves_r s =
          yr
          ∙ congruent-add (t * g) c c (t * y) (t * x) refl
          (congruent_of-dvd (t * g) (t * lcm m g) (t * y) (t * x) (mul-dvd-mul_left g t (dvd-lcm_right m g)) (congruent-mul_left t (lcm m g) y x (sym s)))

      only : Congruent m x e → Congruent (t * g) A (c + t * x) → Congruent (lcm m g) x y
      only sm sr =
          congruent-lcm m g x y (sm ∙ sym ym)
          (congruent_cancel-mul t g x y (pos_left t g hr) (congruent_cancel-add (t * g) c (t * x) (t * y) (sym sr ∙ yr)))

      go : Dec (Congruent (lcm m g) x y)
          → same (x % m) (e % m) * same (A % (t * g)) ((c + t * x) % (t * g)) ≡ same (x % lcm m g) (y % lcm m g)
      go (yes s) =
          both_yes (x % m) (e % m) (A % (t * g)) ((c + t * x) % (t * g)) (solves_m s) (solves_r s)
          ∙ sym (same_yes (x % lcm m g) (y % lcm m g) s)
      go (no n) =
          both_no (x % m) (e % m) (A % (t * g)) ((c + t * x) % (t * g)) (λ sm sr. n (only sm sr))
          ∙ sym (same_no (x % lcm m g) (y % lcm m g) n)

  -- where the residues disagree there is no solution
  joint_is_none : ¬ Congruent (gcd (t * m) (t * g)) A (c + t * e) → (x : ℕ) → joint m (t * g) t A c e x ≡ zero
  unfolding joint
  joint_is_none disagree x =
      both_no (x % m) (e % m) (A % (t * g)) ((c + t * x) % (t * g))
      (λ (sm : Congruent m x e) (sr : Congruent (t * g) A (c + t * x)). disagree (agree sm sr))
    where
      agree : Congruent m x e → Congruent (t * g) A (c + t * x) → Congruent (gcd (t * m) (t * g)) A (c + t * e)
      agree sm sr =
          let n : ℕ = gcd (t * m) (t * g) in
          congruent_of-dvd n (t * g) A (c + t * x) (gcd-dvd_right (t * m) (t * g)) sr
          ∙ congruent-add n c c (t * x) (t * e) refl
          (congruent_of-dvd n (t * m) (t * x) (t * e) (gcd-dvd_left (t * m) (t * g)) (congruent-mul_left t m x e sm))

  -- the two counts over a run of b numbers, at the modulus t * g
  count_solutions : (b Y : ℕ) → m ∣ b → g ∣ b → zero < t * g → Congruent (gcd (t * m) (t * g)) A (c + t * e)
      → sum b (λ i. joint m (t * g) t A c e (i + Y)) ≡ b / lcm m g
  unfolding sum
  count_solutions b Y mb gb hr agree = go (eq-zero-or-pos b)
    where
      go : (b ≡ zero) ⊎ (zero < b) → sum b (λ i. joint m (t * g) t A c e (i + Y)) ≡ b / lcm m g
      go (inl empty) = rw empty (sym (zero-div (lcm m g)))
      go (inr hb) =
          let hm : zero < m = pos_of_dvd_of_pos mb hb in
          let (y, ym, yr) = solution hm hr agree in
          sum-ext b (λ i. joint m (t * g) t A c e (i + Y)) (λ i. same ((i + Y) % lcm m g) (y % lcm m g))
          (λ i l. joint_is-one_residue y hr ym yr (i + Y))
          ∙ count_congruent b (lcm m g) Y y (lcm_least m g b mb gb) (lcm_pos m g hm (pos_right t g hr))

  count_no_solutions : (b Y : ℕ) → ¬ Congruent (gcd (t * m) (t * g)) A (c + t * e) → sum b (λ i. joint m (t * g) t A c e (i + Y)) ≡ zero
  count_no_solutions b Y disagree =
      sum-ext b (λ i. joint m (t * g) t A c e (i + Y)) (λ i. zero) (λ i l. joint_is_none disagree (i + Y)) ∙ sum-zero b

-- where the residues agree, each run of b numbers has b / lcm m g solutions, wherever it starts and whatever the residues
pub count_joint : (b m g t r Y A c e : ℕ) → m ∣ b → g ∣ b → t * g ≡ r → zero < r
    → Congruent (gcd (t * m) r) A (c + t * e) → sum b (λ i. joint m r t A c e (i + Y)) ≡ b / lcm m g
count_joint b m g t r Y A c e mb gb tg =
    subst (λ (n : ℕ). zero < n → Congruent (gcd (t * m) n) A (c + t * e) → sum b (λ i. joint m n t A c e (i + Y)) ≡ b / lcm m g) tg
    (count_solutions m g t A c e b Y mb gb)

-- and elsewhere none
pub count_joint_none : (b m g t r Y A c e : ℕ) → t * g ≡ r
    → ¬ Congruent (gcd (t * m) r) A (c + t * e) → sum b (λ i. joint m r t A c e (i + Y)) ≡ zero
count_joint_none b m g t r Y A c e tg =
    subst (λ (n : ℕ). ¬ Congruent (gcd (t * m) n) A (c + t * e) → sum b (λ i. joint m n t A c e (i + Y)) ≡ zero) tg
    (count_no_solutions m g t A c e b Y)
