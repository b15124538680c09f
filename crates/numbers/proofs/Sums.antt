-- The laws of bounded sums and of counts, which are sums of indicators.
use mathlib.Core.Path.{◌≡◌, refl, sym, ◌∙◌, ap, ap₂}
use Prim.Native.Nat.{ℕ, zero, suc, ◌+◌, ◌-◌, ◌*◌, ◌≤◌, ◌<◌}
use native.Mathlib.Nat.{le_step, not-suc-le-zero, lt-suc_self, add-zero, add-suc, add_assoc, zero-mul, mul-zero, add_comm}
use native.Mathlib.Decide.{ℕ_discrete}
use native.Mathlib.Numerals.{add-one}
use native.Mathlib.Omega.{arith}
use borrow.Author.Tests.{eq-eqb, ne_eqb}
use Rattle.numbers.specs.Sums.{sum, indicator, same}

pub same_yes : (x y : ℕ) → x ≡ y → same x y ≡ 1
unfolding same
same_yes x y e = ap indicator (eq-eqb x y e)

pub same_no : (x y : ℕ) → (x ≡ y → ⊥) → same x y ≡ zero
unfolding same
same_no x y f = ap indicator (ne_eqb x y f)

pub same-le : (x y : ℕ) → same x y ≤ 1
same-le x y = go (ℕ_discrete x y)
  where
    go : Dec (x ≡ y) → same x y ≤ 1
    go (yes e) = omega (arith, same_yes x y e)
    go (no f) = omega (arith, same_no x y f)

-- a product of indicators is 1 where both equations hold, else 0
pub both_yes : (x y z w : ℕ) → x ≡ y → z ≡ w → same x y * same z w ≡ 1
both_yes x y z w e f = ap₂ ◌*◌ (same_yes x y e) (same_yes z w f)

pub both_no : (x y z w : ℕ) → (x ≡ y → z ≡ w → ⊥) → same x y * same z w ≡ zero
both_no x y z w n = go (ℕ_discrete x y)
  where
    go : Dec (x ≡ y) → same x y * same z w ≡ zero
    go (yes e) = ap (λ (k : ℕ). same x y * k) (same_no z w (n e)) ∙ mul-zero (same x y)
    go (no f) = ap (λ (k : ℕ). k * same z w) (same_no x y f) ∙ zero-mul (same z w)

-- ---- laws of sums

-- the bound, by an equation
pub sum_to : (a b : ℕ) (f : ℕ → ℕ) → a ≡ b → sum a f ≡ sum b f
sum_to a b f e = ap (λ (n : ℕ). sum n f) e

-- equal terms below b make equal sums
pub sum-ext : (b : ℕ) (f g : ℕ → ℕ) → ((i : ℕ) → i < b → f i ≡ g i) → sum b f ≡ sum b g
unfolding sum
sum-ext zero f g h = refl
sum-ext (suc b) f g h = ap₂ ◌+◌ (sum-ext b f g (λ i l. h i (le_step l))) (h b (lt-suc_self b))

pub sum-zero : (b : ℕ) → sum b (λ i. zero) ≡ zero
unfolding sum
sum-zero zero = refl
sum-zero (suc b) = omega (arith, sum-zero b)

pub sum-const : (b c : ℕ) → sum b (λ i. c) ≡ b * c
unfolding sum
sum-const zero c = sym (zero-mul c)
sum-const (suc b) c = omega (arith, sum-const b c)

pub sum-add : (b : ℕ) (f g : ℕ → ℕ) → sum b (λ i. f i + g i) ≡ sum b f + sum b g
unfolding sum
sum-add zero f g = refl
sum-add (suc b) f g = omega (arith, sum-add b f g)

pub sum-mul_left : (b k : ℕ) (f : ℕ → ℕ) → sum b (λ i. k * f i) ≡ k * sum b f
unfolding sum
sum-mul_left zero k f = sym (mul-zero k)
sum-mul_left (suc b) k f = omega (arith, sum-mul_left b k f)

-- two sums may be exchanged
pub sum-swap : (a b : ℕ) (f : ℕ → ℕ → ℕ) → sum a (λ i. sum b (λ j. f i j)) ≡ sum b (λ j. sum a (λ i. f i j))
unfolding sum
sum-swap zero b f = sym (sum-zero b)
sum-swap (suc a) b f =
    ap (λ (n : ℕ). n + sum b (λ j. f a j)) (sum-swap a b f) ∙ sym (sum-add b (λ j. sum a (λ i. f i j)) (λ j. f a j))

-- a sum in two runs
pub sum_split : (a b : ℕ) (f : ℕ → ℕ) → sum (a + b) f ≡ sum a f + sum b (λ i. f (a + i))
unfolding sum
sum_split a zero f = ap (λ (n : ℕ). sum n f) (add-zero a) ∙ sym (add-zero (sum a f))
sum_split a (suc b) f =
    ap (λ (n : ℕ). sum n f) (add-suc a b) ∙ ap (λ (n : ℕ). n + f (a + b)) (sum_split a b f)
    ∙ add_assoc (sum a f) (sum b (λ i. f (a + i))) (f (a + b))

-- one term more
pub sum-add-one : (n : ℕ) (f : ℕ → ℕ) → sum (n + 1) f ≡ sum n f + f n
unfolding sum
sum-add-one n f = rw add-one

-- the front of a sum, and each term of it, is at most the sum
pub sum_front-le : (m n : ℕ) (f : ℕ → ℕ) → m ≤ n → sum m f ≤ sum n f
sum_front-le m n f l = omega (arith, sum_to n (m + (n - m)) f (omega arith), sum_split m (n - m) f)

pub sum_term-le : (n i : ℕ) (f : ℕ → ℕ) → i < n → f i ≤ sum n f
unfolding sum
sum_term-le n i f l = omega (arith, sum_front-le (suc i) n f l)

-- the numbers below b that equal c: one, if c is below b
pub count_none : (b c : ℕ) → b ≤ c → sum b (λ i. same i c) ≡ zero
count_none b c h = sum-ext b (λ i. same i c) (λ i. zero) (λ i l. same_no i c (λ e. omega arith)) ∙ sum-zero b

pub count-one : (b c : ℕ) → c < b → sum b (λ i. same i c) ≡ 1
unfolding sum
count-one zero c h = absurd (not-suc-le-zero h)
count-one (suc b) c h = go (λ l. count-one b c l) (ℕ_discrete b c)
  where
    go : (c < b → sum b (λ i. same i c) ≡ 1) → Dec (b ≡ c) → sum b (λ i. same i c) + same b c ≡ 1
    go below (yes e) = omega (arith, count_none b c (omega arith), same_yes b c e)
    go below (no f) = omega (arith, below (omega arith), same_no b c f)

-- ---- a sum of a function that repeats with period m

abbrev pub Periodic : ℕ → (ℕ → ℕ) → Type 0
Periodic m f = (i : ℕ) → f (i + m) ≡ f i

-- k periods sum to k times one
pub sum_periods : (k m : ℕ) (f : ℕ → ℕ) → Periodic m f → sum (k * m) f ≡ k * sum m f
unfolding sum
sum_periods zero m f per = ap (λ (n : ℕ). sum n f) (zero-mul m) ∙ sym (zero-mul (sum m f))
sum_periods (suc k) m f per =
    let first : sum (suc k * m) f ≡ sum (m + k * m) f = sum_to (suc k * m) (m + k * m) f (omega arith) in
    let later : sum (k * m) (λ i. f (m + i)) ≡ sum (k * m) f =
    sum-ext (k * m) (λ i. f (m + i)) f (λ i l. ap f (add_comm m i) ∙ per i) in
    omega (arith, first, sum_split m (k * m) f, later, sum_periods k m f per)

-- wherever one period starts, it has the same sum
pub sum_shift : (Y m : ℕ) (f : ℕ → ℕ) → Periodic m f → sum m (λ i. f (i + Y)) ≡ sum m f
unfolding sum
sum_shift zero m f per = sum-ext m (λ i. f (i + zero)) f (λ i l. ap f (add-zero i))
sum_shift (suc Y) m f per =
    let g : ℕ → ℕ = λ i. f (i + Y) in
    let split : sum (1 + m) g ≡ sum 1 g + sum m (λ i. g (1 + i)) = sum_split 1 m g in
    let count : sum (1 + m) g ≡ sum m g + g m = sum_to (1 + m) (suc m) g (omega arith) in
    let ends : g m ≡ g zero = ap f (omega arith) ∙ per (zero + Y) in
    let later : sum m (λ i. f (i + suc Y)) ≡ sum m (λ i. g (1 + i)) =
    sum-ext m (λ i. f (i + suc Y)) (λ i. g (1 + i)) (λ i l. ap f (omega arith)) in
    omega (arith, split, count, ends, later, sum_shift Y m f per)
