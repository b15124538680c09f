-- Lists read by places, counted from 0: the definitions that go through a list, one place more at a time, as a loop goes.
use mathlib.Core.Path.{◌≡◌, refl}
use mathlib.Core.Bool.{Bool, true, false, ◌&&◌, and_assoc}
use mathlib.Core.List.{List}
use mathlib.Core.Logic.{⊎_elim}
use Prim.Native.Nat.{ℕ, zero, suc, ◌+◌, ◌*◌, ◌^◌, ◌≤◌, ◌<◌}
use native.Mathlib.Nat.{le_refl, le_trans, lt_of_le_of_lt, eq-or-lt_of_le, mul-le-mul, mul-le-mul_right, mul-one, pow-suc, pow-zero, pow-le-pow_right}
use native.Mathlib.Numerals.{add-one}
use native.Mathlib.Omega.{arith}
use lib.Dec.{lit<}
use lib.ListN.{length, get_or, take}
use lib.Seq.{take-suc}
use Rattle.numbers.specs.Products.{product}
use Rattle.numbers.proofs.Products.{product-append}
use Rattle.multipartition.specs.Lists.{all_below}
use Rattle.multipartition.proofs.Tests.{and-true_iff, all_below-true_iff}
use Rattle.multipartition.proofs.Tiles.{lt-length}
use Rattle.layout.specs.Shaped.{Factors}

-- both parts of a true `&&`
pub both : (a b : Bool) → (a && b) ≡ true → (a ≡ true) × (b ≡ true)
both a b = (and-true_iff a b).0

-- numbers that are not 0 all stand in the list
pub le-length : (n : ℕ) (xs : List ℕ) → ((k : ℕ) → k < n → 1 ≤ get_or xs k 0) → n ≤ length xs
le-length zero xs h = omega arith
le-length (suc n) xs h = omega (arith, lt-length xs n (h n (omega arith)))

-- ---- tests

pub all_none : (test : ℕ → Bool) → all_below 0 test ≡ true
unfolding all_below
all_none test = refl

pub all-add-one : (n : ℕ) (test : ℕ → Bool) → all_below (n + 1) test ≡ (all_below n test && test n)
unfolding all_below
all-add-one n test = rw add-one

pub all-at : (n : ℕ) (test : ℕ → Bool) → all_below n test ≡ true → (k : ℕ) → k < n → test k ≡ true
all-at n test = (all_below-true_iff n test).0

pub all-ext : (n : ℕ) (f g : ℕ → Bool) → ((k : ℕ) → k < n → f k ≡ g k) → all_below n f ≡ all_below n g
unfolding all_below
all-ext zero f g h = refl
all-ext (suc n) f g h = rw (all-ext n f g (λ k l. h k (omega arith)), h n (omega arith))

-- the first test apart from the others
pub all_first : (n : ℕ) (test : ℕ → Bool) → all_below (suc n) test ≡ (test 0 && all_below n (λ k. test (suc k)))
unfolding all_below
all_first zero test = first_alone (test 0)
  where
    first_alone : (b : Bool) → (true && b) ≡ (b && true)
    first_alone true = refl
    first_alone false = refl
all_first (suc n) test = rw (all_first n test) (and_assoc (test 0) (all_below n (λ k. test (suc k))) (test (suc n)))

-- ---- products

pub product-add-one : (xs : List ℕ) (k : ℕ) → k < length xs → product (take (k + 1) xs) ≡ product (take k xs) * get_or xs k 0
product-add-one xs k h = rw (add-one, take-suc xs k 0 h, product-append) (omega arith)

-- k factors of at most c each
pub product_le : (c : ℕ) (xs : List ℕ) (k : ℕ) → k ≤ length xs → ((i : ℕ) → i < k → get_or xs i 0 ≤ c) → product (take k xs) ≤ c ^ k
product_le c xs zero l h = rw pow-zero (le_refl 1)
product_le c xs (suc k) l h =
    rw (← add-one k, product-add-one xs k (omega arith), add-one k, pow-suc)
    (mul-le-mul (product_le c xs k (omega arith) (λ i l. h i (omega arith))) (h k (omega arith)))

-- a factor more, of up to five numbers from 1 to 4,096: the product fits 64 bits
module _ (xs : List ℕ) (d k : ℕ) (f : Factors d xs) (l : k < d) where
  pub product-next : product (take (k + 1) xs) ≡ product (take k xs) * get_or xs k 0
  product-next = product-add-one xs k (omega (arith, le-length d xs f.low))

  pub product_fits : product (take k xs) * get_or xs k 0 < 2 ^ 64
  product_fits =
      let front : product (take k xs) ≤ 4096 ^ k
      = product_le 4096 xs k (omega (arith, le-length d xs f.low)) (λ i m. f.high i (omega arith)) in
      let four : k ≤ 4 = omega (arith, f.few) in
      let power : 4096 ^ k ≤ 4096 ^ 4 = pow-le-pow_right (lit< tt) four in
      lt_of_le_of_lt (mul-le-mul (le_trans front power) (f.high k l)) (lit< tt)

-- numbers from 1 on: the product is at least 1
pub product_pos : (xs : List ℕ) (n : ℕ) → n ≤ length xs → ((i : ℕ) → i < n → 1 ≤ get_or xs i 0) → 1 ≤ product (take n xs)
product_pos xs zero l h = le_refl 1
product_pos xs (suc n) l h =
    rw (← add-one n, product-add-one xs n (omega arith))
    (mul-le-mul (product_pos xs n (omega arith) (λ i l. h i (omega arith))) (h n (omega arith)))

-- numbers from 1 on: no product of a front is above the whole product
pub product_front : (xs : List ℕ) (n : ℕ) → n ≤ length xs → ((i : ℕ) → i < n → 1 ≤ get_or xs i 0) → (k : ℕ) → k ≤ n
    → product (take k xs) ≤ product (take n xs)
product_front xs zero long h k l = let e : k ≡ 0 = omega arith in rw e (le_refl _)
product_front xs (suc n) long h k l =
    ⊎_elim
    (λ q. rw q (le_refl _))
    (λ m. let inner : k ≤ n = omega arith in
    rw (← add-one n, product-add-one xs n (omega arith))
    (simp mul-one at (mul-le-mul (product_front xs n (omega arith) (λ i l. h i (omega arith)) k inner) (h n (omega arith)))))
    (eq-or-lt_of_le l)

-- numbers from 1 on: none is above the product
pub factor-le : (xs : List ℕ) (n : ℕ) → n ≤ length xs → ((i : ℕ) → i < n → 1 ≤ get_or xs i 0) → (k : ℕ) → k < n
    → get_or xs k 0 ≤ product (take n xs)
factor-le xs n long h k l =
    let upto : product (take (k + 1) xs) ≤ product (take n xs) = product_front xs n long h (k + 1) (omega arith) in
    let last : 1 * get_or xs k 0 ≤ product (take k xs) * get_or xs k 0
    = mul-le-mul_right (get_or xs k 0) (product_pos xs k (omega arith) (λ i m. h i (omega arith))) in
    omega (arith, upto, last, product-add-one xs k (omega arith))
