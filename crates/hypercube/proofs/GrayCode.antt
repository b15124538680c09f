-- One bits, and the reflected Gray code: on one to six bits consecutive numbers, around the end too, have codes one bit apart, which is one
-- computed test.
use mathlib.Core.Path.{◌≡◌, refl, sym, ap, ap₂, ◌∙◌, subst}
use mathlib.Core.Bool.{true}
use Prim.Native.Nat.{ℕ, zero, suc, ◌+◌, ◌*◌, ◌/◌, ◌%◌, ◌^◌, ◌≤◌, ◌<◌}
use native.Mathlib.Nat.{le_refl, lt_of_le_of_lt, not-suc-le-zero, div-le_self, div-lt_iff_lt-mul, add-zero, pow-suc}
use native.Mathlib.Decide.{le_ind}
use native.Mathlib.Omega.{arith}
use borrow.Author.Tests.{eqb-true}
use lib.Dec.{eqb}
use lib.Arith.{half_le, lt-one}
use lib.Bits.{bit_xor, block_half, block_odd, xor_lt, xor_self, xor_comm, xor_block}
use Rattle.multipartition.specs.Lists.{all_below}
use Rattle.multipartition.proofs.Tests.{all_below-true_iff}
use Rattle.hypercube.specs.Hypercube.{gray, ones_in, ones, bits_apart}

-- ---- one bits

ones_more : (n a : ℕ) → a ≤ n → ones_in (suc n) a ≡ ones_in n a
unfolding ones_in
ones_more zero zero h = refl
ones_more zero (suc a) h = absurd (not-suc-le-zero h)
ones_more (suc n) zero h = refl
ones_more (suc n) (suc a) h = ap (λ (x : ℕ). suc a % 2 + x) (ones_more n (suc a / 2) (half_le h))

ones_enough : (n a : ℕ) → a ≤ n → ones_in n a ≡ ones_in a a
ones_enough n a h = le_ind (λ (m : ℕ). ones_in m a ≡ ones_in a a) refl (λ m k e. ones_more m a k ∙ e) n h

-- the lowest bit, and the others
ones_step : (n : ℕ) → ones n ≡ n % 2 + ones (n / 2)
unfolding ones ones_in
ones_step zero = refl
ones_step (suc a) = ap (λ (x : ℕ). suc a % 2 + x) (ones_enough a (suc a / 2) (half_le (le_refl (suc a))))

-- the k lowest bits, and the others
ones_block : (k a r : ℕ) → r < 2 ^ k → ones (a * 2 ^ k + r) ≡ ones a + ones r
unfolding ones ones_in
ones_block zero a r h =
    let none : r ≡ 0 = lt-one h in
    let whole : a * 1 + 0 ≡ a = omega arith in
    rw (none, whole) (sym (add-zero (ones_in a a)))
ones_block (suc k) a r h =
    let two : zero < 2 = omega arith in
    let half : r / 2 < 2 ^ k = (div-lt_iff_lt-mul two).1 (subst (λ (n : ℕ). r < n) (pow-suc 2 k) h) in
    ones_step (a * 2 ^ suc k + r)
    ∙ ap₂ (λ (b n : ℕ). b + ones n) (block_odd a k r) (block_half a k r)
    ∙ omega (arith, ones_block k a (r / 2) half, ones_step r)

-- ---- bits in which two numbers differ

pub apart_self : (a : ℕ) → bits_apart a a ≡ 0
unfolding bits_apart ones ones_in
apart_self a = ap (λ (n : ℕ). ones_in n n) (xor_self a)

pub apart_comm : (a b : ℕ) → bits_apart a b ≡ bits_apart b a
unfolding bits_apart
apart_comm a b = ap ones (xor_comm a b)

-- the upper and the lower bits apart
pub apart_block : (k a b r s : ℕ) → r < 2 ^ k → s < 2 ^ k → bits_apart (a * 2 ^ k + r) (b * 2 ^ k + s) ≡ bits_apart a b + bits_apart r s
unfolding bits_apart
apart_block k a b r s h l = ap ones (xor_block k a b r s h l) ∙ ones_block k (bit_xor a b) (bit_xor r s) (xor_lt k r s h l)

-- ---- the code

pub gray_below : (e r : ℕ) → r < 2 ^ e → gray r < 2 ^ e
unfolding gray
gray_below e r l = xor_lt e r (r / 2) l (lt_of_le_of_lt (div-le_self r 2) l)

-- for e from 1 to 6, the codes of r and of the next number modulo 2 to the power e are one bit apart
gray_test : all_below 6 (λ e. all_below (2 ^ suc e) (λ r. eqb (bits_apart (gray r) (gray (suc r % 2 ^ suc e))) 1)) ≡ true
unfolding all_below gray bits_apart ones ones_in
gray_test = refl

pub gray-next : (e r : ℕ) → 1 ≤ e → e ≤ 6 → r < 2 ^ e → bits_apart (gray r) (gray (suc r % 2 ^ e)) ≡ 1
gray-next zero r low high l = absurd (not-suc-le-zero low)
gray-next (suc e) r low high l =
    eqb-true (bits_apart (gray r) (gray (suc r % 2 ^ suc e))) 1
    ((all_below-true_iff (2 ^ suc e) (λ r. eqb (bits_apart (gray r) (gray (suc r % 2 ^ suc e))) 1)).0
    ((all_below-true_iff 6 (λ e. all_below (2 ^ suc e) (λ r. eqb (bits_apart (gray r) (gray (suc r % 2 ^ suc e))) 1))).0 gray_test e high) r l)
