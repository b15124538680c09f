-- Decimal numbers: the two equations of `decimal`, that its digits read back to the number, and that it makes exactly the numerals. Each goes
-- from n / 10 to n.
use mathlib.Core.Path.{◌≡◌, refl, sym, ap, ◌∙◌, subst}
use mathlib.Core.Bool.{Bool, true, false}
use mathlib.Core.List.{List, [], ◌∷◌, ◌++◌, append_assoc, append-nil}
use mathlib.Core.Logic.{◌⊎◌, inl, inr, ⊎_elim}
use Prim.Native.Nat.{ℕ, zero, suc, ◌+◌, ◌-◌, ◌*◌, ◌/◌, ◌%◌, ◌^◌, ◌≤◌, ◌<◌}
use native.Mathlib.Nat.{zero-add, not-suc-le-zero, pow-suc}
use native.Mathlib.Omega.{arith}
use lib.Dec.{ltb}
use lib.ListN.{length, length-append}
use borrow.Author.Tests.{lt-ltb, le-ltb, ltb-true, ltb-false}
use Rattle.std.specs.Fmt as std
use Rattle.std.proofs.lemmas.Fmt.{AppendsLastDigit, decimal_from_appends, length-decimal-le_succ}
use Rattle.numerals.specs.Decimal.{digit, decimal_within, decimal, Digits, Numeral, value_after, value_of}

pub lt_or-le : (a b : ℕ) → (a < b) ⊎ (b ≤ a)
lt_or-le a b = by_test (ltb a b) refl
  where
    by_test : (t : Bool) → ltb a b ≡ t → (a < b) ⊎ (b ≤ a)
    by_test true e = inl (ltb-true a b e)
    by_test false e = inr (ltb-false a b e)

-- ---- the equations of `decimal`

within_small : (fuel n : ℕ) → n < 10 → decimal_within (suc fuel) n ≡ digit n ∷ []
unfolding decimal_within
within_small fuel n h = rw (lt-ltb n 10 h, decimal_within)

within_more : (fuel n : ℕ) → 10 ≤ n → decimal_within (suc fuel) n ≡ decimal_within fuel (n / 10) ++ (digit (n % 10) ∷ [])
unfolding decimal_within
within_more fuel n h = rw (le-ltb n 10 h, decimal_within)

within_enough : (f g n : ℕ) → n < f → n < g → decimal_within f n ≡ decimal_within g n
within_enough zero g n h k = absurd (not-suc-le-zero h)
within_enough (suc f) zero n h k = absurd (not-suc-le-zero k)
within_enough (suc f) (suc g) n h k = ⊎_elim small (more (within_enough f g (n / 10))) (lt_or-le n 10)
  where
    small : n < 10 → decimal_within (suc f) n ≡ decimal_within (suc g) n
    small l = within_small f n l ∙ sym (within_small g n l)

    more : (n / 10 < f → n / 10 < g → decimal_within f (n / 10) ≡ decimal_within g (n / 10)) → 10 ≤ n → decimal_within (suc f) n ≡ decimal_within (suc g) n
    more ih l =
        within_more f n l
        ∙ ap (λ (t : List ℕ). t ++ (digit (n % 10) ∷ [])) (ih (omega arith) (omega arith))
        ∙ sym (within_more g n l)

pub decimal_small : (n : ℕ) → n < 10 → decimal n ≡ digit n ∷ []
unfolding decimal
decimal_small n h = within_small n n h

pub decimal_more : (n : ℕ) → 10 ≤ n → decimal n ≡ decimal (n / 10) ++ (digit (n % 10) ∷ [])
unfolding decimal
decimal_more n h =
    within_more n n h
    ∙ ap (λ (t : List ℕ). t ++ (digit (n % 10) ∷ [])) (within_enough n (suc (n / 10)) (n / 10) (omega arith) (omega arith))

-- a digit after a number other than 0
pub decimal_digit : (v d : ℕ) → 0 < v → d < 10 → decimal (v * 10 + d) ≡ decimal v ++ (digit d ∷ [])
decimal_digit v d h k =
    let front : (v * 10 + d) / 10 ≡ v = omega arith in
    let last : (v * 10 + d) % 10 ≡ d = omega arith in
    decimal_more (v * 10 + d) (omega arith)
    ∙ ap (λ (x : ℕ). decimal x ++ (digit ((v * 10 + d) % 10) ∷ [])) front
    ∙ ap (λ (x : ℕ). decimal v ++ (digit x ∷ [])) last

-- what holds below 10, and of n where it holds of n / 10, holds of every number
pub by_tens : (P : ℕ → Type 0) → ((n : ℕ) → n < 10 → P n) → ((n : ℕ) → 10 ≤ n → P (n / 10) → P n) → (n : ℕ) → P n
by_tens P small more n = go (suc n) n (omega arith)
  where
    go : (fuel m : ℕ) → m < fuel → P m
    go zero m h = absurd (not-suc-le-zero h)
    go (suc fuel) m h = ⊎_elim (small m) (λ k. more m k (go fuel (m / 10) (omega arith))) (lt_or-le m 10)

-- a number below 10 ^ k, for a k above 0, has at most k digits
pub length-decimal : (k n : ℕ) → n < 10 ^ suc k → length (decimal n) ≤ suc k
length-decimal zero n h = let e = ap length (decimal_small n h) in omega arith
length-decimal (suc k) n h = ⊎_elim small (more (length-decimal k (n / 10))) (lt_or-le n 10)
  where
    small : n < 10 → length (decimal n) ≤ suc (suc k)
    small l = let e = ap length (decimal_small n l) in omega arith

    more : (n / 10 < 10 ^ suc k → length (decimal (n / 10)) ≤ suc k) → 10 ≤ n → length (decimal n) ≤ suc (suc k)
    more ih l =
        let power : 10 ^ suc (suc k) ≡ 10 ^ suc k * 10 = pow-suc 10 (suc k) in
        let shorter = ih (omega arith) in
        let e = ap length (decimal_more n l) ∙ length-append (decimal (n / 10)) (digit (n % 10) ∷ []) in
        omega arith

-- ---- the library writes the same digits

decimal_appends : AppendsLastDigit decimal_within
decimal_appends = record { one = within_small; more = within_more }

pub decimal-std : (n : ℕ) → n < 2 ^ 64 → std.decimal n ≡ decimal n
unfolding decimal
decimal-std n h = sym (decimal_from_appends decimal_within decimal_appends (suc n) n h (omega (arith, length-decimal-le_succ n h)))

-- ---- the digits of a number read back to it

value-append : (v : ℕ) (s t : List ℕ) → value_after v (s ++ t) ≡ value_after (value_after v s) t
value-append v [] t = refl
value-append v (b ∷ s) t = value-append (v * 10 + (b - 48)) s t

pub value-decimal : (n : ℕ) → value_of (decimal n) ≡ n
value-decimal = by_tens (λ m. value_of (decimal m) ≡ m) small more
  where
    small : (m : ℕ) → m < 10 → value_of (decimal m) ≡ m
    small m h = ap value_of (decimal_small m h) ∙ omega arith

    more : (m : ℕ) → 10 ≤ m → value_of (decimal (m / 10)) ≡ m / 10 → value_of (decimal m) ≡ m
    more m h ih = ap value_of (decimal_more m h) ∙ value-append 0 (decimal (m / 10)) (digit (m % 10) ∷ []) ∙ omega arith

pub decimal_injective : (m n : ℕ) → decimal m ≡ decimal n → m ≡ n
decimal_injective m n e = sym (value-decimal m) ∙ ap value_of e ∙ value-decimal n

-- ---- every numeral is what `decimal` makes of its value

digits_after : (v : ℕ) (bs : List ℕ) → 0 < v → Digits bs → decimal v ++ bs ≡ decimal (value_after v bs)
digits_after v [] h d = append-nil (decimal v)
digits_after v (b ∷ bs) h d =
    let low = d.0 in
    let high = d.1 in
    let byte : 48 + (b - 48) ≡ b = omega arith in
    sym (append_assoc (decimal v) (b ∷ []) bs)
    ∙ ap (λ (x : ℕ). (decimal v ++ (x ∷ [])) ++ bs) (sym byte)
    ∙ ap (λ (t : List ℕ). t ++ bs) (sym (decimal_digit v (b - 48) h (omega arith)))
    ∙ digits_after (v * 10 + (b - 48)) bs (omega arith) d.2

pub numeral_is-decimal : (t : List ℕ) → Numeral t → t ≡ decimal (value_of t)
numeral_is-decimal [] n = absurd n
numeral_is-decimal (b ∷ bs) n = ⊎_elim other zero (lt_or-le 48 b)
  where
    low : 48 ≤ b
    low = n.0.0

    high : b ≤ 57
    high = n.0.1

    other : 48 < b → b ∷ bs ≡ decimal (value_of (b ∷ bs))
    other h =
        let byte : 48 + (b - 48) ≡ b = omega arith in
        ap (λ (x : ℕ). x ∷ bs) (sym byte)
        ∙ ap (λ (t : List ℕ). t ++ bs) (sym (decimal_small (b - 48) (omega arith)))
        ∙ digits_after (b - 48) bs (omega arith) n.0.2
        ∙ ap (λ (x : ℕ). decimal (value_after x bs)) (sym (zero-add (b - 48)))

    zero : b ≤ 48 → b ∷ bs ≡ decimal (value_of (b ∷ bs))
    zero h =
        let e : b ≡ 48 = omega arith in
        subst (λ (x : ℕ). x ∷ bs ≡ decimal (value_of (x ∷ bs))) (sym e)
        (subst (λ (r : List ℕ). 48 ∷ r ≡ decimal (value_of (48 ∷ r))) (sym (n.1 e)) (sym (decimal_small 0 (omega arith))))

-- ---- and what `decimal` makes is a numeral

digits_append : (s t : List ℕ) → Digits s → Digits t → Digits (s ++ t)
digits_append [] t hs ht = ht
digits_append (b ∷ s) t hs ht = (hs.0, hs.1, digits_append s t hs.2 ht)

-- digits of which the first is not "0"
abbrev Positive : List ℕ → Type 0
Positive [] = ⊥
Positive (b ∷ bs) = Digits (b ∷ bs) × (48 < b)

positive-append : (s t : List ℕ) → Positive s → Digits t → Positive (s ++ t)
positive-append [] t hs ht = absurd hs
positive-append (b ∷ s) t hs ht = (digits_append (b ∷ s) t hs.0 ht, hs.1)

positive_numeral : (t : List ℕ) → Positive t → Numeral t
positive_numeral [] h = absurd h
positive_numeral (b ∷ bs) h = (h.0, λ e. let k = h.1 in absurd (omega arith))

decimal_positive : (n : ℕ) → 0 < n → Positive (decimal n)
decimal_positive = by_tens (λ m. 0 < m → Positive (decimal m)) small more
  where
    small : (m : ℕ) → m < 10 → 0 < m → Positive (decimal m)
    small m h k = subst Positive (sym (decimal_small m h)) ((omega arith, omega arith, tt), omega arith)

    more : (m : ℕ) → 10 ≤ m → (0 < m / 10 → Positive (decimal (m / 10))) → 0 < m → Positive (decimal m)
    more m h ih k =
        subst Positive (sym (decimal_more m h))
        (positive-append (decimal (m / 10)) (digit (m % 10) ∷ []) (ih (omega arith)) (omega arith, omega arith, tt))

pub decimal_is_numeral : (n : ℕ) → Numeral (decimal n)
decimal_is_numeral n = ⊎_elim (λ h. positive_numeral (decimal n) (decimal_positive n h)) zero (lt_or-le 0 n)
  where
    zero : n ≤ 0 → Numeral (decimal n)
    zero h =
        let e : n ≡ 0 = omega arith in
        subst (λ (m : ℕ). Numeral (decimal m)) (sym e)
        (subst Numeral (sym (decimal_small 0 (omega arith))) ((omega arith, omega arith, tt), λ e. refl))
