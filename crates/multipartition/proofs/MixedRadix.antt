-- Digits in mixed radix: a number and its digits are made from each other. With the last digit fastest the first digit is multiplied by all
-- later bases, with the first fastest it is the remainder; the others are the same question for the later bases.
use mathlib.Core.Path.{◌≡◌, refl, sym, ap, ap₂, ◌∙◌, subst, subst⁻¹}
use mathlib.Core.List.{List, [], ◌∷◌, reverse, reverse_aux}
use Prim.Native.Nat.{ℕ, zero, suc, ◌+◌, ◌*◌, ◌/◌, ◌%◌, ◌<◌, ◌≤◌}
use native.Mathlib.Nat.{zero-lt-suc, suc-ne-zero, suc_inj, mul-pos, mul_comm, mod-lt, mod-one, mod-eq_of_lt, div-one, div-add-mod', div-lt_iff_lt-mul, div-div-eq-div-mul, mul-add-div_right, mul-add-mod_self_right}
use native.Mathlib.Omega.{arith}
use lib.Arith.{lt-one, digits_lt, digits_div, digits_mod, mod-mul}
use lib.ListN.{length, get_or, set, take, drop}
use Rattle.numbers.specs.Products.{product}
use Rattle.multipartition.specs.Lists.{first, rest}
use Rattle.multipartition.specs.MixedRadix.{number_from, digits_of, number_up, digits_up}
use Rattle.multipartition.specs.Tiles.{Inside}

-- no base is 0
unfoldable pub Positive : List ℕ → Type 0
Positive [] = Unit {0}
Positive (b ∷ bases) = (zero < b) × Positive bases

pub product_positive : (bases : List ℕ) → Positive bases → zero < product bases
unfolding Positive
product_positive [] h = zero-lt-suc 0
product_positive (b ∷ bases) h = mul-pos h.0 (product_positive bases h.1)

pub positive_of_places : (bases : List ℕ) → ((i : ℕ) → i < length bases → 1 ≤ get_or bases i 0) → Positive bases
unfolding Positive
positive_of_places [] h = tt
positive_of_places (b ∷ bases) h = (h 0 (omega arith), positive_of_places bases (λ i l. h (suc i) (omega arith)))

-- the product of the bases from k on, one base apart
pub product-drop : (bases : List ℕ) (k : ℕ) → k < length bases → product (drop k bases) ≡ get_or bases k 0 * product (drop (suc k) bases)
product-drop [] k l = absurd (omega arith)
product-drop (b ∷ bases) zero l = refl
product-drop (b ∷ bases) (suc k) l = product-drop bases k (omega arith)

-- ---- the first number of a list and the others, by places

pub first-at : (xs : List ℕ) → first xs ≡ get_or xs 0 0
first-at [] = refl
first-at (x ∷ xs) = refl

pub rest_at : (xs : List ℕ) (k : ℕ) → get_or (rest xs) k 0 ≡ get_or xs (suc k) 0
rest_at [] k = refl
rest_at (x ∷ xs) k = refl

-- ---- numbers

-- what the number starts from is multiplied by all bases
pub number_from_lem : (n : ℕ) (bases digits : List ℕ) → number_from n bases digits ≡ n * product bases + number_from 0 bases digits
unfolding number_from
number_from_lem n [] digits = omega arith
number_from_lem n (b ∷ bases) digits =
    omega (arith, number_from_lem (n * b + first digits) bases (rest digits), number_from_lem (0 * b + first digits) bases (rest digits))

-- the first digit is multiplied by all later bases
pub number-first : (b : ℕ) (bases digits : List ℕ)
    → number_from 0 (b ∷ bases) digits ≡ first digits * product bases + number_from 0 bases (rest digits)
unfolding number_from
number-first b bases digits = omega (arith, number_from_lem (0 * b + first digits) bases (rest digits))

pub number_below : (bases digits : List ℕ) → Inside bases digits → number_from 0 bases digits < product bases
unfolding number_from Inside
number_below [] [] h = zero-lt-suc 0
number_below [] (c ∷ digits) h = absurd h
number_below (b ∷ bases) [] h = absurd h
number_below (b ∷ bases) (c ∷ digits) h =
    subst⁻¹ (λ (n : ℕ). n < b * product bases) (number-first b bases (c ∷ digits)) (digits_lt h.0 (number_below bases digits h.1))

-- ---- digits

pub digits_inside : (bases : List ℕ) (n : ℕ) → Positive bases → Inside bases (digits_of bases n)
unfolding digits_of Inside Positive
digits_inside [] n h = tt
digits_inside (b ∷ bases) n h = (mod-lt (n / product bases) h.0, digits_inside bases n h.1)

-- a multiple of all bases changes no digit
pub digits_from : (n r : ℕ) (bases : List ℕ) → Positive bases → digits_of bases (n * product bases + r) ≡ digits_of bases r
unfolding digits_of Positive
digits_from n r [] h = refl
digits_from n r (b ∷ bases) h =
    ap₂ (λ (c : ℕ) (digits : List ℕ). c ∷ digits)
    (ap (λ (x : ℕ). x / product bases % b) regroup
    ∙ ap (λ (x : ℕ). x % b) (mul-add-div_right (product_positive bases h.1) (n * b) r)
    ∙ mul-add-mod_self_right n b (r / product bases))
    (ap (digits_of bases) regroup ∙ digits_from (n * b) r bases h.1)
  where
    regroup : n * (b * product bases) + r ≡ n * b * product bases + r
    regroup = omega arith

-- ---- both ways

-- the digits of a number are those that it was made of
pub digits_of_number : (bases digits : List ℕ) → Positive bases → Inside bases digits → digits_of bases (number_from 0 bases digits) ≡ digits
unfolding digits_of Inside Positive
digits_of_number [] [] h w = refl
digits_of_number [] (c ∷ digits) h w = absurd w
digits_of_number (b ∷ bases) [] h w = absurd w
digits_of_number (b ∷ bases) (c ∷ digits) h w =
    ap₂ (λ (c : ℕ) (digits : List ℕ). c ∷ digits)
    (ap (λ (x : ℕ). x / product bases % b) (number-first b bases (c ∷ digits))
    ∙ ap (λ (x : ℕ). x % b) (digits_div c (number_below bases digits w.1))
    ∙ mod-eq_of_lt w.0)
    (ap (digits_of bases) (number-first b bases (c ∷ digits))
    ∙ digits_from c (number_from 0 bases digits) bases h.1
    ∙ digits_of_number bases digits h.1 w.1)

-- the digits of any number make its remainder by the product of the bases
pub number_of_digits-mod : (bases : List ℕ) (n : ℕ) → Positive bases → number_from 0 bases (digits_of bases n) ≡ n % product bases
unfolding digits_of Positive number_from
number_of_digits-mod [] n h = sym (mod-one n)
number_of_digits-mod (b ∷ bases) n h =
    number-first b bases (digits_of (b ∷ bases) n)
    ∙ ap (λ (x : ℕ). n / product bases % b * product bases + x) (number_of_digits-mod bases n h.1)
    ∙ sym (mod-mul n h.0 (product_positive bases h.1))

-- and the number itself where it is below that product
pub number_of_digits : (bases : List ℕ) (n : ℕ) → Positive bases → n < product bases → number_from 0 bases (digits_of bases n) ≡ n
number_of_digits bases n h l = number_of_digits-mod bases n h ∙ mod-eq_of_lt l

-- ---- by places, counted from 0

pub length_digits : (bases : List ℕ) (n : ℕ) → length (digits_of bases n) ≡ length bases
unfolding digits_of
length_digits [] n = refl
length_digits (b ∷ bases) n = ap suc (length_digits bases n)

pub digit_at : (bases : List ℕ) (n k : ℕ) → k < length bases → get_or (digits_of bases n) k 0 ≡ n / product (drop (suc k) bases) % get_or bases k 0
unfolding digits_of
digit_at [] n k l = absurd (omega arith)
digit_at (b ∷ bases) n zero l = refl
digit_at (b ∷ bases) n (suc k) l = digit_at bases n k (omega arith)

-- a number rests on as many digits as there are bases
pub number-ext : (n : ℕ) (bases c d : List ℕ) → ((i : ℕ) → i < length bases → get_or c i 0 ≡ get_or d i 0) → number_from n bases c ≡ number_from n bases d
unfolding number_from
number-ext n [] c d h = refl
number-ext n (b ∷ bases) c d h =
    let same : first c ≡ first d = first-at c ∙ h 0 (omega arith) ∙ sym (first-at d) in
    rw same
    (number-ext (n * b + first d) bases (rest c) (rest d) (λ i l. rest_at c i ∙ h (suc i) (omega arith) ∙ sym (rest_at d i)))

-- ---- the first digit fastest

pub number_up_below : (bases digits : List ℕ) → Inside bases digits → number_up bases digits < product bases
unfolding number_up Inside
number_up_below [] [] h = zero-lt-suc 0
number_up_below [] (c ∷ digits) h = absurd h
number_up_below (b ∷ bases) [] h = absurd h
number_up_below (b ∷ bases) (c ∷ digits) h = omega (arith, digits_lt (number_up_below bases digits h.1) h.0)

pub digits_up_inside : (bases : List ℕ) (n : ℕ) → Positive bases → Inside bases (digits_up bases n)
unfolding digits_up Inside Positive
digits_up_inside [] n h = tt
digits_up_inside (b ∷ bases) n h = (mod-lt n h.0, digits_up_inside bases (n / b) h.1)

pub digits_of-number_up : (bases digits : List ℕ) → Inside bases digits → digits_up bases (number_up bases digits) ≡ digits
unfolding digits_up number_up Inside
digits_of-number_up [] [] h = refl
digits_of-number_up [] (c ∷ digits) h = absurd h
digits_of-number_up (b ∷ bases) [] h = absurd h
digits_of-number_up (b ∷ bases) (c ∷ digits) h =
    ap₂ (λ (c : ℕ) (digits : List ℕ). c ∷ digits)
    (ap (λ (x : ℕ). x % b) regroup ∙ digits_mod (number_up bases digits) h.0)
    (ap (λ (x : ℕ). digits_up bases (x / b)) regroup
    ∙ ap (digits_up bases) (digits_div (number_up bases digits) h.0)
    ∙ digits_of-number_up bases digits h.1)
  where
    regroup : c + b * number_up bases digits ≡ number_up bases digits * b + c
    regroup = omega arith

pub number_of-digits_up : (bases : List ℕ) (n : ℕ) → Positive bases → n < product bases → number_up bases (digits_up bases n) ≡ n
unfolding digits_up number_up Positive
number_of-digits_up [] n h l = sym (lt-one l)
number_of-digits_up (b ∷ bases) n h l =
    ap (λ (x : ℕ). n % b + b * x)
    (number_of-digits_up bases (n / b) h.1
    ((div-lt_iff_lt-mul h.0).1 (subst (λ (x : ℕ). n < x) (mul_comm b (product bases)) l)))
    ∙ omega (arith, div-add-mod' n b)

pub length-digits_up : (bases : List ℕ) (n : ℕ) → length (digits_up bases n) ≡ length bases
unfolding digits_up
length-digits_up [] n = refl
length-digits_up (b ∷ bases) n = ap suc (length-digits_up bases (n / b))

-- the digit at place k, counted from 0
pub digit_up-at : (bases : List ℕ) (n k : ℕ) → k < length bases → get_or (digits_up bases n) k 0 ≡ n / product (take k bases) % get_or bases k 0
unfolding digits_up
digit_up-at [] n k l = absurd (omega arith)
digit_up-at (b ∷ bases) n zero l = ap (λ (x : ℕ). x % b) (sym (div-one n))
digit_up-at (b ∷ bases) n (suc k) l =
    digit_up-at bases (n / b) k (omega arith)
    ∙ ap (λ (x : ℕ). x % get_or bases k 0) (div-div-eq-div-mul n b (product (take k bases)))

-- another digit at place k counts as often as all earlier bases multiply to
pub number_up-set : (bases digits : List ℕ) (k x : ℕ) → k < length bases → k < length digits
    → number_up bases (set digits k x) + get_or digits k 0 * product (take k bases) ≡ number_up bases digits + x * product (take k bases)
unfolding number_up
number_up-set [] digits k x l m = absurd (omega arith)
number_up-set (b ∷ bases) [] k x l m = absurd (omega arith)
number_up-set (b ∷ bases) (c ∷ digits) zero x l m = omega arith
number_up-set (b ∷ bases) (c ∷ digits) (suc k) x l m =
    omega (arith, ap (λ (n : ℕ). b * n) (number_up-set bases digits k x (omega arith) (omega arith)))

-- ---- with bases and digits reversed, the last digit fastest is the first fastest

number_reverse_aux : (bases digits bases' digits' : List ℕ) → length digits ≡ length bases
    → number_from (number_up bases' digits') bases digits ≡ number_up (reverse_aux bases bases') (reverse_aux digits digits')
unfolding number_up number_from
number_reverse_aux [] [] bases' digits' e = refl
number_reverse_aux [] (i ∷ digits) bases' digits' e = absurd (suc-ne-zero (length digits) e)
number_reverse_aux (b ∷ bases) [] bases' digits' e = absurd (suc-ne-zero (length bases) (sym e))
number_reverse_aux (b ∷ bases) (i ∷ digits) bases' digits' e =
    let regroup : number_up bases' digits' * b + i ≡ i + b * number_up bases' digits' = omega arith in
    ap (λ (n : ℕ). number_from n bases digits) regroup ∙ number_reverse_aux bases digits (b ∷ bases') (i ∷ digits') (suc_inj e)

pub number-reverse : (bases digits : List ℕ) → length digits ≡ length bases → number_from 0 bases digits ≡ number_up (reverse bases) (reverse digits)
unfolding number_up
number-reverse bases digits e = number_reverse_aux bases digits [] [] e
