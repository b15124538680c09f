-- Rows, coordinates and numbers by places, counted from 0: one place more at a time, as a loop goes.
use mathlib.Core.Path.{◌≡◌, refl}
use mathlib.Core.List.{List, [], ◌∷◌}
use Prim.Native.Nat.{ℕ, zero, suc, ◌+◌, ◌*◌, ◌%◌, ◌<◌, ◌≤◌}
use native.Mathlib.Numerals.{add-one}
use native.Mathlib.Omega.{arith}
use lib.Arith.{digits_lt}
use lib.ListN.{length, get_or, take}
use Rattle.numbers.specs.Products.{product}
use Rattle.multipartition.specs.Lists.{first, rest}
use Rattle.multipartition.specs.MixedRadix.{number_from}
use Rattle.multipartition.specs.Owners.{times, coordinates_at}
use Rattle.multipartition.proofs.MixedRadix.{first-at, rest_at}
use Rattle.layout.proofs.Lists.{product-add-one}

pub times_none : (row position : List ℕ) → times (take 0 row) position ≡ 0
unfolding times
times_none row position = refl

times-suc : (row position : List ℕ) (k : ℕ) → times (take (suc k) row) position ≡ times (take k row) position + get_or row k 0 * get_or position k 0
unfolding times
times-suc [] position zero = omega arith
times-suc [] position (suc k) = omega arith
times-suc (a ∷ row) position zero = rw first-at (omega arith)
times-suc (a ∷ row) position (suc k) = rw (times-suc row (rest position) k, rest_at) (omega arith)

pub times-add-one : (row position : List ℕ) (k : ℕ)
    → times (take (k + 1) row) position ≡ times (take k row) position + get_or row k 0 * get_or position k 0
times-add-one row position k = rw add-one (times-suc row position k)

pub number_none : (n : ℕ) (bases digits : List ℕ) → number_from n (take 0 bases) digits ≡ n
unfolding number_from
number_none n bases digits = refl

number-suc : (n : ℕ) (bases digits : List ℕ) (k : ℕ) → k < length bases
    → number_from n (take (suc k) bases) digits ≡ number_from n (take k bases) digits * get_or bases k 0 + get_or digits k 0
unfolding number_from
number-suc n [] digits k h = absurd (omega arith)
number-suc n (b ∷ bases) digits zero h = rw first-at
number-suc n (b ∷ bases) digits (suc k) h = rw (← rest_at digits k) (number-suc (n * b + first digits) bases (rest digits) k (omega arith))

pub number-add-one : (n : ℕ) (bases digits : List ℕ) (k : ℕ) → k < length bases
    → number_from n (take (k + 1) bases) digits ≡ number_from n (take k bases) digits * get_or bases k 0 + get_or digits k 0
number-add-one n bases digits k h = rw add-one (number-suc n bases digits k h)

pub coordinate-at : (moduli : List ℕ) (matrix : List (List ℕ)) (position : List ℕ) (i : ℕ) → i < length moduli
    → get_or (coordinates_at moduli matrix position) i 0 ≡ times (get_or matrix i []) position % get_or moduli i 0
unfolding coordinates_at times
coordinate-at [] matrix position i h = absurd (omega arith)
coordinate-at (m ∷ moduli) [] position zero h = refl
coordinate-at (m ∷ moduli) (row ∷ matrix) position zero h = refl
coordinate-at (m ∷ moduli) [] position (suc i) h = coordinate-at moduli [] position i (omega arith)
coordinate-at (m ∷ moduli) (row ∷ matrix) position (suc i) h = coordinate-at moduli matrix position i (omega arith)

-- digits below their bases make a number below the product, one place more at a time
pub number_front_below : (bases digits : List ℕ) (k : ℕ) → k ≤ length bases → ((i : ℕ) → i < k → get_or digits i 0 < get_or bases i 0)
    → number_from 0 (take k bases) digits < product (take k bases)
number_front_below bases digits zero l h = rw (number_none 0 bases digits) (omega arith)
number_front_below bases digits (suc k) l h =
    rw (← add-one k, number-add-one 0 bases digits k (omega arith), product-add-one bases k (omega arith))
    (digits_lt (number_front_below bases digits k (omega arith) (λ i m. h i (omega arith))) (h k (omega arith)))
