-- The neighbour's number, its coordinates from the last to the first: what they make from dimension i on is the neighbour's number for the
-- moduli and rows from i on.
use mathlib.Core.Path.{◌≡◌, refl, sym, ap, ◌∙◌}
use mathlib.Core.Bool.{Bool, true, false}
use mathlib.Core.List.{List, [], ◌∷◌}
use Prim.Native.Nat.{ℕ, zero, suc, ◌+◌, ◌-◌, ◌*◌, ◌/◌, ◌%◌, ◌≤◌, ◌<◌}
use native.Mathlib.Nat.{le_refl, le_trans, mod-lt, mul-le-mul_right, div-one, div-div-eq-div-mul}
use native.Mathlib.Omega.{arith}
use lib.IntN.{ℤ, pos, negsuc, ◌-ℤ◌}
use lib.ListN.{length, get_or, take, drop, length-drop, drop_of_length-le}
use lib.Seq.{get_or-take, get_or-drop, length-take-le, drop-cons}
use Rattle.numbers.specs.Products.{product}
use Rattle.numbers.proofs.Congruence.{add_multiple}
use Rattle.multipartition.specs.Matrix.{remainder}
use Rattle.multipartition.specs.MixedRadix.{number_from, digits_of}
use Rattle.multipartition.specs.Neighbours.{column_of, turn, turned, next_owner}
use Rattle.multipartition.specs.Tiles.{Inside}
use Rattle.multipartition.proofs.MixedRadix.{Positive, number-first, number_below}
use Rattle.multipartition.proofs.WholeNumbers.{remainder_difference}
use Rattle.layout.specs.Plans.{rows_from}
use Rattle.layout.specs.Shaped.{entry_of}
use Rattle.layout.proofs.Places.{length-rows, entry_at_lem}
use Rattle.questions.specs.Bounds.{Reduced}

-- ---- one coordinate

-- minus an entry is plus what is left of the modulus
pub turn_down : (m c a : ℕ) → a < m → turn false m c a ≡ (c + (m - a)) % m
unfolding turn
turn_down m c a h =
    let whole : c + (m - a) + a ≡ c + m * 1 = omega arith in
    remainder_difference m c a (c + (m - a)) (omega arith) (ap (λ (n : ℕ). n % m) whole ∙ add_multiple m c 1)

remainder_below : (z : ℤ) (m : ℕ) → zero < m → remainder z m < m
unfolding remainder
remainder_below (pos n) m h = mod-lt n h
remainder_below (negsuc n) m h = omega (arith, mod-lt n h)

turn_below : (up : Bool) (m c a : ℕ) → zero < m → turn up m c a < m
unfolding turn
turn_below true m c a h = mod-lt (c + a) h
turn_below false m c a h = remainder_below (pos c -ℤ pos a) m h

-- ---- the moduli and rows from a dimension on

next_owner-first : (m : ℕ) (moduli row : List ℕ) (rows : List (List ℕ)) (k : ℕ) (up : Bool) (q : ℕ)
    → next_owner (m ∷ moduli) (row ∷ rows) k up q
    ≡ turn up m (q / product moduli % m) (get_or row k 0) * product moduli + next_owner moduli rows k up q
unfolding next_owner turned digits_of column_of
next_owner-first m moduli row rows k up q = number-first m moduli _

turned_inside : (up : Bool) (moduli coordinates column : List ℕ) → Positive moduli → Inside moduli (turned up moduli coordinates column)
unfolding turned Positive Inside
turned_inside up [] coordinates column h = tt
turned_inside up (m ∷ moduli) coordinates column h = (turn_below up m _ _ h.0, turned_inside up moduli _ _ h.1)

next_owner_below : (moduli : List ℕ) (rows : List (List ℕ)) (k : ℕ) (up : Bool) (q : ℕ) → Positive moduli → next_owner moduli rows k up q < product moduli
unfolding next_owner
next_owner_below moduli rows k up q h = number_below moduli _ (turned_inside up moduli _ _ h)

positive_of : (xs : List ℕ) → ((i : ℕ) → i < length xs → 1 ≤ get_or xs i 0) → Positive xs
unfolding Positive
positive_of [] h = tt
positive_of (x ∷ xs) h = (h 0 (omega arith), positive_of xs (λ i l. h (suc i) (omega arith)))

product-drop-le : (xs : List ℕ) (i : ℕ) → Positive xs → product (drop i xs) ≤ product xs
unfolding Positive
product-drop-le xs zero h = le_refl _
product-drop-le [] (suc i) h = le_refl _
product-drop-le (x ∷ xs) (suc i) h =
    let whole : 1 * product xs ≤ x * product xs = mul-le-mul_right (product xs) h.0 in
    omega (arith, product-drop-le xs i h.1, whole)

-- the number that the coordinates from dimension i on make
unfoldable pub neighbour_back : ℕ → List ℕ → List ℕ → ℕ → Bool → ℕ → ℕ → ℕ
neighbour_back d moduli matrix k up q i = next_owner (drop i (take d moduli)) (drop i (rows_from d 0 d matrix)) k up q

-- the product of the moduli from dimension i on
unfoldable pub radix_at : ℕ → List ℕ → ℕ → ℕ
radix_at d moduli i = product (drop i (take d moduli))

module _ (d : ℕ) (moduli matrix : List ℕ) (h : Reduced d moduli matrix) where
  length_cut : length (take d moduli) ≡ d
  length_cut = length-take-le d moduli h.long

  cut_low : (i : ℕ) → i < d → 1 ≤ get_or (take d moduli) i 0
  cut_low i l = rw (get_or-take d moduli i 0 l) (h.modulus_low i l)

  positive_back : (i : ℕ) → Positive (drop i (take d moduli))
  positive_back i =
      positive_of (drop i (take d moduli))
      (λ j l. rw (get_or-drop i (take d moduli) j 0) (cut_low (i + j) (omega (arith, length-drop i (take d moduli), length_cut))))

  -- the modulus and row of dimension i apart from those after it
  moduli_from : (i : ℕ) → i < d → drop i (take d moduli) ≡ get_or moduli i 0 ∷ drop (suc i) (take d moduli)
  moduli_from i l =
      drop-cons (take d moduli) i 0 (omega (arith, length_cut)) ∙ ap (λ (m : ℕ). m ∷ drop (suc i) (take d moduli)) (get_or-take d moduli i 0 l)

  rows_from_lem : (i : ℕ) → i < d
      → drop i (rows_from d 0 d matrix) ≡ get_or (rows_from d 0 d matrix) i [] ∷ drop (suc i) (rows_from d 0 d matrix)
  rows_from_lem i l = drop-cons (rows_from d 0 d matrix) i [] (omega (arith, length-rows d 0 d matrix))

  pub radix_last : radix_at d moduli d ≡ 1
  unfolding radix_at
  radix_last = rw (drop_of_length-le (take d moduli) {i = d} (omega (arith, length_cut)))

  pub radix-suc : (i : ℕ) → i < d → radix_at d moduli i ≡ radix_at d moduli (suc i) * get_or moduli i 0
  unfolding radix_at
  radix-suc i l = rw (moduli_from i l) (omega arith)

  radix_high : (i : ℕ) → radix_at d moduli i ≤ 4096
  unfolding radix_at
  radix_high i = le_trans (product-drop-le (take d moduli) i (positive_back 0)) h.product_high

  module _ (k : ℕ) (up : Bool) (q : ℕ) where
    back_last : neighbour_back d moduli matrix k up q d ≡ 0
    unfolding neighbour_back next_owner number_from
    back_last = rw (drop_of_length-le (take d moduli) {i = d} (omega (arith, length_cut)))

    back-first : neighbour_back d moduli matrix k up q 0 ≡ next_owner (take d moduli) (rows_from d 0 d matrix) k up q
    unfolding neighbour_back
    back-first = refl

    back_below : (i : ℕ) → neighbour_back d moduli matrix k up q i < radix_at d moduli i
    unfolding neighbour_back radix_at
    back_below i = next_owner_below _ _ k up q (positive_back i)

    back-suc : (i : ℕ) → i < d → k < d
        → neighbour_back d moduli matrix k up q i
        ≡ neighbour_back d moduli matrix k up q (suc i)
        + turn up (get_or moduli i 0) (q / radix_at d moduli (suc i) % get_or moduli i 0) (entry_of matrix i k) * radix_at d moduli (suc i)
    unfolding neighbour_back radix_at
    back-suc i l m =
        rw (moduli_from i l, rows_from_lem i l, next_owner-first (get_or moduli i 0) (drop (suc i) (take d moduli)) (get_or (rows_from d 0 d matrix) i []) (drop (suc i) (rows_from d 0 d matrix)) k up q, entry_at_lem d matrix i k l m)
        (omega arith)

-- what the walk from the last dimension has before dimension i: the number and radix of the coordinates from i on, and what is left of q
pub record Walked (d : ℕ) (moduli matrix : List ℕ) (k : ℕ) (up : Bool) (q i number radix left : ℕ) : Type 0 where
  pub number_is : number ≡ neighbour_back d moduli matrix k up q i
  pub radix_is : radix ≡ radix_at d moduli i
  pub left_is : left ≡ q / radix_at d moduli i

module _ (d : ℕ) (moduli matrix : List ℕ) (h : Reduced d moduli matrix) (k : ℕ) (up : Bool) (q : ℕ) where
  pub walk_start : Walked d moduli matrix k up q d 0 1 q
  walk_start =
      record {
        number_is = sym (back_last d moduli matrix h k up q);
        radix_is = sym (radix_last d moduli matrix h);
        left_is = rw (radix_last d moduli matrix h) (sym (div-one q));
      }

  -- one coordinate more, of dimension i, whose modulus is m
  pub walk-next : (n i m number radix left digit : ℕ) → Walked d moduli matrix k up q n number radix left → n ≡ i + 1 → i < d → m ≡ get_or moduli i 0 → k < d
      → digit ≡ turn up m (left % m) (entry_of matrix i k) → Walked d moduli matrix k up q i (number + digit * radix) (radix * m) (left / m)
  walk-next n i m number radix left digit w next l here within e =
      let to : n ≡ suc i = omega arith in
      let was : Walked d moduli matrix k up q (suc i) number radix left = rw to at w in
      record {
        number_is = rw (back-suc d moduli matrix h k up q i l within, e, here, was.left_is, was.number_is, was.radix_is);
        radix_is = rw (radix-suc d moduli matrix h i l, here, was.radix_is);
        left_is = rw (radix-suc d moduli matrix h i l, here, was.left_is) (div-div-eq-div-mul q (radix_at d moduli (suc i)) (get_or moduli i 0));
      }

  pub walk_number_high : (i number radix left : ℕ) → Walked d moduli matrix k up q i number radix left → number < 4096
  walk_number_high i number radix left w = omega (arith, w.number_is, back_below d moduli matrix h k up q i, radix_high d moduli matrix h i)

  pub walk_radix_high : (i number radix left : ℕ) → Walked d moduli matrix k up q i number radix left → radix ≤ 4096
  walk_radix_high i number radix left w = omega (arith, w.radix_is, radix_high d moduli matrix h i)

  pub walk_end : (i number radix left : ℕ) → Walked d moduli matrix k up q i number radix left → i ≤ 0
      → number ≡ next_owner (take d moduli) (rows_from d 0 d matrix) k up q
  walk_end i number radix left w l =
      let e : i ≡ 0 = omega arith in
      w.number_is ∙ ap (neighbour_back d moduli matrix k up q) e ∙ back-first d moduli matrix h k up q
