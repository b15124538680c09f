-- One neighbour in each direction (document 01, "Owners"): the tile one step on belongs to the neighbour's answer for its owner, the other
-- direction leads back, and different processors have different neighbours. For any moduli but 0 and any matrix: a step along k adds column k
-- to the coordinates.
use mathlib.Core.Path.{◌≡◌, refl, sym, ap, ap₂, ◌∙◌, subst⁻¹}
use mathlib.Core.Logic.{◌≢◌, ◌↔◌}
use mathlib.Core.Bool.{Bool, true, false, not, cond}
use mathlib.Core.List.{List, [], ◌∷◌}
use mathlib.Core.Option.{none, some, some-injective, none-ne-some, some-ne-none}
use Prim.Native.Nat.{ℕ, zero, suc, ◌+◌, ◌-◌, ◌*◌, ◌/◌, ◌%◌, ◌<◌, ◌≤◌}
use native.Mathlib.Nat.{mod-lt, mod-mod, mod-eq_of_lt, mod-add-mod, div-add-mod}
use native.Mathlib.Omega.{arith}
use borrow.Author.Tests.{eqb-true, eqb-false, eq-eqb, ne_eqb}
use lib.Dec.{eqb}
use lib.ListN.{length, get_or, set, take}
use lib.Seq.{get_or-set_same, set-set}
use Rattle.numbers.specs.Products.{product}
use Rattle.numbers.proofs.Congruence.{Congruent, add_multiple}
use Rattle.multipartition.specs.Lists.{first, rest, first_list, rest_lists}
use Rattle.multipartition.specs.MixedRadix.{number_from, digits_of}
use Rattle.multipartition.specs.Owners.{times, coordinates_at, owner_at}
use Rattle.multipartition.specs.Neighbours.{column_of, turn, turned, next_owner, neighbour_at}
use Rattle.multipartition.specs.Tiles.{Inside, position_of, one_step_on}
use Rattle.multipartition.specs.Plans.{entry_at}
use Rattle.multipartition.proofs.WholeNumbers.{remainder_difference}
use Rattle.multipartition.proofs.MixedRadix.{Positive, first-at, rest_at, number_below, digits_inside, digits_of_number, number_of_digits}
use Rattle.multipartition.proofs.Tiles.{inside-length, position_inside, coordinate_of_tile, position-one_down, step_down, up_taken, one_step_on_inside, step_back}
use Rattle.multipartition.proofs.Owners.{digits_of_owner}

-- ---- a row times a position, one step on

-- the position with its place k one higher
abbrev pub up_one : ℕ → List ℕ → List ℕ
up_one k x = set x k (suc (get_or x k 0))

-- the part of place k
pub times_place : (row x : List ℕ) (k : ℕ) → times row x ≡ times row (set x k 0) + get_or row k 0 * get_or x k 0
unfolding times
times_place [] x k = omega arith
times_place (a ∷ row) [] k = omega arith
times_place (a ∷ row) (i ∷ x) zero = omega arith
times_place (a ∷ row) (i ∷ x) (suc k) = omega (arith, times_place row x k)

pub times_up : (row x : List ℕ) (k : ℕ) → k < length x → times row (up_one k x) ≡ times row x + get_or row k 0
times_up row x k l =
    times_place row (up_one k x) k
    ∙ ap₂ (λ (y : List ℕ) (n : ℕ). times row y + get_or row k 0 * n) (set-set x k (suc (get_or x k 0)) 0) (get_or-set_same x k (suc (get_or x k 0)) 0 l)
    ∙ omega (arith, times_place row x k)

coordinates_up : (moduli : List ℕ) (matrix : List (List ℕ)) (x : List ℕ) (k : ℕ) → k < length x
    → turned true moduli (coordinates_at moduli matrix x) (column_of k moduli matrix) ≡ coordinates_at moduli matrix (up_one k x)
unfolding turned turn coordinates_at column_of
coordinates_up [] matrix x k l = refl
coordinates_up (m ∷ moduli) matrix x k l =
    ap₂ ◌∷◌
    (mod-add-mod (times (first_list matrix) x) m (get_or (first_list matrix) k 0)
    ∙ ap (λ (n : ℕ). n % m) (sym (times_up (first_list matrix) x k l)))
    (coordinates_up moduli (rest_lists matrix) x k l)

pub coordinates_down : (moduli : List ℕ) (matrix : List (List ℕ)) (x : List ℕ) (k : ℕ) → k < length x → Positive moduli
    → turned false moduli (coordinates_at moduli matrix (up_one k x)) (column_of k moduli matrix) ≡ coordinates_at moduli matrix x
unfolding turned turn coordinates_at column_of Positive
coordinates_down [] matrix x k l h = refl
coordinates_down (m ∷ moduli) matrix x k l h =
    ap₂ ◌∷◌
    (remainder_difference m (times row (up_one k x) % m) (get_or row k 0) (times row x) h.0
    (ap (λ (n : ℕ). n % m) (sym (times_up row x k l)) ∙ sym (mod-mod (times row (up_one k x)) m)))
    (coordinates_down moduli (rest_lists matrix) x k l h.1)
  where
    row : List ℕ
    row = first_list matrix

module _ (moduli : List ℕ) (matrix : List (List ℕ)) (positive : Positive moduli) where
  owner_up : (x : List ℕ) (k : ℕ) → k < length x → next_owner moduli matrix k true (owner_at moduli matrix x) ≡ owner_at moduli matrix (up_one k x)
  unfolding next_owner owner_at
  owner_up x k l =
      ap (number_from 0 moduli)
      (ap (λ (cs : List ℕ). turned true moduli cs (column_of k moduli matrix)) (digits_of_owner moduli matrix x positive)
      ∙ coordinates_up moduli matrix x k l)

  owner_down_lem : (x : List ℕ) (k : ℕ) → k < length x → next_owner moduli matrix k false (owner_at moduli matrix (up_one k x)) ≡ owner_at moduli matrix x
  unfolding next_owner owner_at
  owner_down_lem x k l =
      ap (number_from 0 moduli)
      (ap (λ (cs : List ℕ). turned false moduli cs (column_of k moduli matrix)) (digits_of_owner moduli matrix (up_one k x) positive)
      ∙ coordinates_down moduli matrix x k l positive)

-- ---- up then down, and down then up

-- minus a is plus m - a
sum_of_difference : (m c a : ℕ) → zero < m → Congruent m (c + (m - a % m) + a) c
sum_of_difference m c a l = ap (λ (n : ℕ). n % m) whole ∙ add_multiple m c (suc (a / m))
  where
    whole : c + (m - a % m) + a ≡ c + m * suc (a / m)
    whole = omega (arith, div-add-mod a m, mod-lt a l)

pub turn_down : (m c a : ℕ) → zero < m → turn false m c a ≡ (c + (m - a % m)) % m
unfolding turn
turn_down m c a l = remainder_difference m c a (c + (m - a % m)) l (sum_of_difference m c a l)

pub turn_below : (up : Bool) (m c a : ℕ) → zero < m → turn up m c a < m
unfolding turn
turn_below true m c a l = mod-lt (c + a) l
turn_below false m c a l = subst⁻¹ (λ (n : ℕ). n < m) (turn_down m c a l) (mod-lt (c + (m - a % m)) l)

turn_back : (up : Bool) (m c a : ℕ) → c < m → turn (not up) m (turn up m c a) a ≡ c
unfolding turn
turn_back true m c a l = remainder_difference m ((c + a) % m) a c (omega arith) (sym (mod-mod (c + a) m)) ∙ mod-eq_of_lt l
turn_back false m c a l =
    let positive : zero < m = omega arith in
    ap (λ (n : ℕ). (n + a) % m) (turn_down m c a positive)
    ∙ mod-add-mod (c + (m - a % m)) m a
    ∙ sum_of_difference m c a positive
    ∙ mod-eq_of_lt l

pub turned_inside : (up : Bool) (moduli cs column : List ℕ) → Positive moduli → Inside moduli (turned up moduli cs column)
unfolding turned Inside Positive
turned_inside up [] cs column h = tt
turned_inside up (m ∷ moduli) cs column h =
    (turn_below up m (first cs) (first column) h.0, turned_inside up moduli (rest cs) (rest column) h.1)

turned_back : (up : Bool) (moduli cs column : List ℕ) → Inside moduli cs → turned (not up) moduli (turned up moduli cs column) column ≡ cs
unfolding turned Inside
turned_back up [] [] column w = refl
turned_back up [] (c ∷ cs) column w = absurd w
turned_back up (m ∷ moduli) [] column w = absurd w
turned_back up (m ∷ moduli) (c ∷ cs) column w = ap₂ ◌∷◌ (turn_back up m c (first column) w.0) (turned_back up moduli cs (rest column) w.1)

module _ (moduli : List ℕ) (matrix : List (List ℕ)) (positive : Positive moduli) (k : ℕ) (up : Bool) where
  -- a neighbour is a processor
  pub next_owner_below : (q : ℕ) → next_owner moduli matrix k up q < product moduli
  unfolding next_owner
  next_owner_below q =
      number_below moduli (turned up moduli (digits_of moduli q) (column_of k moduli matrix))
      (turned_inside up moduli (digits_of moduli q) (column_of k moduli matrix) positive)

  -- and the other direction leads back
  pub next_owner_back : (q : ℕ) → q < product moduli → next_owner moduli matrix k (not up) (next_owner moduli matrix k up q) ≡ q
  unfolding next_owner
  next_owner_back q l =
      ap (λ (cs : List ℕ). number_from 0 moduli (turned (not up) moduli cs column))
      (digits_of_number moduli (turned up moduli (digits_of moduli q) column) positive (turned_inside up moduli (digits_of moduli q) column positive))
      ∙ ap (number_from 0 moduli) (turned_back up moduli (digits_of moduli q) column (digits_inside moduli q positive))
      ∙ number_of_digits moduli q positive l
    where
      column : List ℕ
      column = column_of k moduli matrix

-- ---- columns and turned coordinates by places, counted from 0

pub column-at : (k : ℕ) (moduli : List ℕ) (matrix : List (List ℕ)) (i : ℕ) → i < length moduli → get_or (column_of k moduli matrix) i 0 ≡ entry_at matrix i k
unfolding column_of
column-at k [] matrix i l = absurd (omega arith)
column-at k (m ∷ moduli) [] zero l = refl
column-at k (m ∷ moduli) (row ∷ matrix) zero l = refl
column-at k (m ∷ moduli) [] (suc i) l = column-at k moduli [] i (omega arith)
column-at k (m ∷ moduli) (row ∷ matrix) (suc i) l = column-at k moduli matrix i (omega arith)

pub turned-at : (up : Bool) (moduli cs column : List ℕ) (i : ℕ) → i < length moduli
    → get_or (turned up moduli cs column) i 0 ≡ turn up (get_or moduli i 0) (get_or cs i 0) (get_or column i 0)
unfolding turned
turned-at up [] cs column i l = absurd (omega arith)
turned-at up (m ∷ moduli) cs column zero l = rw (first-at cs, first-at column)
turned-at up (m ∷ moduli) cs column (suc i) l =
    turned-at up moduli (rest cs) (rest column) i (omega arith) ∙ rw (rest_at cs i, rest_at column i)

-- ---- the question as it is asked

module _ (cuts moduli : List ℕ) (matrix : List (List ℕ)) (k : ℕ) (up : Bool) where
  pub neighbour_some : (q : ℕ) → get_or cuts k 0 ≢ 1 → neighbour_at cuts moduli matrix k up q ≡ some (next_owner moduli matrix k up q)
  unfolding neighbour_at
  neighbour_some q n = ap (λ (t : Bool). cond t none (some (next_owner moduli matrix k up q))) (ne_eqb (get_or cuts k 0) 1 n)

  -- "If bk = 1 the answer is 'no neighbour', and in no other case."
  pub neighbour_none_iff : (q : ℕ) → (neighbour_at cuts moduli matrix k up q ≡ none) ↔ (get_or cuts k 0 ≡ 1)
  unfolding neighbour_at
  neighbour_none_iff q = (λ e. there (eqb (get_or cuts k 0) 1) refl e, λ e. rw (eq-eqb (get_or cuts k 0) 1 e))
    where
      there : (t : Bool) → eqb (get_or cuts k 0) 1 ≡ t → cond t none (some (next_owner moduli matrix k up q)) ≡ none → get_or cuts k 0 ≡ 1
      there true f e = eqb-true (get_or cuts k 0) 1 f
      there false f e = absurd (some-ne-none (next_owner moduli matrix k up q) e)

  -- a processor that is answered is the next owner, along a cut dimension
  neighbour_answer_lem : (q r : ℕ) → neighbour_at cuts moduli matrix k up q ≡ some r → (get_or cuts k 0 ≢ 1) × (next_owner moduli matrix k up q ≡ r)
  unfolding neighbour_at
  neighbour_answer_lem q r e = go (eqb (get_or cuts k 0) 1) refl e
    where
      go : (t : Bool) → eqb (get_or cuts k 0) 1 ≡ t → cond t none (some (next_owner moduli matrix k up q)) ≡ some r
          → (get_or cuts k 0 ≢ 1) × (next_owner moduli matrix k up q ≡ r)
      go true f e = absurd (none-ne-some r e)
      go false f e = (eqb-false (get_or cuts k 0) 1 f, some-injective (next_owner moduli matrix k up q) r e)

-- The tile one step on, up or down, belongs to the neighbour in that direction.
pub neighbour_owns : (cuts moduli : List ℕ) (matrix : List (List ℕ)) → Positive moduli → (k : ℕ) (up : Bool) (x y : List ℕ) → k < length cuts
    → Inside cuts x → one_step_on cuts k up x ≡ some y → neighbour_at cuts moduli matrix k up (owner_at moduli matrix x) ≡ some (owner_at moduli matrix y)
neighbour_owns cuts moduli matrix positive k true x y l w e =
    let taken = up_taken cuts x y k e in
    let cut : get_or cuts k 0 ≢ 1 = λ z. absurd (omega (arith, taken.0)) in
    neighbour_some cuts moduli matrix k true (owner_at moduli matrix x) cut
    ∙ ap some (owner_up moduli matrix positive x k (omega (arith, inside-length cuts x w)) ∙ ap (owner_at moduli matrix) taken.1)
neighbour_owns cuts moduli matrix positive k false x y l w e =
    let taken = up_taken cuts y x k (step_back cuts x y k false w e) in
    let cut : get_or cuts k 0 ≢ 1 = λ z. absurd (omega (arith, taken.0)) in
    let w' = one_step_on_inside cuts x y k false w e in
    neighbour_some cuts moduli matrix k false (owner_at moduli matrix x) cut
    ∙ ap some
    (ap (λ (v : List ℕ). next_owner moduli matrix k false (owner_at moduli matrix v)) (sym taken.1)
    ∙ owner_down_lem moduli matrix positive y k (omega (arith, inside-length cuts y w')))

-- By tile numbers: the number one step down along k is lower by as many tiles as the cuts before k multiply to.
pub owner-one_down : (cuts moduli : List ℕ) (matrix : List (List ℕ)) → Positive moduli → (tile k : ℕ) → 1 ≤ tile → tile ≤ product cuts → k < length cuts
    → 1 ≤ (tile - 1) / product (take k cuts) % get_or cuts k 0
    → owner_at moduli matrix (position_of cuts (tile - product (take k cuts))) ≡ next_owner moduli matrix k false (owner_at moduli matrix (position_of cuts tile))
owner-one_down cuts moduli matrix positive tile k low high l above =
    ap (owner_at moduli matrix) (position-one_down cuts tile k low high l inner)
    ∙ sym (neighbour_answer_lem cuts moduli matrix k false _ _ (neighbour_owns cuts moduli matrix positive k false here next l (position_inside cuts tile low high) step)).1
  where
    here : List ℕ
    here = position_of cuts tile

    next : List ℕ
    next = set here k (get_or here k 0 - 1)

    inner : zero < get_or here k 0
    inner = omega (arith, above, coordinate_of_tile cuts tile k l)

    step : one_step_on cuts k false here ≡ some next
    step = step_down cuts here k (get_or here k 0 - 1) (omega (arith, inner))

-- A processor's neighbour has that processor for its neighbour in the other direction: up then down comes back.
pub neighbour-returns : (cuts moduli : List ℕ) (matrix : List (List ℕ)) → Positive moduli → (k : ℕ) (up : Bool) (q r : ℕ) → q < product moduli
    → neighbour_at cuts moduli matrix k up q ≡ some r → neighbour_at cuts moduli matrix k (not up) r ≡ some q
neighbour-returns cuts moduli matrix positive k up q r l e =
    let answer = neighbour_answer_lem cuts moduli matrix k up q r e in
    neighbour_some cuts moduli matrix k (not up) r answer.0
    ∙ ap some (ap (next_owner moduli matrix k (not up)) (sym answer.1) ∙ next_owner_back moduli matrix positive k up q l)

-- Along a cut dimension different processors have different neighbours, upward and downward.
pub neighbour_injective : (cuts moduli : List ℕ) (matrix : List (List ℕ)) → Positive moduli → (k : ℕ) (up : Bool) (q r : ℕ) → get_or cuts k 0 ≢ 1
    → q < product moduli → r < product moduli → q ≢ r → neighbour_at cuts moduli matrix k up q ≢ neighbour_at cuts moduli matrix k up r
neighbour_injective cuts moduli matrix positive k up q r cut lq lr differ e =
    differ (some-injective q r
    (sym (neighbour-returns cuts moduli matrix positive k up q (next_owner moduli matrix k up q) lq (neighbour_some cuts moduli matrix k up q cut))
    ∙ neighbour-returns cuts moduli matrix positive k up r (next_owner moduli matrix k up q) lr
    (sym e ∙ neighbour_some cuts moduli matrix k up q cut)))
