-- Tile numbers and positions are made from each other; a step from tile to tile stays in the grid, comes back, and meets the edge just where
-- the grid ends. Numbers are numbers in mixed radix over the cuts, shifted by one.
use mathlib.Core.Path.{◌≡◌, refl, sym, ap, ap₂, ◌∙◌}
use mathlib.Core.Bool.{Bool, true, false, not, cond}
use mathlib.Core.List.{List, [], ◌∷◌, map}
use mathlib.Core.Logic.{◌↔◌}
use mathlib.Core.Option.{none, some}
use Prim.Native.Nat.{ℕ, zero, suc, ◌+◌, ◌-◌, ◌*◌, ◌/◌, ◌%◌, ◌<◌, ◌≤◌}
use native.Mathlib.Nat.{mod-lt, mod-eq_of_lt, div-add-mod', div-lt_iff_lt-mul}
use native.Mathlib.Omega.{arith}
use lib.Dec.{ltb, eqb}
use lib.ListN.{length, get_or, set, take, length-append, length-map, get_or-append}
use lib.Seq.{get_or-append-add, get_or-set_same, set-set, set-get_or}
use borrow.Author.Tests.{ltb-true, ltb-false, lt-ltb, le-ltb, eqb-true, eqb-false, eq-eqb, ne_eqb}
use Rattle.numbers.specs.Products.{product}
use Rattle.multipartition.specs.Lists.{starting_with}
use Rattle.multipartition.specs.MixedRadix.{number_from, digits_of, number_up}
use Rattle.multipartition.specs.Tiles.{Inside, is_inside, positions, tile_number, position_of, one_step_on, AtEdge}
use Rattle.multipartition.proofs.Tests.{and-true_iff}
use Rattle.multipartition.proofs.MixedRadix.{Positive, digits_inside, digits_from, digits_of_number, number_of_digits, number_up_below, digits_up_inside, digits_of-number_up, number_of-digits_up, length-digits_up, digit_up-at, number_up-set}

-- ---- inside the grid

pub inside_of_test : (cuts position : List ℕ) → is_inside cuts position ≡ true → Inside cuts position
unfolding is_inside Inside
inside_of_test [] [] e = tt
inside_of_test [] (i ∷ position) e = let clash : ◌≡◌ {A = ℕ} 0 1 = cc in absurd (omega arith)
inside_of_test (b ∷ cuts) [] e = let clash : ◌≡◌ {A = ℕ} 0 1 = cc in absurd (omega arith)
inside_of_test (b ∷ cuts) (i ∷ position) e =
    let parts = (and-true_iff (ltb i b) (is_inside cuts position)).0 e in (ltb-true i b parts.0, inside_of_test cuts position parts.1)

pub test_of_inside : (cuts position : List ℕ) → Inside cuts position → is_inside cuts position ≡ true
unfolding is_inside Inside
test_of_inside [] [] h = refl
test_of_inside [] (i ∷ position) h = absurd h
test_of_inside (b ∷ cuts) [] h = absurd h
test_of_inside (b ∷ cuts) (i ∷ position) h = rw (lt-ltb i b h.0, test_of_inside cuts position h.1)

-- a position has a coordinate for each cut, below it
pub inside-length : (cuts position : List ℕ) → Inside cuts position → length position ≡ length cuts
unfolding Inside
inside-length [] [] h = refl
inside-length [] (i ∷ position) h = absurd h
inside-length (b ∷ cuts) [] h = absurd h
inside-length (b ∷ cuts) (i ∷ position) h = ap suc (inside-length cuts position h.1)

pub inside_below : (cuts position : List ℕ) → Inside cuts position → (k : ℕ) → k < length cuts → get_or position k 0 < get_or cuts k 0
unfolding Inside
inside_below [] position h k l = absurd (omega arith)
inside_below (b ∷ cuts) [] h k l = absurd h
inside_below (b ∷ cuts) (i ∷ position) h zero l = h.0
inside_below (b ∷ cuts) (i ∷ position) h (suc k) l = inside_below cuts position h.1 k (omega arith)

pub inside_of_below : (cuts position : List ℕ) → length position ≡ length cuts
    → ((k : ℕ) → k < length cuts → get_or position k 0 < get_or cuts k 0) → Inside cuts position
unfolding Inside
inside_of_below [] [] e h = tt
inside_of_below [] (i ∷ position) e h = absurd (omega arith)
inside_of_below (b ∷ cuts) [] e h = absurd (omega arith)
inside_of_below (b ∷ cuts) (i ∷ position) e h =
    (h 0 (omega arith), inside_of_below cuts position (omega arith) (λ k l. h (suc k) (omega arith)))

-- a grid with a position has no cut of 0, and so has one with a tile
pub positive_of_inside : (cuts position : List ℕ) → Inside cuts position → Positive cuts
unfolding Inside Positive
positive_of_inside [] position h = tt
positive_of_inside (b ∷ cuts) [] h = absurd h
positive_of_inside (b ∷ cuts) (i ∷ position) h = (omega arith, positive_of_inside cuts position h.1)

factors_positive : (a b : ℕ) → zero < a * b → (zero < a) × (zero < b)
factors_positive zero b h = absurd (omega arith)
factors_positive (suc a) zero h = absurd (omega arith)
factors_positive (suc a) (suc b) h = (omega arith, omega arith)

pub positive_of-product : (cuts : List ℕ) → zero < product cuts → Positive cuts
unfolding Positive
positive_of-product [] h = tt
positive_of-product (b ∷ cuts) h =
    ((factors_positive b (product cuts) h).0, positive_of-product cuts (factors_positive b (product cuts) h).1)

-- the last slab of each dimension
top_inside : (cuts : List ℕ) → Positive cuts → Inside cuts (map (λ b. b - 1) cuts)
unfolding Inside Positive
top_inside [] h = tt
top_inside (b ∷ cuts) h = (omega (arith, h.0), top_inside cuts h.1)

pub get_d_map : {A B : Type 0} (f : A → B) (a : A) (b : B) (xs : List A) (j : ℕ) → j < length xs → get_or (map f xs) j b ≡ f (get_or xs j a)
get_d_map f a b [] j l = absurd (omega arith)
get_d_map f a b (x ∷ xs) zero l = refl
get_d_map f a b (x ∷ xs) (suc j) l = get_d_map f a b xs j (omega arith)

-- ---- tile numbers

tile_number_lem : (cuts position : List ℕ) → tile_number cuts position ≡ 1 + number_up cuts position
unfolding tile_number
tile_number_lem cuts position = refl

pub number_low : (cuts position : List ℕ) → 1 ≤ tile_number cuts position
unfolding tile_number
number_low cuts position = omega arith

pub number_high : (cuts position : List ℕ) → Inside cuts position → tile_number cuts position ≤ product cuts
unfolding tile_number
number_high cuts position h = omega (arith, number_up_below cuts position h)

pub position_inside : (cuts : List ℕ) (tile : ℕ) → 1 ≤ tile → tile ≤ product cuts → Inside cuts (position_of cuts tile)
unfolding position_of
position_inside cuts tile low high = digits_up_inside cuts (tile - 1) (positive_of-product cuts (omega arith))

pub position_of_number : (cuts position : List ℕ) → Inside cuts position → position_of cuts (tile_number cuts position) ≡ position
unfolding position_of tile_number
position_of_number cuts position h =
    let shift : 1 + number_up cuts position - 1 ≡ number_up cuts position = omega arith in
    rw shift (digits_of-number_up cuts position h)

pub number_of_position : (cuts : List ℕ) (tile : ℕ) → 1 ≤ tile → tile ≤ product cuts → tile_number cuts (position_of cuts tile) ≡ tile
unfolding position_of tile_number
number_of_position cuts tile low high =
    omega (arith, number_of-digits_up cuts (tile - 1) (positive_of-product cuts (omega arith)) (omega arith))

-- the coordinate along k, counted from 0
pub coordinate_of_tile : (cuts : List ℕ) (tile k : ℕ) → k < length cuts → get_or (position_of cuts tile) k 0 ≡ (tile - 1) / product (take k cuts) % get_or cuts k 0
unfolding position_of
coordinate_of_tile cuts tile k l = digit_up-at cuts (tile - 1) k l

-- the highest tile has the highest coordinates
top_number : (cuts : List ℕ) → Positive cuts → 1 + number_up cuts (map (λ b. b - 1) cuts) ≡ product cuts
unfolding number_up Positive
top_number [] h = refl
top_number (b ∷ cuts) h =
    let whole : b * product cuts ≡ b - 1 + 1 + b * number_up cuts (map (λ b. b - 1) cuts) = ap (λ (n : ℕ). b * n) (sym (top_number cuts h.1)) ∙ omega (arith, h.0) in
    omega (arith, whole, h.0)

pub top_position : (cuts : List ℕ) → Positive cuts → (k : ℕ) → k < length cuts → get_or (position_of cuts (product cuts)) k 0 ≡ get_or cuts k 0 - 1
unfolding tile_number
top_position cuts h k l =
    ap (λ (x : List ℕ). get_or x k 0)
    (ap (position_of cuts) (sym (top_number cuts h)) ∙ position_of_number cuts (map (λ b. b - 1) cuts) (top_inside cuts h))
    ∙ get_d_map (λ b. b - 1) 0 0 cuts k l

pub length_position : (cuts : List ℕ) (tile : ℕ) → length (position_of cuts tile) ≡ length cuts
unfolding position_of
length_position cuts tile = length-digits_up cuts (tile - 1)

-- ---- all positions, the last dimension running fastest

length_starting : (from n : ℕ) (xs : List (List ℕ)) → length (starting_with from n xs) ≡ n * length xs
unfolding starting_with
length_starting from zero xs = omega arith
length_starting from (suc n) xs =
    length-append (map (λ x. from ∷ x) xs) (starting_with (suc from) n xs)
    ∙ omega (arith, length-map xs (λ x. from ∷ x), length_starting (suc from) n xs)

get_d_starting : (from n : ℕ) (xs : List (List ℕ)) (i j : ℕ) → i < n → j < length xs
    → get_or (starting_with from n xs) (i * length xs + j) [] ≡ (from + i) ∷ get_or xs j []
unfolding starting_with
get_d_starting from zero xs i j li lj = absurd (omega arith)
get_d_starting from (suc n) xs zero j li lj =
    let index : 0 * length xs + j ≡ j = omega arith in
    let digit : from + 0 ≡ from = omega arith in
    let long : length (map (λ x. from ∷ x) xs) ≡ length xs = length-map xs (λ x. from ∷ x) in
    rw (index, digit)
    (get_or-append (map (λ x. from ∷ x) xs) (starting_with (suc from) n xs) [] j (omega arith) ∙ get_d_map (λ x. from ∷ x) [] [] xs j lj)
get_d_starting from (suc n) xs (suc i) j li lj =
    let long : length (map (λ x. from ∷ x) xs) ≡ length xs = length-map xs (λ x. from ∷ x) in
    let index : suc i * length xs + j ≡ length (map (λ x. from ∷ x) xs) + (i * length xs + j) = omega arith in
    let digit : from + suc i ≡ suc from + i = omega arith in
    rw (index, digit)
    (get_or-append-add (map (λ x. from ∷ x) xs) (starting_with (suc from) n xs) (i * length xs + j) []
    ∙ get_d_starting (suc from) n xs i j (omega arith) lj)

pub length-positions : (cuts : List ℕ) → length (positions cuts) ≡ product cuts
unfolding positions
length-positions [] = refl
length-positions (b ∷ cuts) = length_starting 0 b (positions cuts) ∙ ap (λ (n : ℕ). b * n) (length-positions cuts)

positions-at : (cuts : List ℕ) (n : ℕ) → n < product cuts → get_or (positions cuts) n [] ≡ digits_of cuts n
unfolding positions digits_of
positions-at [] n l = let none : n ≡ 0 = omega arith in rw none
positions-at (b ∷ cuts) n l =
    let some_tiles : zero < product cuts = (factors_positive b (product cuts) (omega arith)).1 in
    let digit : n / product cuts < b = (div-lt_iff_lt-mul some_tiles).1 l in
    let long : length (positions cuts) ≡ product cuts = length-positions cuts in
    let below : n % product cuts < product cuts = mod-lt n some_tiles in
    let split : n ≡ n / product cuts * length (positions cuts) + n % product cuts = rw long (sym (div-add-mod' n (product cuts))) in
    ap (λ (m : ℕ). get_or (starting_with 0 b (positions cuts)) m []) split
    ∙ get_d_starting 0 b (positions cuts) (n / product cuts) (n % product cuts) digit (omega arith)
    ∙ ap₂ (λ (i : ℕ) (x : List ℕ). i ∷ x) (sym (mod-eq_of_lt digit ∙ omega arith))
    (positions-at cuts (n % product cuts) below
    ∙ sym (digits_from (n / product cuts) (n % product cuts) cuts (positive_of-product cuts some_tiles))
    ∙ ap (digits_of cuts) (div-add-mod' n (product cuts)))

-- every place of it holds a position inside the grid
pub positions_inside : (cuts : List ℕ) (n : ℕ) → n < length (positions cuts) → Inside cuts (get_or (positions cuts) n [])
positions_inside cuts n l =
    let within : n < product cuts = omega (arith, length-positions cuts) in
    rw (positions-at cuts n within) (digits_inside cuts n (positive_of-product cuts (omega arith)))

-- every position inside the grid stands at one place of it, and at no other
pub positions_once : (cuts position : List ℕ) (n : ℕ) → Inside cuts position → n < length (positions cuts)
    → (get_or (positions cuts) n [] ≡ position) ↔ (n ≡ number_from 0 cuts position)
positions_once cuts position n h l = (
  λ e. sym (number_of_digits cuts n positive within) ∙ ap (number_from 0 cuts) (sym (positions-at cuts n within) ∙ e),
  λ e. positions-at cuts n within ∙ ap (digits_of cuts) e ∙ digits_of_number cuts position positive h,
)
  where
    within : n < product cuts
    within = omega (arith, length-positions cuts)

    positive : Positive cuts
    positive = positive_of_inside cuts position h

-- ---- one step on

-- what a step to `next` says: the test passed, and where it led
some_of-cond : (t : Bool) (x next : List ℕ) → cond t (some x) none ≡ some next → (t ≡ true) × (x ≡ next)
some_of-cond true x next e = (refl, cc)
some_of-cond false x next e = let clash : ◌≡◌ {A = ℕ} 0 1 = cc in absurd (omega arith)

some_of-cond-not : (t : Bool) (x next : List ℕ) → cond t none (some x) ≡ some next → (t ≡ false) × (x ≡ next)
some_of-cond-not true x next e = let clash : ◌≡◌ {A = ℕ} 0 1 = cc in absurd (omega arith)
some_of-cond-not false x next e = (refl, cc)

-- a number that is not 0 stands in the list
pub lt-length : (xs : List ℕ) (k : ℕ) → zero < get_or xs k 0 → k < length xs
lt-length [] k l = absurd (omega arith)
lt-length (x ∷ xs) zero l = omega arith
lt-length (x ∷ xs) (suc k) l = omega (arith, lt-length xs k l)

pub inside-set : (cuts position : List ℕ) (k i : ℕ) → Inside cuts position → i < get_or cuts k 0 → Inside cuts (set position k i)
unfolding Inside
inside-set [] [] k i h l = tt
inside-set [] (j ∷ position) k i h l = absurd h
inside-set (b ∷ cuts) [] k i h l = absurd h
inside-set (b ∷ cuts) (j ∷ position) zero i h l = (l, h.1)
inside-set (b ∷ cuts) (j ∷ position) (suc k) i h l = (h.0, inside-set cuts position k i h.1 l)

module _ (cuts position next : List ℕ) (k : ℕ) where
  -- a step up is taken where the next slab is there, a step down from a slab above 0
  pub up_taken : one_step_on cuts k true position ≡ some next
      → (suc (get_or position k 0) < get_or cuts k 0) × (set position k (suc (get_or position k 0)) ≡ next)
  unfolding one_step_on
  up_taken e =
      let parts = some_of-cond (ltb (suc (get_or position k 0)) (get_or cuts k 0)) (set position k (suc (get_or position k 0))) next e in
      (ltb-true (suc (get_or position k 0)) (get_or cuts k 0) parts.0, parts.1)

  pub down_taken : one_step_on cuts k false position ≡ some next
      → (zero < get_or position k 0) × (set position k (get_or position k 0 - 1) ≡ next)
  unfolding one_step_on
  down_taken e =
      let parts = some_of-cond-not (eqb (get_or position k 0) 0) (set position k (get_or position k 0 - 1)) next e in
      let high = eqb-false (get_or position k 0) 0 parts.0 in
      (omega (arith, high), parts.1)

-- from slab i one step leads to the next, where it is there, and from the next back
pub step_up : (cuts position : List ℕ) (k i : ℕ) → get_or position k 0 ≡ i → suc i < get_or cuts k 0 → one_step_on cuts k true position ≡ some (set position k (suc i))
unfolding one_step_on
step_up cuts position k i e l = rw (e, lt-ltb (suc i) (get_or cuts k 0) l)

pub step_down : (cuts position : List ℕ) (k i : ℕ) → get_or position k 0 ≡ suc i → one_step_on cuts k false position ≡ some (set position k i)
unfolding one_step_on
step_down cuts position k i e = let back : suc i - 1 ≡ i = omega arith in rw (e, ne_eqb (suc i) 0 (λ z. absurd (omega arith)), back)

-- a coordinate that is not 0 is one of the d
coordinate_below : (cuts position : List ℕ) (k : ℕ) → Inside cuts position → zero < get_or position k 0 → get_or position k 0 < get_or cuts k 0
coordinate_below cuts position k h l = inside_below cuts position h k (omega (arith, lt-length position k l, inside-length cuts position h))

pub one_step_on_inside : (cuts position next : List ℕ) (k : ℕ) (up : Bool) → Inside cuts position
    → one_step_on cuts k up position ≡ some next → Inside cuts next
one_step_on_inside cuts position next k true h e =
    let taken = up_taken cuts position next k e in
    rw (← taken.1) (inside-set cuts position k (suc (get_or position k 0)) h taken.0)
one_step_on_inside cuts position next k false h e =
    let taken = down_taken cuts position next k e in
    let below = coordinate_below cuts position k h taken.0 in
    rw (← taken.1) (inside-set cuts position k (get_or position k 0 - 1) h (omega arith))

-- "'edge' if that step leaves the grid", and only then
pub edge_iff : (cuts position : List ℕ) (k : ℕ) (up : Bool) → Inside cuts position → k < length cuts
    → (one_step_on cuts k up position ≡ none) ↔ AtEdge up (get_or cuts k 0) (get_or position k 0)
unfolding one_step_on
edge_iff cuts position k true h l = (λ e. left (ltb (suc i) b) refl e, λ e. rw (le-ltb (suc i) b (omega arith)))
  where
    i : ℕ
    i = get_or position k 0

    b : ℕ
    b = get_or cuts k 0

    left : (t : Bool) → ltb (suc i) b ≡ t → cond t (some (set position k (suc i))) none ≡ none → suc i ≡ b
    left true f e = let clash : ◌≡◌ {A = ℕ} 0 1 = cc in absurd (omega arith)
    left false f e = omega (arith, ltb-false (suc i) b f, inside_below cuts position h k l)
edge_iff cuts position k false h l = (λ e. left (eqb i 0) refl e, λ e. rw (eq-eqb i 0 e))
  where
    i : ℕ
    i = get_or position k 0

    left : (t : Bool) → eqb i 0 ≡ t → cond t none (some (set position k (i - 1))) ≡ none → i ≡ 0
    left true f e = eqb-true i 0 f
    left false f e = let clash : ◌≡◌ {A = ℕ} 0 1 = cc in absurd (omega arith)

set_back : (position : List ℕ) (k i : ℕ) → set (set position k i) k (get_or position k 0) ≡ position
set_back position k i = set-set position k i (get_or position k 0) ∙ set-get_or position k 0

-- a step and the step the other way come back
pub step_back : (cuts position next : List ℕ) (k : ℕ) (up : Bool) → Inside cuts position
    → one_step_on cuts k up position ≡ some next → one_step_on cuts k (not up) next ≡ some position
unfolding one_step_on
step_back cuts position next k true h e =
    let i : ℕ = get_or position k 0 in
    let taken = up_taken cuts position next k e in
    let there : k < length position = omega (arith, lt-length cuts k (omega (arith, taken.0)), inside-length cuts position h) in
    let at_next : get_or (set position k (suc i)) k 0 ≡ suc i = get_or-set_same position k (suc i) 0 there in
    let down-again : suc i - 1 ≡ i = omega arith in
    rw (← taken.1, at_next, down-again, set_back position k (suc i), ne_eqb (suc i) 0 (λ z. absurd (omega arith)))
step_back cuts position next k false h e =
    let i : ℕ = get_or position k 0 in
    let taken = down_taken cuts position next k e in
    let there : k < length position = lt-length position k taken.0 in
    let at_next : get_or (set position k (i - 1)) k 0 ≡ i - 1 = get_or-set_same position k (i - 1) 0 there in
    let up-again : suc (i - 1) ≡ i = omega (arith, taken.0) in
    rw (← taken.1, at_next, up-again, set_back position k (i - 1), lt-ltb i (get_or cuts k 0) (coordinate_below cuts position k h taken.0))

-- ---- how far a step leads

-- The tile one step down along k has the number that is lower by as many tiles as the cuts before k multiply to.
pub position-one_down : (cuts : List ℕ) (tile k : ℕ) → 1 ≤ tile → tile ≤ product cuts → k < length cuts → zero < get_or (position_of cuts tile) k 0
    → position_of cuts (tile - product (take k cuts)) ≡ set (position_of cuts tile) k (get_or (position_of cuts tile) k 0 - 1)
position-one_down cuts tile k low high l above =
    ap (position_of cuts) lower ∙ position_of_number cuts down (inside-set cuts here k (i - 1) inside below)
  where
    here : List ℕ
    here = position_of cuts tile

    i : ℕ
    i = get_or here k 0

    down : List ℕ
    down = set here k (i - 1)

    inside : Inside cuts here
    inside = position_inside cuts tile low high

    below : i - 1 < get_or cuts k 0
    below = omega (arith, inside_below cuts here inside k l)

    part : i * product (take k cuts) ≡ (i - 1) * product (take k cuts) + product (take k cuts)
    part = let whole : i ≡ i - 1 + 1 = omega (arith, above) in ap (λ (n : ℕ). n * product (take k cuts)) whole ∙ omega arith

    lower : tile - product (take k cuts) ≡ tile_number cuts down
    lower =
        omega (
          arith,
          part,
          number_up-set cuts here k (i - 1) l (omega (arith, inside-length cuts here inside)),
          number_of_position cuts tile low high,
          tile_number_lem cuts here,
          tile_number_lem cuts down,
        )
