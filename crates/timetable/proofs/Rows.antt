-- The faces of a processor in a slab, added up by lines: one dimension after another is taken out of the sum over the slab's positions, as its
-- thicknesses are a factor of the faces and its owners go from neighbour to neighbour. Dimensions are counted from 0.
use mathlib.Core.Path.{◌≡◌, refl, sym, ap, ap₂, ◌∙◌, subst, subst⁻¹}
use mathlib.Core.Logic.{◌≢◌}
use mathlib.Core.List.{List, [], ◌∷◌}
use Prim.Native.Nat.{ℕ, zero, suc, ◌+◌, ◌*◌, ◌/◌, ◌%◌, ◌≤◌, ◌<◌}
use native.Mathlib.Nat.{not-suc-le-zero, le_of_suc-le-suc, le_refl, zero-add, zero-mul, one-mul, mul_comm, mod-lt, div-one, div-div-eq-div-mul}
use native.Mathlib.Omega.{arith}
use lib.Arith.{digits_div, digits_mod, lt-one}
use lib.ListN.{length, get_or, set, take, length-set}
use lib.Seq.{get_or-set_same, get_or-set_other, set-get_or, set_comm}
use Rattle.numbers.specs.Products.{product, without}
use Rattle.numbers.specs.Sums.{sum, same}
use Rattle.numbers.proofs.Sums.{sum-swap, sum_split, sum_to, sum-mul_left}
use Rattle.multipartition.specs.Lists.{rest}
use Rattle.multipartition.specs.Slabs.{thickness}
use Rattle.multipartition.specs.Tiles.{Inside}
use Rattle.multipartition.proofs.GridSums.{sum_cong, total, total_ext}
use Rattle.multipartition.proofs.MixedRadix.{Positive, positive_of_places}
use Rattle.multipartition.proofs.SlabSums.{slab_sum-flat, total_along}
use Rattle.multipartition.proofs.Slabs.{slab_start-zero, slab_start_last}
use Rattle.multipartition.proofs.Tiles.{inside-length, inside_below}
use Rattle.layout.proofs.Lists.{product-add-one}
use Rattle.timetable.specs.Faces.{thicknesses, face_of, faces_held}
use Rattle.timetable.specs.Rows.{places_of}
use Rattle.timetable.proofs.Faces.{held_faces, face_opposite}

-- ---- a grid's positions by number

-- the numbers below m * b by quotient and remainder
sum_by_digits : (m b : ℕ) (h : ℕ → ℕ → ℕ) → zero < b → sum (m * b) (λ r. h (r % b) (r / b)) ≡ sum m (λ j. sum b (λ i. h i j))
unfolding sum
sum_by_digits zero b h l = ap (λ (n : ℕ). sum n (λ r. h (r % b) (r / b))) (zero-mul b)
sum_by_digits (suc m) b h l =
    sum_to (suc m * b) (m * b + b) (λ r. h (r % b) (r / b)) (omega arith)
    ∙ sum_split (m * b) b (λ r. h (r % b) (r / b))
    ∙ ap₂ ◌+◌ (sum_by_digits m b h l) (sum_cong b (λ i below. ap₂ h (digits_mod m below) (digits_div m below)))

total_places : (cuts : List ℕ) (f : List ℕ → ℕ) → Positive cuts → total cuts f ≡ sum (product cuts) (λ r. f (places_of cuts r))
unfolding total places_of Positive sum
total_places [] f h = sym (zero-add (f []))
total_places (b ∷ cuts) f h =
    sum_cong b (λ i l. total_places cuts (λ x. f (i ∷ x)) h.1)
    ∙ sum-swap b (product cuts) (λ i r. f (i ∷ places_of cuts r))
    ∙ sym (sum_by_digits (product cuts) b (λ i r. f (i ∷ places_of cuts r)) h.0)
    ∙ sum_to (product cuts * b) (b * product cuts) (λ r. f ((r % b) ∷ places_of cuts (r / b))) (mul_comm (product cuts) b)

pub length_places : (cuts : List ℕ) (r : ℕ) → length (places_of cuts r) ≡ length cuts
unfolding places_of
length_places [] r = refl
length_places (b ∷ cuts) r = ap suc (length_places cuts (r / b))

-- place k, as a loop finds it that divides by cut after cut
pub place_at : (cuts : List ℕ) (r k : ℕ) → k < length cuts → get_or (places_of cuts r) k 0 ≡ r / product (take k cuts) % get_or cuts k 0
unfolding places_of
place_at [] r k l = absurd (not-suc-le-zero l)
place_at (b ∷ cuts) r zero l = ap (λ (n : ℕ). n % b) (sym (div-one r))
place_at (b ∷ cuts) r (suc k) l =
    place_at cuts (r / b) k (le_of_suc-le-suc l) ∙ ap (λ (n : ℕ). n % get_or cuts k 0) (div-div-eq-div-mul r b (product (take k cuts)))

pub divided_more : (cuts : List ℕ) (r k : ℕ) → k < length cuts → r / product (take k cuts) / get_or cuts k 0 ≡ r / product (take (k + 1) cuts)
divided_more cuts r k l =
    div-div-eq-div-mul r (product (take k cuts)) (get_or cuts k 0) ∙ ap (λ (n : ℕ). r / n) (sym (product-add-one cuts k l))

pub places_inside : (cuts : List ℕ) (r : ℕ) → Positive cuts → Inside cuts (places_of cuts r)
unfolding places_of Positive Inside
places_inside [] r h = tt
places_inside (b ∷ cuts) r h = (mod-lt r h.0, places_inside cuts (r / b) h.1)

-- ---- positions of the flat grid

inside_raised : (cuts x : List ℕ) (k v : ℕ) → Inside (set cuts k 1) x → v < get_or cuts k 0 → Inside cuts (set x k v)
unfolding Inside
inside_raised [] [] k v h l = tt
inside_raised [] (i ∷ x) k v h l = absurd h
inside_raised (b ∷ cuts) [] zero v h l = absurd h
inside_raised (b ∷ cuts) [] (suc k) v h l = absurd h
inside_raised (b ∷ cuts) (i ∷ x) zero v h l = (l, h.1)
inside_raised (b ∷ cuts) (i ∷ x) (suc k) v h l = (h.0, inside_raised cuts x k v h.1 l)

-- ---- one more factor

pub product-set : (l : List ℕ) (k m : ℕ) → k < length l → product (set l k m) ≡ m * product (without k l)
product-set [] k m h = absurd (not-suc-le-zero h)
product-set (x ∷ l) zero m h = refl
product-set (x ∷ l) (suc k) m h = omega (arith, ap (λ (n : ℕ). x * n) (product-set l k m (le_of_suc-le-suc h)))

pub length-thicknesses : (extents cuts x : List ℕ) → length (thicknesses extents cuts x) ≡ length cuts
unfolding thicknesses
length-thicknesses extents [] x = refl
length-thicknesses extents (b ∷ cuts) x = ap suc (length-thicknesses (rest extents) cuts (rest x))

-- another place in dimension j is another thickness there
thicknesses-set : (extents cuts x : List ℕ) (j t : ℕ) → j < length x
    → thicknesses extents cuts (set x j t) ≡ set (thicknesses extents cuts x) j (thickness (get_or extents j 0) (get_or cuts j 0) t)
unfolding thicknesses
thicknesses-set extents [] x j t l = refl
thicknesses-set extents (b ∷ cuts) [] j t l = absurd (not-suc-le-zero l)
thicknesses-set [] (b ∷ cuts) (i ∷ x) zero t l = refl
thicknesses-set (n ∷ extents) (b ∷ cuts) (i ∷ x) zero t l = refl
thicknesses-set [] (b ∷ cuts) (i ∷ x) (suc j) t l =
    ap (λ (y : List ℕ). thickness 0 b i ∷ y) (thicknesses-set [] cuts x j t (le_of_suc-le-suc l))
thicknesses-set (n ∷ extents) (b ∷ cuts) (i ∷ x) (suc j) t l =
    ap (λ (y : List ℕ). thickness n b i ∷ y) (thicknesses-set extents cuts x j t (le_of_suc-le-suc l))

-- one element in one slab
thickness-one : thickness 1 1 0 ≡ 1
thickness-one = omega (arith, slab_start-zero 1 1, slab_start_last 1 1 (omega arith))

thicknesses-flat : (extents cuts x : List ℕ) (k : ℕ) → length extents ≡ length cuts → get_or x k 0 ≡ 0
    → thicknesses (set extents k 1) (set cuts k 1) x ≡ set (thicknesses extents cuts x) k 1
unfolding thicknesses
thicknesses-flat [] [] x k e z = refl
thicknesses-flat [] (b ∷ cuts) x k e z = absurd (omega arith)
thicknesses-flat (n ∷ extents) [] x k e z = absurd (omega arith)
thicknesses-flat (n ∷ extents) (b ∷ cuts) [] zero e z = ap (λ (m : ℕ). m ∷ thicknesses extents cuts []) thickness-one
thicknesses-flat (n ∷ extents) (b ∷ cuts) (i ∷ x) zero e z =
    ap (λ (m : ℕ). m ∷ thicknesses extents cuts x) (ap (thickness 1 1) z ∙ thickness-one)
thicknesses-flat (n ∷ extents) (b ∷ cuts) [] (suc k) e z =
    ap (λ (l : List ℕ). thickness n b 0 ∷ l) (thicknesses-flat extents cuts [] k (omega arith) z)
thicknesses-flat (n ∷ extents) (b ∷ cuts) (i ∷ x) (suc k) e z =
    ap (λ (l : List ℕ). thickness n b i ∷ l) (thicknesses-flat extents cuts x k (omega arith) z)

-- the product of the thicknesses of the tile at a position
abbrev volume : List ℕ → List ℕ → List ℕ → ℕ
volume extents cuts x = product (thicknesses extents cuts x)

-- without the thickness along dimension k: the grid with one element in one slab there
volume-flat : (extents cuts x : List ℕ) (k : ℕ) → length extents ≡ length cuts → k < length cuts → get_or x k 0 ≡ 0
    → volume (set extents k 1) (set cuts k 1) x ≡ product (without k (thicknesses extents cuts x))
volume-flat extents cuts x k e l z =
    ap product (thicknesses-flat extents cuts x k e z)
    ∙ product-set (thicknesses extents cuts x) k 1 (subst⁻¹ (λ (m : ℕ). k < m) (length-thicknesses extents cuts x) l)
    ∙ one-mul (product (without k (thicknesses extents cuts x)))

-- along a line the thickness is a factor
volume_along : (extents cuts x : List ℕ) (j t : ℕ) → length extents ≡ length cuts → length x ≡ length cuts → j < length cuts → get_or x j 0 ≡ 0
    → volume extents cuts (set x j t) ≡ thickness (get_or extents j 0) (get_or cuts j 0) t * volume (set extents j 1) (set cuts j 1) x
volume_along extents cuts x j t e long l z =
    ap product (thicknesses-set extents cuts x j t (subst⁻¹ (λ (m : ℕ). j < m) long l))
    ∙ product-set (thicknesses extents cuts x) j side (subst⁻¹ (λ (m : ℕ). j < m) (length-thicknesses extents cuts x) l)
    ∙ ap (λ (n : ℕ). side * n) (sym (volume-flat extents cuts x j e l z))
  where
    side : ℕ
    side = thickness (get_or extents j 0) (get_or cuts j 0) t

-- a position of the grid with one slab in dimension j
flat_place : (cuts x : List ℕ) (j : ℕ) → j < length cuts → Inside (set cuts j 1) x → get_or x j 0 ≡ 0
flat_place cuts x j l inside =
    lt-one (subst (λ (n : ℕ). get_or x j 0 < n) (get_or-set_same cuts j 1 0 l)
    (inside_below (set cuts j 1) x inside j (subst⁻¹ (λ (m : ℕ). j < m) (length-set cuts j 1) l)))

flat-length : (cuts x : List ℕ) (j : ℕ) → Inside (set cuts j 1) x → length x ≡ length cuts
flat-length cuts x j inside = inside-length (set cuts j 1) x inside ∙ length-set cuts j 1

-- it is one of the grid
inside_unflat : (cuts x : List ℕ) (j : ℕ) → j < length cuts → zero < get_or cuts j 0 → Inside (set cuts j 1) x → Inside cuts x
inside_unflat cuts x j l low inside =
    subst (Inside cuts) (ap (set x j) (sym (flat_place cuts x j l inside)) ∙ set-get_or x j 0) (inside_raised cuts x j 0 inside low)

-- One dimension is taken out of a sum of volumes times h: its thicknesses stay with h.
take_out : (extents cuts : List ℕ) (j : ℕ) (h : List ℕ → ℕ) → length extents ≡ length cuts → j < length cuts
    → total cuts (λ x. volume extents cuts x * h x)
    ≡ total (set cuts j 1) (λ x. volume (set extents j 1) (set cuts j 1) x * sum (get_or cuts j 0) (λ t. thickness (get_or extents j 0) (get_or cuts j 0) t * h (set x j t)))
take_out extents cuts j h e l =
    total_along j cuts (λ x. volume extents cuts x * h x) l
    ∙ total_ext (set cuts j 1) (λ x inside.
    sum_cong b (λ t m.
    ap (λ (n : ℕ). n * h (set x j t)) (volume_along extents cuts x j t e (flat-length cuts x j inside) l (flat_place cuts x j l inside))
    ∙ regroup (side t) (volume (set extents j 1) (set cuts j 1) x) (h (set x j t)))
    ∙ sum-mul_left b (volume (set extents j 1) (set cuts j 1) x) (λ t. side t * h (set x j t)))
  where
    b : ℕ
    b = get_or cuts j 0

    side : ℕ → ℕ
    side t = thickness (get_or extents j 0) (get_or cuts j 0) t

    regroup : (a v h : ℕ) → a * v * h ≡ v * (a * h)
    regroup a v h = omega arith

-- a grid or its extents with one slab, of one element, in dimensions k and j
abbrev pub flat : ℕ → ℕ → List ℕ → List ℕ
flat k j l = set (set l k 1) j 1

-- no cut of it is 0
low-flat : (cuts : List ℕ) (k : ℕ) → ((i : ℕ) → i < length cuts → 1 ≤ get_or cuts i 0) → (i : ℕ) → i < length (set cuts k 1) → 1 ≤ get_or (set cuts k 1) i 0
low-flat [] k h i l = absurd (not-suc-le-zero l)
low-flat (b ∷ cuts) zero h zero l = le_refl 1
low-flat (b ∷ cuts) zero h (suc i) l = h (suc i) l
low-flat (b ∷ cuts) (suc k) h zero l = h 0 (omega arith)
low-flat (b ∷ cuts) (suc k) h (suc i) l = low-flat cuts k (λ i m. h (suc i) (omega arith)) i (le_of_suc-le-suc l)

-- ---- the faces of q in slab v of dimension k, by rows along j and lines along c

module _ (extents cuts : List ℕ) (k j c : ℕ) (e : length extents ≡ length cuts) (lk : k < length cuts) (lj : j < length cuts) (lc : c < length cuts)
    (j-apart : j ≢ k) (c-apart : c ≢ k) (low : (i : ℕ) → i < length cuts → 1 ≤ get_or cuts i 0) where
  abbrev flat_cuts : List ℕ
  flat_cuts = flat k j cuts

  abbrev flat_extents : List ℕ
  flat_extents = flat k j extents

  in_slab : j < length (set cuts k 1)
  in_slab = subst⁻¹ (λ (m : ℕ). j < m) (length-set cuts k 1) lj

  in-flat : c < length flat_cuts
  in-flat = subst⁻¹ (λ (m : ℕ). c < m) (length-set (set cuts k 1) j 1 ∙ length-set cuts k 1) lc

  flat_low : (i : ℕ) → i < length flat_cuts → 1 ≤ get_or flat_cuts i 0
  flat_low = low-flat (set cuts k 1) j (low-flat cuts k low)

  slab_lengths : length (set extents k 1) ≡ length (set cuts k 1)
  slab_lengths = length-set extents k 1 ∙ e ∙ sym (length-set cuts k 1)

  flat_lengths : length flat_extents ≡ length flat_cuts
  flat_lengths = length-set (set extents k 1) j 1 ∙ slab_lengths ∙ sym (length-set (set cuts k 1) j 1)

  module _ (owner : List ℕ → ℕ) (v q : ℕ) (entry line : ℕ → ℕ) (lv : v < get_or cuts k 0)
      (on_row : (y : List ℕ) → Inside cuts y → get_or y j 0 ≡ 0
      → sum (get_or cuts j 0) (λ t. thickness (get_or extents j 0) (get_or cuts j 0) t * same (owner (set y j t)) q) ≡ entry (owner y))
      (on_line : (y : List ℕ) → Inside cuts y → get_or y c 0 ≡ 0 → ((t : ℕ) → t < get_or (flat k j cuts) c 0 → Inside cuts (set y c t))
      → sum (get_or (flat k j cuts) c 0) (λ t. thickness (get_or (flat k j extents) c 0) (get_or (flat k j cuts) c 0) t * entry (owner (set y c t))) ≡ line (owner y)) where
    -- the position of the slab above one of the flat grid
    raised : (x : List ℕ) → Inside flat_cuts x → Inside cuts (set x k v)
    raised x inside = inside_raised cuts x k v (inside_unflat (set cuts k 1) x j in_slab (low-flat cuts k low j in_slab) inside) lv

    faced : (x : List ℕ) → Inside (set cuts k 1) x
        → same (owner (set x k v)) q * face_of extents cuts k (set x k v) ≡ volume (set extents k 1) (set cuts k 1) x * same (owner (set x k v)) q
    unfolding face_of
    faced x inside =
        ap (λ (n : ℕ). same (owner (set x k v)) q * n)
        (face_opposite k v extents cuts x ∙ sym (volume-flat extents cuts x k e lk (flat_place cuts x k lk inside)))
        ∙ mul_comm (same (owner (set x k v)) q) (volume (set extents k 1) (set cuts k 1) x)

    rows : (x : List ℕ) → Inside flat_cuts x
        → sum (get_or (set cuts k 1) j 0) (λ t. thickness (get_or (set extents k 1) j 0) (get_or (set cuts k 1) j 0) t * same (owner (set (set x j t) k v)) q)
        ≡ entry (owner (set x k v))
    rows x inside =
        ap₂ (λ (n b : ℕ). sum b (λ t. thickness n b t * same (owner (set (set x j t) k v)) q)) (get_or-set_other extents k j 1 0 j-apart) (get_or-set_other cuts k j 1 0 j-apart)
        ∙ sum_cong (get_or cuts j 0) (λ t l.
        ap (λ (y : List ℕ). thickness (get_or extents j 0) (get_or cuts j 0) t * same (owner y) q) (set_comm x j k t v j-apart))
        ∙ on_row (set x k v) (raised x inside) (get_or-set_other x k j v 0 j-apart ∙ flat_place (set cuts k 1) x j in_slab inside)

    lines : (x : List ℕ) → Inside (set flat_cuts c 1) x
        → sum (get_or flat_cuts c 0) (λ t. thickness (get_or flat_extents c 0) (get_or flat_cuts c 0) t * entry (owner (set (set x c t) k v)))
        ≡ line (owner (set x k v))
    lines x inside =
        sum_cong (get_or flat_cuts c 0) (λ t l.
        ap (λ (y : List ℕ). thickness (get_or flat_extents c 0) (get_or flat_cuts c 0) t * entry (owner y)) (set_comm x c k t v c-apart))
        ∙ on_line (set x k v) (raised x (inside_unflat flat_cuts x c in-flat (flat_low c in-flat) inside))
        (get_or-set_other x k c v 0 c-apart ∙ flat_place flat_cuts x c in-flat inside)
        (λ t l. subst (Inside cuts) (set_comm x c k t v c-apart) (raised (set x c t) (inside_raised flat_cuts x c t inside l)))

    pub faces_by_lines : faces_held extents cuts owner k v q
        ≡ sum (product (set (flat k j cuts) c 1)) (λ r.
        product (thicknesses (set (flat k j extents) c 1) (set (flat k j cuts) c 1) (places_of (set (flat k j cuts) c 1) r))
        * line (owner (set (places_of (set (flat k j cuts) c 1) r) k v)))
    faces_by_lines =
        held_faces extents cuts owner k v q lv
        ∙ slab_sum-flat k v cuts (λ x. same (owner x) q * face_of extents cuts k x) lk
        ∙ total_ext (set cuts k 1) faced
        ∙ take_out (set extents k 1) (set cuts k 1) j (λ x. same (owner (set x k v)) q) slab_lengths in_slab
        ∙ total_ext flat_cuts (λ x inside. ap (λ (n : ℕ). volume flat_extents flat_cuts x * n) (rows x inside))
        ∙ take_out flat_extents flat_cuts c (λ x. entry (owner (set x k v))) flat_lengths in-flat
        ∙ total_ext (set flat_cuts c 1) (λ x inside. ap (λ (n : ℕ). volume (set flat_extents c 1) (set flat_cuts c 1) x * n) (lines x inside))
        ∙ total_places (set flat_cuts c 1) (λ x. volume (set flat_extents c 1) (set flat_cuts c 1) x * line (owner (set x k v)))
        (positive_of_places (set flat_cuts c 1) (low-flat flat_cuts c flat_low))
