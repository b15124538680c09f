-- Positions by value and the lists of their coordinates, read by places, counted from 0; and how a loop fills the five places.
use mathlib.Core.Path.{◌≡◌, refl, sym, ◌∙◌}
use mathlib.Core.List.{List, [], ◌∷◌, ◌++◌}
use Prim.Native.Nat.{ℕ, zero, suc, ◌<◌, ◌≤◌}
use native.Mathlib.Nat.{le_refl, mul-le-mul_right}
use native.Mathlib.Omega.{arith}
use lib.ListN.{length, get_or, take, drop, replicate, length-append, length-replicate}
use lib.Seq.{ext_get_or, length-take-le, take-append-le, get_or-take, sets}
use Rattle.multipartition.specs.MixedRadix.{number_up}
use Rattle.multipartition.specs.Tiles.{Inside}
use Rattle.multipartition.proofs.MixedRadix.{number_up_below}
use Rattle.multipartition.proofs.Tiles.{inside_of_below}
use Rattle.layout.specs.declared.Plan.{Plan}
use Rattle.layout.specs.Plans.{layout_of, five}
use Rattle.layout.specs.Positions.{InGrid}
use Rattle.layout.specs.Shaped.{Shaped}
use Rattle.layout.proofs.Places.{cuts_length, cut_at}
use Rattle.layout.proofs.Plans.{take-five}
use Rattle.tiles.specs.declared.positions.Position.{Position}
use Rattle.tiles.specs.Positions.{coordinates, position_with}

-- ---- coordinates

pub length-coordinates : (position : Position) → length (coordinates position) ≡ position.d
unfolding coordinates
length-coordinates position =
    length-take-le position.d (position.at ++ replicate position.d 0)
    (omega (arith, length-append position.at (replicate position.d 0), length-replicate {A = ℕ} position.d 0))

-- the coordinates are the first d places
pub coordinates_front : (position : Position) (d : ℕ) → position.d ≡ d → d ≤ length position.at → coordinates position ≡ take d position.at
unfolding coordinates
coordinates_front position d same few =
    rw same (take-append-le d position.at (replicate d 0) few)

zeros-at : (n k : ℕ) → get_or {A = ℕ} (replicate n 0) k 0 ≡ 0
zeros-at zero k = refl
zeros-at (suc n) zero = refl
zeros-at (suc n) (suc k) = zeros-at n k

before_zeros : (xs : List ℕ) (n k : ℕ) → get_or (xs ++ replicate n 0) k 0 ≡ get_or xs k 0
before_zeros [] n k = zeros-at n k
before_zeros (x ∷ xs) n zero = refl
before_zeros (x ∷ xs) n (suc k) = before_zeros xs n k

pub coordinate-at : (position : Position) (k : ℕ) → k < position.d → get_or (coordinates position) k 0 ≡ get_or position.at k 0
unfolding coordinates
coordinate-at position k l =
    get_or-take position.d (position.at ++ replicate position.d 0) k 0 l ∙ before_zeros position.at position.d k

length-five : (xs : List ℕ) → length (five xs) ≡ 5
length-five xs = length-take-le 5 (xs ++ replicate 5 0) (omega (arith, length-append xs (replicate 5 0)))

pub coordinates_with : (xs : List ℕ) → length xs ≤ 5 → coordinates (position_with xs) ≡ xs
unfolding coordinates
coordinates_with xs few =
    take-append-le (length xs) (five xs) (replicate (length xs) 0) (omega (arith, length-five xs)) ∙ take-five (length xs) xs few refl

-- five places with the numbers of a list, zero past its end
pub five_places : (at xs : List ℕ) → length at ≡ 5 → ((i : ℕ) → i < 5 → get_or at i 0 ≡ get_or xs i 0) → at ≡ five xs
five_places at xs long same =
    ext_get_or 0 at (five xs) (long ∙ sym (length-five xs))
    (λ i l. same i (omega (arith, long)) ∙ sym (get_or-take 5 (xs ++ replicate 5 0) i 0 (omega (arith, long)) ∙ before_zeros xs 5 i))

-- five numbers of a list, zero past its end
pub five_numbers : (xs : List ℕ) → get_or xs 0 0 ∷ get_or xs 1 0 ∷ get_or xs 2 0 ∷ get_or xs 3 0 ∷ get_or xs 4 0 ∷ [] ≡ five xs
five_numbers [] = refl
five_numbers (a ∷ []) = refl
five_numbers (a ∷ b ∷ []) = refl
five_numbers (a ∷ b ∷ c ∷ []) = refl
five_numbers (a ∷ b ∷ c ∷ d ∷ []) = refl
five_numbers (a ∷ b ∷ c ∷ d ∷ e ∷ more) = refl

-- ---- positions of the grid

pub grid_d : (plan : Plan) (position : Position) → InGrid plan (coordinates position) → position.d ≡ plan.d
grid_d plan position g = sym (length-coordinates position) ∙ g.coordinates

-- the coordinates of a position of the grid are its first places
pub grid_front : (plan : Plan) → Shaped plan → (position : Position) → InGrid plan (coordinates position) → length position.at ≡ 5
    → take plan.d position.at ≡ coordinates position
grid_front plan s position g five =
    sym (coordinates_front position plan.d (grid_d plan position g) (omega (arith, five, s.d_high)))

pub grid-at : (plan : Plan) (position : Position) → InGrid plan (coordinates position) → (k : ℕ) → k < plan.d
    → get_or (coordinates position) k 0 ≡ get_or position.at k 0
grid-at plan position g k l = coordinate-at position k (omega (arith, grid_d plan position g))

-- ---- five places, filled from the first number of a list on

pub stored : (xs : List ℕ) → length xs ≤ 5 → sets (replicate 5 0) 0 xs ≡ five xs
stored [] l = refl
stored (a ∷ []) l = refl
stored (a ∷ b ∷ []) l = refl
stored (a ∷ b ∷ c ∷ []) l = refl
stored (a ∷ b ∷ c ∷ d ∷ []) l = refl
stored (a ∷ b ∷ c ∷ d ∷ e ∷ []) l = refl
stored (a ∷ b ∷ c ∷ d ∷ e ∷ f ∷ more) l = absurd (omega arith)

-- ---- numbers

-- the digits from place k on make no larger number than all
number_end : (k : ℕ) (bases digits : List ℕ) → Inside bases digits → number_up (drop k bases) (drop k digits) ≤ number_up bases digits
unfolding number_up Inside
number_end zero bases digits h = le_refl _
number_end (suc k) [] digits h = omega arith
number_end (suc k) (b ∷ bases) [] h = absurd h
number_end (suc k) (b ∷ bases) (c ∷ digits) h =
    let low : 1 ≤ b = omega (arith, h.0) in
    omega (arith, number_end k bases digits h.1, mul-le-mul_right (number_up bases digits) low)

-- the coordinates from place k on make a number below the number of tiles
pub number_small : (plan : Plan) → Shaped plan → (position : List ℕ) → InGrid plan position → (k : ℕ)
    → number_up (drop k (layout_of plan).cuts) (drop k position) < 16777216
unfolding layout_of
number_small plan s position g k =
    let cuts : List ℕ = (layout_of plan).cuts in
    let inside : Inside cuts position
    = inside_of_below cuts position (g.coordinates ∙ sym (cuts_length plan s))
    (λ i l. let m : i < plan.d = omega (arith, cuts_length plan s) in rw (cut_at plan i m) (g.below i m)) in
    omega (arith, number_end k cuts position inside, number_up_below cuts position inside, s.tiles_high)
