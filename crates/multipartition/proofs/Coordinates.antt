-- The owner of document 01 is the owner that Evenness counts. Its rows of whole numbers, reduced at the end, are the natural rows' values at the
-- unit positions; a row times a position is its columns, each as often as the position says; and the lists are turned round.
use mathlib.Core.Path.{◌≡◌, refl, sym, ap, ap₂, ◌∙◌, subst}
use mathlib.Core.List.{List, [], ◌∷◌, reverse, reverse_aux, reverse-reverse}
use Prim.Native.Nat.{ℕ, zero, suc, ◌+◌, ◌*◌, ◌/◌, ◌%◌, ◌<◌, ◌∣◌}
use native.Mathlib.Nat.{zero-lt-suc, add-zero, zero-add, mul-zero, suc_inj, suc-ne-zero, dvd_refl, dvd_trans, mod-mod, mod-one}
use native.Mathlib.Omega.{arith}
use lib.ListN.{length, get_or, length-reverse}
use lib.IntN.{pos, ◌-ℤ◌, ◌*ℤ◌}
use Rattle.numbers.specs.Gcd.{gcd}
use Rattle.numbers.specs.Products.{product}
use Rattle.numbers.specs.Sums.{same}
use Rattle.numbers.proofs.Gcd.{gcd-dvd_left, gcd_pos, gcd-rest_pos}
use Rattle.numbers.proofs.Sums.{same_yes, same_no}
use Rattle.numbers.proofs.Congruence.{Congruent, congruent-add, congruent-mul}
use Rattle.multipartition.specs.Lists.{first, rest, list_of}
use Rattle.multipartition.specs.Cuts.{Even}
use Rattle.multipartition.specs.Moduli.{moduli_of}
use Rattle.multipartition.specs.Matrix.{remainder, Row, first_row, rest_rows, start_row, factor, next, finish, finished_rows, rows_of, remainders_of, matrix_of}
use Rattle.multipartition.specs.MixedRadix.{number_from, number_up}
use Rattle.multipartition.specs.Owners.{times, coordinates_at, owner_at, owner_of}
use Rattle.multipartition.specs.WholeNumbers.{Stands}
use Rattle.multipartition.proofs.WholeNumbers.{stands-take, stands-remainder, stands-dvd, stands-nat}
use Rattle.multipartition.proofs.MixedRadix.{number-reverse}
use Rattle.multipartition.proofs.Moduli.{length_moduli, first_modulus, remains, remains-dvd, moduli_down, moduli_down-reverse}
use Rattle.multipartition.proofs.GridSums.{get_d_reverse_aux_past}
use Rattle.multipartition.proofs.Rows.{taken, values}
use Rattle.multipartition.proofs.Evenness.{remainders_down, owner_down}

-- ---- the natural rows stand for the rows of whole numbers, column by column

-- The position that is 1 in dimension k and 0 elsewhere. The naturals that stand for column k are the values there.
unfoldable unit : ℕ → List ℕ → List ℕ
unit k [] = []
unit k (b ∷ cuts) = same k (length cuts + 2) ∷ unit k cuts

abbrev column : ℕ → ℕ → List ℕ → List ℕ → List ℕ
column neg k cuts moduli = values neg (same k 1) cuts moduli (unit k cuts)

-- the numbers ys stand for column k of the rows
unfoldable AllStand : ℕ → ℕ → List ℕ → List Row → List ℕ → Type 0
AllStand p k [] rows ys = Unit {0}
AllStand p k (b ∷ cuts) rows ys = Stands p (first_row rows k) (first ys) × AllStand p k cuts (rest_rows rows) (rest ys)

finish-stands : (p neg k : ℕ) → p ∣ neg + 1 → (row : Row) (x r : ℕ) (cuts moduli : List ℕ) (rows : List Row) (ys : List ℕ)
    → Stands p (row k) x → AllStand p k cuts rows ys → Stands p (finish row r cuts moduli rows k) (x + neg * taken r cuts moduli ys)
unfolding finish taken AllStand
finish-stands p neg k d row x r [] moduli rows ys e h = subst (λ (n : ℕ). Stands p (row k) n) (omega arith) e
finish-stands p neg k d row x r (b ∷ cuts) moduli rows ys e h =
    subst (λ (n : ℕ). Stands p (finish row' (next r b (first moduli)) cuts (rest moduli) (rest_rows rows) k) n) (omega arith)
    (finish-stands p neg k d row' (x + neg * (factor r b * first ys)) (next r b (first moduli)) cuts (rest moduli) (rest_rows rows) (rest ys)
    (stands-take p neg d (row k) (first_row rows k) (factor r b) x (first ys) e h.0) h.1)
  where
    row' : Row
    row' j = row j -ℤ pos (factor r b) *ℤ first_row rows j

rows_stand : (p neg k : ℕ) → p ∣ neg + 1 → (cuts moduli : List ℕ) → AllStand p k cuts (finished_rows cuts moduli) (column neg k cuts moduli)
unfolding finished_rows values unit AllStand
rows_stand p neg k d [] moduli = tt
rows_stand p neg k d (b ∷ cuts) moduli = (
  subst (λ (n : ℕ). Stands p (finish (start_row (length cuts + 2)) (first moduli) cuts (rest moduli) (finished_rows cuts (rest moduli)) k) n) (omega arith)
      (finish-stands p neg k d (start_row (length cuts + 2)) (same k (length cuts + 2) + same k 1) (first moduli) cuts (rest moduli)
      (finished_rows cuts (rest moduli)) (column neg k cuts (rest moduli)) (stands-nat p (same k (length cuts + 2) + same k 1))
      (rows_stand p neg k d cuts (rest moduli))),
  rows_stand p neg k d cuts (rest moduli),
)

-- ---- a row, as a function of the column, times a position

-- the row f times the position x, whose places are those of dimensions k, k + 1, ..
unfoldable pub dot : ℕ → (ℕ → ℕ) → List ℕ → ℕ
dot k f [] = 0
dot k f (i ∷ x) = f k * i + dot (suc k) f x

pub dot-add : (k : ℕ) (f g : ℕ → ℕ) (x : List ℕ) → dot k (λ j. f j + g j) x ≡ dot k f x + dot k g x
unfolding dot
dot-add k f g [] = refl
dot-add k f g (i ∷ x) = ap (λ (n : ℕ). (f k + g k) * i + n) (dot-add (suc k) f g x) ∙ omega arith

pub dot-mul_left : (k c : ℕ) (f : ℕ → ℕ) (x : List ℕ) → dot k (λ j. c * f j) x ≡ c * dot k f x
unfolding dot
dot-mul_left k c f [] = sym (mul-zero c)
dot-mul_left k c f (i ∷ x) = ap (λ (n : ℕ). c * f k * i + n) (dot-mul_left (suc k) c f x) ∙ omega arith

pub dot-zero : (k : ℕ) (x : List ℕ) → dot k (λ j. 0) x ≡ 0
unfolding dot
dot-zero k [] = refl
dot-zero k (i ∷ x) = ap (λ (n : ℕ). 0 * i + n) (dot-zero (suc k) x) ∙ omega arith

-- a row that is 1 in one column picks one place
dot-same_past : (k c : ℕ) (x : List ℕ) → c < k → dot k (λ j. same j c) x ≡ 0
unfolding dot
dot-same_past k c [] l = refl
dot-same_past k c (i ∷ x) l = ap₂ (λ (m n : ℕ). m * i + n) (same_no k c differ) (dot-same_past (suc k) c x (omega arith)) ∙ omega arith
  where
    differ : k ≡ c → ⊥
    differ e = omega arith

pub dot-same : (k n : ℕ) (x : List ℕ) → dot k (λ j. same j (n + k)) x ≡ get_or x n 0
unfolding dot
dot-same k n [] = refl
dot-same k zero (i ∷ x) =
    ap₂ (λ (m j : ℕ). m * i + j) (same_yes k (0 + k) (omega arith)) (dot-same_past (suc k) (0 + k) x (omega arith)) ∙ omega arith
dot-same k (suc n) (i ∷ x) =
    ap₂ (λ (m j : ℕ). m * i + j) (same_no k (suc n + k) differ)
    (ap (λ (c : ℕ). dot (suc k) (λ j. same j c) x) (omega arith) ∙ dot-same (suc k) n x)
    ∙ omega arith
  where
    differ : k ≡ suc n + k → ⊥
    differ e = omega arith

-- congruent rows make congruent products
pub dot_congruent : (m k : ℕ) (f g : ℕ → ℕ) (x : List ℕ) → ((j : ℕ) → Congruent m (f j) (g j)) → Congruent m (dot k f x) (dot k g x)
unfolding dot
dot_congruent m k f g [] h = refl
dot_congruent m k f g (i ∷ x) h =
    congruent-add m (f k * i) (g k * i) (dot (suc k) f x) (dot (suc k) g x)
    (congruent-mul m (f k) (g k) i i (h k) refl) (dot_congruent m (suc k) f g x h)

-- ---- the values at a position are the columns, each as often as the position says

-- the lists ys k, taken as often as the position x says, make the list zs
unfoldable Makes : List ℕ → List ℕ → (ℕ → List ℕ) → List ℕ → Type 0
Makes [] x ys zs = Unit {0}
Makes (b ∷ cuts) x ys zs = (dot 1 (λ k. first (ys k)) x ≡ first zs) × Makes cuts x (λ k. rest (ys k)) (rest zs)

taken_makes : (r : ℕ) (cuts moduli x : List ℕ) (ys : ℕ → List ℕ) (zs : List ℕ) → Makes cuts x ys zs
    → dot 1 (λ k. taken r cuts moduli (ys k)) x ≡ taken r cuts moduli zs
unfolding taken Makes
taken_makes r [] moduli x ys zs h = dot-zero 1 x
taken_makes r (b ∷ cuts) moduli x ys zs h =
    dot-add 1 (λ k. taken (next r b (first moduli)) cuts (rest moduli) (rest (ys k))) (λ k. factor r b * first (ys k)) x
    ∙ ap₂ ◌+◌ (taken_makes (next r b (first moduli)) cuts (rest moduli) x (λ k. rest (ys k)) (rest zs) h.1)
    (dot-mul_left 1 (factor r b) (λ k. first (ys k)) x ∙ ap (λ (n : ℕ). factor r b * n) h.0)

-- the highest row: x is the place in its dimension, xs those in the dimensions below it and y those in the later ones
head_makes : (neg i1 : ℕ) (cuts moduli : List ℕ) (x : ℕ) (xs y : List ℕ) → length xs ≡ length cuts
    → Makes cuts (i1 ∷ reverse_aux xs (x ∷ y)) (λ k. column neg k cuts (rest moduli)) (values neg i1 cuts (rest moduli) xs)
    → dot 1 (λ k. same k (length cuts + 2) + (same k 1 + neg * taken (first moduli) cuts (rest moduli) (column neg k cuts (rest moduli))))
    (i1 ∷ reverse_aux xs (x ∷ y))
    ≡ x + (i1 + neg * taken (first moduli) cuts (rest moduli) (values neg i1 cuts (rest moduli) xs))
head_makes neg i1 cuts moduli x xs y e h =
    dot-add 1 (λ k. same k (length cuts + 2)) (λ k. same k 1 + neg * below k) z
    ∙ ap₂ ◌+◌ own
    (dot-add 1 (λ k. same k 1) (λ k. neg * below k) z
    ∙ ap₂ ◌+◌ (dot-same 1 0 z)
    (dot-mul_left 1 neg below z
    ∙ ap (λ (n : ℕ). neg * n)
    (taken_makes (first moduli) cuts (rest moduli) z (λ k. column neg k cuts (rest moduli)) (values neg i1 cuts (rest moduli) xs) h)))
  where
    z : List ℕ
    z = i1 ∷ reverse_aux xs (x ∷ y)

    below : ℕ → ℕ
    below k = taken (first moduli) cuts (rest moduli) (column neg k cuts (rest moduli))

    own : dot 1 (λ k. same k (length cuts + 2)) z ≡ x
    own =
        ap (λ (c : ℕ). dot 1 (λ k. same k c) z) (omega arith)
        ∙ dot-same 1 (suc (length cuts)) z
        ∙ ap (λ (n : ℕ). get_or (reverse_aux xs (x ∷ y)) n 0) (sym e ∙ sym (add-zero (length xs)))
        ∙ get_d_reverse_aux_past xs (x ∷ y) 0 0

columns_make : (neg i1 : ℕ) (cuts moduli xs y : List ℕ) → length xs ≡ length cuts
    → Makes cuts (i1 ∷ reverse_aux xs y) (λ k. column neg k cuts moduli) (values neg i1 cuts moduli xs)
unfolding values unit Makes
columns_make neg i1 [] moduli xs y e = tt
columns_make neg i1 (b ∷ cuts) moduli [] y e = absurd (suc-ne-zero (length cuts) (sym e))
columns_make neg i1 (b ∷ cuts) moduli (x ∷ xs) y e =
    let later = columns_make neg i1 cuts (rest moduli) xs (x ∷ y) (suc_inj e) in
    (head_makes neg i1 cuts moduli x xs y (suc_inj e) later, later)

-- ---- the coordinates

-- the coordinates by rows of whole numbers
unfoldable coordinates : List ℕ → List Row → List ℕ → List ℕ
coordinates [] rows x = []
coordinates (m ∷ moduli) rows x = (dot 1 (λ k. remainder (first_row rows k) m) x % m) ∷ coordinates moduli (rest_rows rows) x

-- they are the remainders of the values, if the moduli are those for some divisor p' of p
coordinates_stand : (p p' : ℕ) (cuts x : List ℕ) (rows : List Row) (ys : ℕ → List ℕ) (zs : List ℕ) → zero < p' → p' ∣ p
    → ((k : ℕ) → AllStand p k cuts rows (ys k)) → Makes cuts x ys zs
    → coordinates (moduli_down p' cuts) rows x ≡ remainders_down (moduli_down p' cuts) zs
unfolding coordinates moduli_down remainders_down AllStand Makes
coordinates_stand p p' [] x rows ys zs l d s h = refl
coordinates_stand p p' (b ∷ cuts) x rows ys zs l d s h =
    ap₂ ◌∷◌
    (dot_congruent m 1 (λ k. remainder (first_row rows k) m) (λ k. first (ys k)) x
    (λ k. ap (λ (n : ℕ). n % m)
    (stands-remainder m (first_row rows k) (first (ys k)) (gcd_pos p' b l)
    (stands-dvd m p (first_row rows k) (first (ys k)) (dvd_trans m (gcd-dvd_left p' b) d) (s k).0))
    ∙ mod-mod (first (ys k)) m)
    ∙ ap (λ (n : ℕ). n % m) h.0)
    (coordinates_stand p (remains p' b) cuts x (rest_rows rows) (λ k. rest (ys k)) (rest zs) (gcd-rest_pos p' b l)
    (dvd_trans (remains p' b) (remains-dvd p' b) d) (λ k. (s k).1) h.1)
  where
    m : ℕ
    m = gcd p' b

-- at the position i1 ∷ reverse xs
coordinates_values : (p neg i1 : ℕ) (cuts xs : List ℕ) → zero < p → p ∣ neg + 1 → length xs ≡ length cuts
    → coordinates (moduli_down p cuts) (finished_rows cuts (moduli_down p cuts)) (i1 ∷ reverse xs)
    ≡ remainders_down (moduli_down p cuts) (values neg i1 cuts (moduli_down p cuts) xs)
coordinates_values p neg i1 cuts xs l n e =
    coordinates_stand p p cuts (i1 ∷ reverse xs) (finished_rows cuts ms) (λ k. column neg k cuts ms) (values neg i1 cuts ms xs) l (dvd_refl p)
    (λ k. rows_stand p neg k n cuts ms) (columns_make neg i1 cuts ms xs [] e)
  where
    ms : List ℕ
    ms = moduli_down p cuts

-- ---- from dimension 1 up, and from dimension d down

-- a row as a list and as a function
pub times-list_of : (k n : ℕ) (f : ℕ → ℕ) (x : List ℕ) → length x ≡ n → times (list_of k n f) x ≡ dot k f x
unfolding times list_of dot
times-list_of k zero f [] e = refl
times-list_of k zero f (i ∷ x) e = absurd (suc-ne-zero (length x) e)
times-list_of k (suc n) f [] e = absurd (suc-ne-zero n (sym e))
times-list_of k (suc n) f (i ∷ x) e = ap (λ (m : ℕ). f k * i + m) (times-list_of (suc k) n f x (suc_inj e))

coordinates_at_remainders : (d : ℕ) (moduli : List ℕ) (rows : List Row) (x : List ℕ) → length x ≡ d
    → coordinates_at moduli (remainders_of d moduli rows) x ≡ coordinates moduli rows x
unfolding coordinates_at remainders_of coordinates
coordinates_at_remainders d [] rows x e = refl
coordinates_at_remainders d (m ∷ moduli) rows x e =
    ap₂ ◌∷◌ (ap (λ (y : ℕ). y % m) (times-list_of 1 d (λ k. remainder (first_row rows k) m) x e))
    (coordinates_at_remainders d moduli (rest_rows rows) x e)

coordinates_reverse_aux : (moduli : List ℕ) (rows : List Row) (moduli' : List ℕ) (rows' : List Row) (x : List ℕ) → length rows ≡ length moduli
    → coordinates (reverse_aux moduli moduli') (reverse_aux rows rows') x ≡ reverse_aux (coordinates moduli rows x) (coordinates moduli' rows' x)
unfolding coordinates
coordinates_reverse_aux [] [] moduli' rows' x e = refl
coordinates_reverse_aux [] (row ∷ rows) moduli' rows' x e = absurd (suc-ne-zero (length rows) e)
coordinates_reverse_aux (m ∷ moduli) [] moduli' rows' x e = absurd (suc-ne-zero (length moduli) (sym e))
coordinates_reverse_aux (m ∷ moduli) (row ∷ rows) moduli' rows' x e = coordinates_reverse_aux moduli rows (m ∷ moduli') (row ∷ rows') x (suc_inj e)

coordinates-reverse : (moduli : List ℕ) (rows : List Row) (x : List ℕ) → length rows ≡ length moduli
    → coordinates moduli (reverse rows) x ≡ reverse (coordinates (reverse moduli) rows x)
unfolding coordinates
coordinates-reverse moduli rows x e =
    ap (λ (ms : List ℕ). coordinates ms (reverse rows) x) (sym (reverse-reverse moduli))
    ∙ coordinates_reverse_aux (reverse moduli) rows [] [] x (e ∙ sym (length-reverse moduli))

length-coordinates : (moduli : List ℕ) (rows : List Row) (x : List ℕ) → length (coordinates moduli rows x) ≡ length moduli
unfolding coordinates
length-coordinates [] rows x = refl
length-coordinates (m ∷ moduli) rows x = ap suc (length-coordinates moduli (rest_rows rows) x)

length-finished_rows : (cuts moduli : List ℕ) → length (finished_rows cuts moduli) ≡ length cuts
unfolding finished_rows
length-finished_rows [] moduli = refl
length-finished_rows (b ∷ cuts) moduli = ap suc (length-finished_rows cuts (rest moduli))

-- ---- the owner

pub owner_of_is_owner_down : (p neg b1 i1 : ℕ) (cuts x : List ℕ) → zero < p → p ∣ neg + 1 → Even p (b1 ∷ cuts) → length x ≡ length cuts
    → owner_of p (b1 ∷ cuts) (i1 ∷ reverse x) ≡ owner_down neg p (reverse cuts) i1 x
unfolding owner_of owner_at matrix_of moduli_of rows_of number_from coordinates
owner_of_is_owner_down p neg b1 i1 cuts x l n even e =
    ap (number_from 0 (moduli_of p (b1 ∷ cuts)))
    (coordinates_at_remainders (length (b1 ∷ cuts)) (moduli_of p (b1 ∷ cuts)) (rows_of (b1 ∷ cuts) (moduli_of p (b1 ∷ cuts))) (i1 ∷ reverse x)
    (ap suc (length-reverse x ∙ e)))
    ∙ ap₂ (λ (c : ℕ) (ys : List ℕ). number_from c ms ys) first_is-zero
    (coordinates-reverse ms (finished_rows (reverse cuts) (reverse ms)) (i1 ∷ reverse x) row_lengths)
    ∙ number-reverse ms (reverse (cs (reverse ms))) lengths
    ∙ ap₂ number_up (sym (moduli_down-reverse p cuts l)) (reverse-reverse (cs (reverse ms)))
    ∙ ap (λ (ys : List ℕ). number_up (moduli_down p (reverse cuts)) ys)
    (ap cs (sym (moduli_down-reverse p cuts l)) ∙ coordinates_values p neg i1 (reverse cuts) x l n (e ∙ sym (length-reverse cuts)))
  where
    m1 : ℕ
    m1 = gcd p (b1 * product cuts) / gcd p (product cuts)

    ms : List ℕ
    ms = moduli_of p cuts

    -- the coordinates from dimension d down to 2
    cs : List ℕ → List ℕ
    cs moduli = coordinates moduli (finished_rows (reverse cuts) moduli) (i1 ∷ reverse x)

    c1 : ℕ → ℕ
    c1 m = dot 1 (λ k. remainder (pos (same k 1)) m) (i1 ∷ reverse x)

    m1_is-one : m1 ≡ 1
    m1_is-one = first_modulus p (b1 ∷ cuts) l (zero-lt-suc (length cuts)) even

    first_is-zero : 0 * m1 + c1 m1 % m1 ≡ 0
    first_is-zero = ap (λ (m : ℕ). 0 * m + c1 m % m) m1_is-one ∙ zero-add (c1 1 % 1) ∙ mod-one (c1 1)

    row_lengths : length (finished_rows (reverse cuts) (reverse ms)) ≡ length ms
    row_lengths = length-finished_rows (reverse cuts) (reverse ms) ∙ length-reverse cuts ∙ sym (length_moduli p cuts)

    lengths : length (reverse (cs (reverse ms))) ≡ length ms
    lengths =
        length-reverse (cs (reverse ms))
        ∙ length-coordinates (reverse ms) (finished_rows (reverse cuts) (reverse ms)) (i1 ∷ reverse x)
        ∙ length-reverse ms
