-- Sums over the positions of a grid, and over the positions of one slab of it. A count of positions is the sum of an indicator.
-- For slabs a position is held as i1, its place in dimension 1, and the list of its places in the dimensions from d down to 2, so that every
-- recursion is on the head of a list and dimension 1 is the end of it.
use mathlib.Core.Path.{◌≡◌, refl, sym, ap, ap₂, ◌∙◌, subst, subst⁻¹, fun_ext}
use mathlib.Core.Bool.{Bool, true, false, cond, ◌&&◌}
use mathlib.Core.List.{List, [], ◌∷◌, ◌++◌, map, reverse, reverse_aux, reverse-reverse}
use Prim.Native.Nat.{ℕ, zero, suc, ◌+◌, ◌-◌, ◌*◌, ◌≤◌, ◌<◌}
use native.Mathlib.Nat.{not-suc-le-zero, le_of_suc-le-suc, add_assoc, zero-add, add-zero, zero-mul, one-mul, mul-one, lt_irrefl}
use native.Mathlib.Decide.{ℕ_discrete}
use native.Mathlib.Omega.{arith}
use lib.Dec.{eqb}
use lib.ListN.{length, get_or, length-reverse, get_or-eq_default}
use Rattle.numbers.specs.Products.{product}
use Rattle.numbers.specs.Sums.{sum, indicator, same}
use Rattle.numbers.proofs.Sums.{same_yes, same_no, sum-ext, sum-zero, sum-const, sum-mul_left, sum-swap, sum_split, sum_to}
use Rattle.multipartition.specs.Lists.{starting_with, sum_over, count}
use Rattle.multipartition.specs.Tiles.{Inside, positions}
use Rattle.multipartition.specs.Rivals.{held}
use Rattle.multipartition.proofs.Moduli.{others_down}
use Rattle.multipartition.proofs.Tiles.{inside-length}

-- ---- sums

-- equal terms make equal sums; the terms are read off the proof
pub sum_cong : (n : ℕ) {f g : ℕ → ℕ} → ((i : ℕ) → i < n → f i ≡ g i) → sum n f ≡ sum n g
sum_cong n {f} {g} h = sum-ext n f g h

-- two indicators are equal if each equation follows from the other
pub same_iff : (a b c d : ℕ) → (a ≡ b → c ≡ d) → (c ≡ d → a ≡ b) → same a b ≡ same c d
same_iff a b c d f g = go (ℕ_discrete a b)
  where
    go : Dec (a ≡ b) → same a b ≡ same c d
    go (yes e) = same_yes a b e ∙ sym (same_yes c d (f e))
    go (no n) = same_no a b n ∙ sym (same_no c d (λ e. n (g e)))

-- an indicator picks one summand out
pub sum_pick : (n s : ℕ) (f : ℕ → ℕ) → s < n → sum n (λ i. same i s * f i) ≡ f s
unfolding sum
sum_pick zero s f l = absurd (not-suc-le-zero l)
sum_pick (suc n) s f l = go (λ h. sum_pick n s f h) (ℕ_discrete n s)
  where
    none : (k : ℕ) → k ≤ s → sum k (λ i. same i s * f i) ≡ 0
    none k h =
        sum_cong k (λ i b. ap (λ (x : ℕ). x * f i) (same_no i s (λ e. lt_irrefl i (omega arith))) ∙ zero-mul (f i)) ∙ sum-zero k

    go : (s < n → sum n (λ i. same i s * f i) ≡ f s) → Dec (n ≡ s) → sum n (λ i. same i s * f i) + same n s * f n ≡ f s
    go below (yes e) =
        ap₂ ◌+◌ (none n (omega arith)) (ap (λ (x : ℕ). x * f n) (same_yes n s e) ∙ one-mul (f n) ∙ ap f e) ∙ zero-add (f s)
    go below (no h) = ap₂ ◌+◌ (below (omega arith)) (ap (λ (x : ℕ). x * f n) (same_no n s h) ∙ zero-mul (f n)) ∙ add-zero (f s)

-- s is exactly one of the numbers below n
sum_same : (n s : ℕ) → s < n → sum n (λ q. same s q) ≡ 1
sum_same n s l =
    sum_cong n (λ q h. same_iff s q q s sym sym ∙ sym (mul-one (same q s))) ∙ sum_pick n s (λ q. 1) l

-- ---- the whole grid

-- the sum of f over the positions of a grid
unfoldable pub total : List ℕ → (List ℕ → ℕ) → ℕ
total [] f = f []
total (b ∷ cuts) f = sum b (λ i. total cuts (λ x. f (i ∷ x)))

-- equal functions, where only the positions inside count
pub total_ext : (cuts : List ℕ) {f g : List ℕ → ℕ} → ((x : List ℕ) → Inside cuts x → f x ≡ g x) → total cuts f ≡ total cuts g
unfolding total Inside
total_ext [] h = h [] tt
total_ext (b ∷ cuts) h = sum_cong b (λ i l. total_ext cuts (λ x m. h (i ∷ x) (l, m)))

pub total-mul_left : (cuts : List ℕ) (c : ℕ) (f : List ℕ → ℕ) → total cuts (λ x. c * f x) ≡ c * total cuts f
unfolding total
total-mul_left [] c f = refl
total-mul_left (b ∷ cuts) c f =
    sum_cong b (λ i l. total-mul_left cuts c (λ x. f (i ∷ x))) ∙ sum-mul_left b c (λ i. total cuts (λ x. f (i ∷ x)))

-- a sum goes inside
pub total-swap : (n : ℕ) (cuts : List ℕ) (f : ℕ → List ℕ → ℕ) → sum n (λ i. total cuts (f i)) ≡ total cuts (λ x. sum n (λ i. f i x))
unfolding total
total-swap n [] f = refl
total-swap n (b ∷ cuts) f =
    sum-swap n b (λ i j. total cuts (λ x. f i (j ∷ x)))
    ∙ sum_cong b (λ j l. total-swap n cuts (λ i x. f i (j ∷ x)))

total-one : (cuts : List ℕ) → total cuts (λ x. 1) ≡ product cuts
unfolding total
total-one [] = refl
total-one (b ∷ cuts) = sum_cong b (λ i l. total-one cuts) ∙ sum-const b (product cuts)

-- ---- sums and counts over the list of all positions are such sums

sum_over-append : (f : List ℕ → ℕ) (xs ys : List (List ℕ)) → sum_over f (xs ++ ys) ≡ sum_over f xs + sum_over f ys
unfolding sum_over
sum_over-append f [] ys = sym (zero-add (sum_over f ys))
sum_over-append f (x ∷ xs) ys = ap (λ (n : ℕ). f x + n) (sum_over-append f xs ys) ∙ sym (add_assoc (f x) (sum_over f xs) (sum_over f ys))

sum_over-map : (f : List ℕ → ℕ) (i : ℕ) (xs : List (List ℕ)) → sum_over f (map (λ x. i ∷ x) xs) ≡ sum_over (λ x. f (i ∷ x)) xs
unfolding sum_over
sum_over-map f i [] = refl
sum_over-map f i (x ∷ xs) = ap (λ (n : ℕ). f (i ∷ x) + n) (sum_over-map f i xs)

sum_over_starting : (f : List ℕ → ℕ) (from n : ℕ) (xs : List (List ℕ))
    → sum_over f (starting_with from n xs) ≡ sum n (λ i. sum_over (λ x. f ((from + i) ∷ x)) xs)
unfolding starting_with sum sum_over
sum_over_starting f from zero xs = refl
sum_over_starting f from (suc n) xs =
    sum_over-append f (map (λ x. from ∷ x) xs) (starting_with (suc from) n xs)
    ∙ ap₂ ◌+◌ (sum_over-map f from xs ∙ ap with (omega arith))
    (sum_over_starting f (suc from) n xs ∙ sum_cong n (λ i l. ap with (omega arith)))
    ∙ ap (λ (m : ℕ). m + sum n (λ i. with (from + (1 + i)))) (sym (zero-add (with (from + 0))))
    ∙ sym (sum_split 1 n (λ i. with (from + i)))
    ∙ sum_to (1 + n) (suc n) (λ i. with (from + i)) (omega arith)
  where
    with : ℕ → ℕ
    with i = sum_over (λ x. f (i ∷ x)) xs

pub sum_over-positions : (cuts : List ℕ) (f : List ℕ → ℕ) → sum_over f (positions cuts) ≡ total cuts f
unfolding positions total sum_over
sum_over-positions [] f = add-zero (f [])
sum_over-positions (b ∷ cuts) f =
    sum_over_starting f 0 b (positions cuts)
    ∙ sum_cong b (λ i l. ap (λ (j : ℕ). sum_over (λ x. f (j ∷ x)) (positions cuts)) (zero-add i) ∙ sum_over-positions cuts (λ x. f (i ∷ x)))

-- a count is the sum of the test's indicator
count-sum : (test : List ℕ → Bool) (xs : List (List ℕ)) → count test xs ≡ sum_over (λ x. indicator (test x)) xs
unfolding count sum_over
count-sum test [] = refl
count-sum test (x ∷ xs) = ap₂ ◌+◌ (choose (test x)) (count-sum test xs)
  where
    choose : (t : Bool) → cond t 1 0 ≡ indicator t
    choose true = refl
    choose false = refl

pub count-positions : (cuts : List ℕ) (test : List ℕ → Bool) → count test (positions cuts) ≡ total cuts (λ x. indicator (test x))
count-positions cuts test = count-sum test (positions cuts) ∙ sum_over-positions cuts (λ x. indicator (test x))

-- how many tiles of a slab a processor owns, as a sum
pub held_total : (cuts : List ℕ) (owner : List ℕ → ℕ) (k s q : ℕ)
    → held cuts owner k s q ≡ total cuts (λ x. same (get_or x k 0) s * same (owner x) q)
unfolding held same
held_total cuts owner k s q =
    count-positions cuts (λ x. eqb (get_or x k 0) s && eqb (owner x) q)
    ∙ total_ext cuts (λ x w. both (eqb (get_or x k 0) s) (eqb (owner x) q))
  where
    both : (t u : Bool) → indicator (t && u) ≡ indicator t * indicator u
    both true u = sym (one-mul (indicator u))
    both false u = sym (zero-mul (indicator u))

-- ---- one slab, from dimension d down

-- the sum of f over the positions whose place in dimension d - k is s; b1 is the cut of dimension 1, which stands past the list
unfoldable pub slab_total : ℕ → ℕ → ℕ → List ℕ → (ℕ → List ℕ → ℕ) → ℕ
slab_total k s b1 [] f = f s []
slab_total zero s b1 (b ∷ cuts) f = sum b1 (λ i1. total cuts (λ x. f i1 (s ∷ x)))
slab_total (suc k) s b1 (b ∷ cuts) f = sum b (λ i. slab_total k s b1 cuts (λ i1 x. f i1 (i ∷ x)))

-- place d - k of a position
abbrev pub place_down : ℕ → ℕ → List ℕ → ℕ
place_down k i1 x = get_or x k i1

-- equal functions, where only the positions inside the grid count
pub slab_total-ext : (k s b1 : ℕ) (cuts : List ℕ) {f g : ℕ → List ℕ → ℕ} → s < place_down k b1 cuts
    → ((i1 : ℕ) (x : List ℕ) → i1 < b1 → Inside cuts x → f i1 x ≡ g i1 x) → slab_total k s b1 cuts f ≡ slab_total k s b1 cuts g
unfolding slab_total Inside
slab_total-ext k s b1 [] l h = h s [] l tt
slab_total-ext zero s b1 (b ∷ cuts) l h = sum_cong b1 (λ i1 m. total_ext cuts (λ x w. h i1 (s ∷ x) m (l, w)))
slab_total-ext (suc k) s b1 (b ∷ cuts) l h =
    sum_cong b (λ i m. slab_total-ext k s b1 cuts l (λ i1 x a w. h i1 (i ∷ x) a (m, w)))

pub slab_total-mul_left : (k s b1 : ℕ) (cuts : List ℕ) (c : ℕ) (f : ℕ → List ℕ → ℕ)
    → slab_total k s b1 cuts (λ i1 x. c * f i1 x) ≡ c * slab_total k s b1 cuts f
unfolding slab_total
slab_total-mul_left k s b1 [] c f = refl
slab_total-mul_left zero s b1 (b ∷ cuts) c f =
    sum_cong b1 (λ i1 l. total-mul_left cuts c (λ x. f i1 (s ∷ x)))
    ∙ sum-mul_left b1 c (λ i1. total cuts (λ x. f i1 (s ∷ x)))
slab_total-mul_left (suc k) s b1 (b ∷ cuts) c f =
    sum_cong b (λ i l. slab_total-mul_left k s b1 cuts c (λ i1 x. f i1 (i ∷ x)))
    ∙ sum-mul_left b c (λ i. slab_total k s b1 cuts (λ i1 x. f i1 (i ∷ x)))

-- a sum goes inside a slab
pub slab_total-swap : (n k s b1 : ℕ) (cuts : List ℕ) (f : ℕ → ℕ → List ℕ → ℕ)
    → sum n (λ i. slab_total k s b1 cuts (f i)) ≡ slab_total k s b1 cuts (λ i1 x. sum n (λ i. f i i1 x))
unfolding slab_total
slab_total-swap n k s b1 [] f = refl
slab_total-swap n zero s b1 (b ∷ cuts) f =
    sum-swap n b1 (λ i i1. total cuts (λ x. f i i1 (s ∷ x)))
    ∙ sum_cong b1 (λ i1 l. total-swap n cuts (λ i x. f i i1 (s ∷ x)))
slab_total-swap n (suc k) s b1 (b ∷ cuts) f =
    sum-swap n b (λ i j. slab_total k s b1 cuts (λ i1 x. f i i1 (j ∷ x)))
    ∙ sum_cong b (λ j l. slab_total-swap n k s b1 cuts (λ i i1 x. f i i1 (j ∷ x)))

-- how many positions a slab has
slab_total-one : (k s b1 : ℕ) (cuts : List ℕ) → slab_total k s b1 cuts (λ i1 x. 1) ≡ others_down k b1 cuts
unfolding slab_total others_down
slab_total-one k s b1 [] = refl
slab_total-one zero s b1 (b ∷ cuts) = sum_cong b1 (λ i1 l. total-one cuts) ∙ sum-const b1 (product cuts)
slab_total-one (suc k) s b1 (b ∷ cuts) = sum_cong b (λ i l. slab_total-one k s b1 cuts) ∙ sum-const b (others_down k b1 cuts)

-- a slab's sum is a sum over the whole grid with an indicator
slab_total_total : (k s b1 : ℕ) (cuts : List ℕ) (f : ℕ → List ℕ → ℕ) → s < place_down k b1 cuts
    → sum b1 (λ i1. total cuts (λ x. same (place_down k i1 x) s * f i1 x)) ≡ slab_total k s b1 cuts f
unfolding slab_total total
slab_total_total k s b1 [] f l = sum_pick b1 s (λ i1. f i1 []) l
slab_total_total zero s b1 (b ∷ cuts) f l =
    sum_cong b1 (λ i1 m.
    sum_cong b (λ i h. total-mul_left cuts (same i s) (λ x. f i1 (i ∷ x)))
    ∙ sum_pick b s (λ i. total cuts (λ x. f i1 (i ∷ x))) l)
slab_total_total (suc k) s b1 (b ∷ cuts) f l =
    sum-swap b1 b (λ i1 i. total cuts (λ x. same (place_down k i1 x) s * f i1 (i ∷ x)))
    ∙ sum_cong b (λ i h. slab_total_total k s b1 cuts (λ i1 x. f i1 (i ∷ x)) l)

-- If every position of the grid has an owner below p, by whatever rule, and all p owners have the same share of a slab, the share is a p-th
-- of the slab.
pub equal_shares : (k s b1 : ℕ) (cuts : List ℕ) (p share : ℕ) (owner : ℕ → List ℕ → ℕ) → s < place_down k b1 cuts
    → ((i1 : ℕ) (x : List ℕ) → i1 < b1 → Inside cuts x → owner i1 x < p)
    → ((q : ℕ) → q < p → slab_total k s b1 cuts (λ i1 x. same (owner i1 x) q) ≡ share) → p * share ≡ others_down k b1 cuts
equal_shares k s b1 cuts p share owner l below even =
    sym (sum-const p share)
    ∙ sum_cong p (λ q h. sym (even q h))
    ∙ slab_total-swap p k s b1 cuts (λ q i1 x. same (owner i1 x) q)
    ∙ slab_total-ext k s b1 cuts l (λ i1 x a w. sum_same p (owner i1 x) (below i1 x a w))
    ∙ slab_total-one k s b1 cuts

-- ---- from dimension 1 up, and from dimension d down

total_reverse_aux : (cuts done : List ℕ) (f : List ℕ → ℕ) → total (reverse_aux cuts done) f ≡ total cuts (λ x. total done (λ y. f (reverse_aux x y)))
unfolding total
total_reverse_aux [] done f = refl
total_reverse_aux (b ∷ cuts) done f =
    total_reverse_aux cuts (b ∷ done) f ∙ sym (total-swap b cuts (λ i x. total done (λ y. f (reverse_aux x (i ∷ y)))))

total-reverse : (cuts : List ℕ) (f : List ℕ → ℕ) → total cuts f ≡ total (reverse cuts) (λ x. f (reverse x))
unfolding total
total-reverse cuts f =
    ap (total cuts) (fun_ext (λ x. ap f (sym (reverse-reverse x)))) ∙ sym (total_reverse_aux cuts [] (λ x. f (reverse x)))

inside_reverse_aux : (cuts done x y : List ℕ) → Inside cuts x → Inside done y → Inside (reverse_aux cuts done) (reverse_aux x y)
unfolding Inside
inside_reverse_aux [] done [] y h m = m
inside_reverse_aux [] done (i ∷ x) y h m = absurd h
inside_reverse_aux (b ∷ cuts) done [] y h m = absurd h
inside_reverse_aux (b ∷ cuts) done (i ∷ x) y h m = inside_reverse_aux cuts (b ∷ done) x (i ∷ y) h.1 (h.0, m)

pub inside-reverse : (cuts x : List ℕ) → Inside (reverse cuts) x → Inside cuts (reverse x)
unfolding Inside
inside-reverse cuts x h = subst (λ (v : List ℕ). Inside v (reverse x)) (reverse-reverse cuts) (inside_reverse_aux (reverse cuts) [] x [] h tt)

-- a reversed list, continued by another, has its first element at the end of its own part
pub get_d_reverse_aux_past : (x y : List ℕ) (n d : ℕ) → get_or (reverse_aux x y) (length x + n) d ≡ get_or y n d
get_d_reverse_aux_past [] y n d = ap (λ (k : ℕ). get_or y k d) (zero-add n)
get_d_reverse_aux_past (i ∷ x) y n d =
    ap (λ (k : ℕ). get_or (reverse_aux x (i ∷ y)) k d) (omega arith) ∙ get_d_reverse_aux_past x (i ∷ y) (suc n) d

get_d_reverse_aux : (x y : List ℕ) (j d : ℕ) → j < length x → get_or (reverse_aux x y) (length x - suc j) d ≡ get_or x j 0
get_d_reverse_aux [] y j d l = absurd (not-suc-le-zero l)
get_d_reverse_aux (i ∷ x) y zero d l = ap (λ (k : ℕ). get_or (reverse_aux x (i ∷ y)) k d) (omega arith) ∙ get_d_reverse_aux_past x (i ∷ y) 0 d
get_d_reverse_aux (i ∷ x) y (suc j) d l =
    ap (λ (k : ℕ). get_or (reverse_aux x (i ∷ y)) k d) (omega arith) ∙ get_d_reverse_aux x (i ∷ y) j d (le_of_suc-le-suc l)

-- dimension j + 1 of d stands at d - 1 - j from the top
pub place_down-reverse : (j i1 : ℕ) (x : List ℕ) → j ≤ length x → place_down (length x - j) i1 (reverse x) ≡ get_or (i1 ∷ x) j 0
place_down-reverse zero i1 x l = get_or-eq_default (reverse x) i1 (omega (arith, length-reverse x))
place_down-reverse (suc j) i1 x l = get_d_reverse_aux x [] j i1 l

-- how many tiles of a slab a processor owns, as a sum over a slab
pub held_slab_total : (b1 : ℕ) (cuts : List ℕ) (owner : List ℕ → ℕ) (k s q : ℕ) → k ≤ length cuts → s < get_or (b1 ∷ cuts) k 0
    → held (b1 ∷ cuts) owner k s q ≡ slab_total (length cuts - k) s b1 (reverse cuts) (λ i1 x. same (owner (i1 ∷ reverse x)) q)
unfolding total
held_slab_total b1 cuts owner k s q l h =
    held_total (b1 ∷ cuts) owner k s q
    ∙ sum_cong b1 (λ i1 z.
    total-reverse cuts (λ x. same (get_or (i1 ∷ x) k 0) s * same (owner (i1 ∷ x)) q)
    ∙ total_ext (reverse cuts) (λ x w.
    ap (λ (n : ℕ). same n s * same (owner (i1 ∷ reverse x)) q) (sym (place i1 x (inside-length (reverse cuts) x w ∙ length-reverse cuts)))))
    ∙ slab_total_total (length cuts - k) s b1 (reverse cuts) (λ i1 x. same (owner (i1 ∷ reverse x)) q)
    (subst⁻¹ (λ (n : ℕ). s < n) (place_down-reverse k b1 cuts l) h)
  where
    place : (i1 : ℕ) (x : List ℕ) → length x ≡ length cuts → place_down (length cuts - k) i1 x ≡ get_or (i1 ∷ reverse x) k 0
    place i1 x e =
        ap₂ (λ (n : ℕ) (y : List ℕ). place_down (n - k) i1 y) (sym e ∙ sym (length-reverse x)) (sym (reverse-reverse x))
        ∙ place_down-reverse k i1 (reverse x) (omega (arith, length-reverse x))
