-- Sums over the positions of one slab of a grid, from dimension 1 up. Dimension k is counted from 0.
use mathlib.Core.Path.{◌≡◌, refl, sym, ◌∙◌}
use mathlib.Core.List.{List, [], ◌∷◌}
use Prim.Native.Nat.{ℕ, zero, suc, ◌*◌, ◌<◌}
use native.Mathlib.Nat.{not-suc-le-zero, le_of_suc-le-suc, zero-add}
use lib.ListN.{length, get_or, set}
use Rattle.numbers.specs.Sums.{sum, same}
use Rattle.numbers.proofs.Sums.{sum-mul_left, sum-swap}
use Rattle.multipartition.specs.Tiles.{Inside}
use Rattle.multipartition.proofs.GridSums.{sum_cong, sum_pick, total, total_ext, total-mul_left, total-swap}

-- the sum of f over the positions whose place k is v
unfoldable pub slab_sum : ℕ → ℕ → List ℕ → (List ℕ → ℕ) → ℕ
slab_sum k v [] f = f []
slab_sum zero v (b ∷ cuts) f = total cuts (λ x. f (v ∷ x))
slab_sum (suc k) v (b ∷ cuts) f = sum b (λ i. slab_sum k v cuts (λ x. f (i ∷ x)))

-- it is a sum over the whole grid with an indicator
pub slab_sum_total : (k v : ℕ) (cuts : List ℕ) (f : List ℕ → ℕ) → v < get_or cuts k 0
    → total cuts (λ x. same (get_or x k 0) v * f x) ≡ slab_sum k v cuts f
unfolding slab_sum total
slab_sum_total k v [] f l = absurd (not-suc-le-zero l)
slab_sum_total zero v (b ∷ cuts) f l =
    sum_cong b (λ i h. total-mul_left cuts (same i v) (λ x. f (i ∷ x)))
    ∙ sum_pick b v (λ i. total cuts (λ x. f (i ∷ x))) l
slab_sum_total (suc k) v (b ∷ cuts) f l = sum_cong b (λ i h. slab_sum_total k v cuts (λ x. f (i ∷ x)) l)

-- Two slabs v and w of dimension k have equal sums, if f at each position of the one is g at the position opposite.
pub slab_sum_move : (k v w : ℕ) (cuts : List ℕ) (f g : List ℕ → ℕ) → v < get_or cuts k 0
    → ((x : List ℕ) → Inside cuts x → get_or x k 0 ≡ v → f x ≡ g (set x k w)) → slab_sum k v cuts f ≡ slab_sum k w cuts g
unfolding slab_sum Inside
slab_sum_move k v w [] f g l h = absurd (not-suc-le-zero l)
slab_sum_move zero v w (b ∷ cuts) f g l h = total_ext cuts (λ x m. h (v ∷ x) (l, m) refl)
slab_sum_move (suc k) v w (b ∷ cuts) f g l h =
    sum_cong b (λ i m. slab_sum_move k v w cuts (λ x. f (i ∷ x)) (λ x. g (i ∷ x)) l (λ x o e. h (i ∷ x) (m, o) e))

-- equal functions, where only the positions inside count
pub slab_sum-ext : (k v : ℕ) (cuts : List ℕ) (f g : List ℕ → ℕ) → v < get_or cuts k 0 → ((x : List ℕ) → Inside cuts x → f x ≡ g x)
    → slab_sum k v cuts f ≡ slab_sum k v cuts g
unfolding slab_sum Inside
slab_sum-ext k v [] f g l h = absurd (not-suc-le-zero l)
slab_sum-ext zero v (b ∷ cuts) f g l h = total_ext cuts (λ x m. h (v ∷ x) (l, m))
slab_sum-ext (suc k) v (b ∷ cuts) f g l h =
    sum_cong b (λ i m. slab_sum-ext k v cuts (λ x. f (i ∷ x)) (λ x. g (i ∷ x)) l (λ x o. h (i ∷ x) (m, o)))

pub slab_sum-mul_left : (k v : ℕ) (cuts : List ℕ) (c : ℕ) (f : List ℕ → ℕ) → slab_sum k v cuts (λ x. c * f x) ≡ c * slab_sum k v cuts f
unfolding slab_sum
slab_sum-mul_left k v [] c f = refl
slab_sum-mul_left zero v (b ∷ cuts) c f = total-mul_left cuts c (λ x. f (v ∷ x))
slab_sum-mul_left (suc k) v (b ∷ cuts) c f =
    sum_cong b (λ i l. slab_sum-mul_left k v cuts c (λ x. f (i ∷ x))) ∙ sum-mul_left b c (λ i. slab_sum k v cuts (λ x. f (i ∷ x)))

-- a sum goes inside
pub slab_sum-swap : (n k v : ℕ) (cuts : List ℕ) (f : ℕ → List ℕ → ℕ)
    → sum n (λ q. slab_sum k v cuts (f q)) ≡ slab_sum k v cuts (λ x. sum n (λ q. f q x))
unfolding slab_sum
slab_sum-swap n k v [] f = refl
slab_sum-swap n zero v (b ∷ cuts) f = total-swap n cuts (λ q x. f q (v ∷ x))
slab_sum-swap n (suc k) v (b ∷ cuts) f =
    sum-swap n b (λ q i. slab_sum k v cuts (λ x. f q (i ∷ x)))
    ∙ sum_cong b (λ i l. slab_sum-swap n k v cuts (λ q x. f q (i ∷ x)))

-- ---- the grid with one slab in one dimension

-- a slab is the grid with one slab in its dimension
pub slab_sum-flat : (k v : ℕ) (cuts : List ℕ) (f : List ℕ → ℕ) → k < length cuts → slab_sum k v cuts f ≡ total (set cuts k 1) (λ x. f (set x k v))
unfolding slab_sum total sum
slab_sum-flat k v [] f l = absurd (not-suc-le-zero l)
slab_sum-flat zero v (b ∷ cuts) f l = sym (zero-add (total cuts (λ x. f (v ∷ x))))
slab_sum-flat (suc k) v (b ∷ cuts) f l = sum_cong b (λ i h. slab_sum-flat k v cuts (λ x. f (i ∷ x)) (le_of_suc-le-suc l))

-- one dimension's sum goes inside
pub total_along : (j : ℕ) (cuts : List ℕ) (f : List ℕ → ℕ) → j < length cuts
    → total cuts f ≡ total (set cuts j 1) (λ x. sum (get_or cuts j 0) (λ t. f (set x j t)))
unfolding total sum
total_along j [] f l = absurd (not-suc-le-zero l)
total_along zero (b ∷ cuts) f l =
    total-swap b cuts (λ i x. f (i ∷ x)) ∙ sym (zero-add (total cuts (λ x. sum b (λ t. f (t ∷ x)))))
total_along (suc j) (b ∷ cuts) f l = sum_cong b (λ i h. total_along j cuts (λ x. f (i ∷ x)) (le_of_suc-le-suc l))
