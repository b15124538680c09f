-- The faces of a slab. The thicknesses of a dimension add up to its extent, so the faces of a slab add up to the product of the other extents; and
-- a face does not depend on the slab, so opposite tiles of two slabs have the same. Of the slabs' edges this uses three laws: the first starts at 0,
-- the last ends at n, and they rise. Dimension k is counted from 0.
use mathlib.Core.Path.{◌≡◌, refl, sym, ap, ap₂, ◌∙◌}
use mathlib.Core.Bool.{Bool, true, false, cond, ◌&&◌}
use mathlib.Core.List.{List, [], ◌∷◌}
use Prim.Native.Nat.{ℕ, zero, suc, ◌*◌, ◌≤◌, ◌<◌}
use native.Mathlib.Nat.{not-suc-le-zero, le_of_suc-le-suc, zero-mul, mul_comm}
use native.Mathlib.Omega.{arith}
use lib.Dec.{eqb}
use lib.ListN.{length, get_or, set}
use Rattle.numbers.specs.Products.{product, without}
use Rattle.numbers.specs.Sums.{sum, indicator, same}
use Rattle.numbers.proofs.Sums.{count-one, sum-mul_left}
use Rattle.multipartition.specs.Lists.{first, rest}
use Rattle.multipartition.specs.Slabs.{slab_start, thickness}
use Rattle.multipartition.specs.Tiles.{Inside}
use Rattle.multipartition.proofs.GridSums.{sum_cong, same_iff, total, total_ext, total-mul_left, sum_over-positions}
use Rattle.multipartition.proofs.Slabs.{slab_start-zero, slab_start_last, slab_start_rises}
use Rattle.multipartition.proofs.SlabSums.{slab_sum, slab_sum_total, slab_sum_move, slab_sum-ext, slab_sum-mul_left, slab_sum-swap}
use Rattle.timetable.specs.Faces.{thicknesses, face_of, faces_held}

-- ---- thicknesses

-- the first m slabs have the elements before slab m
pub sum-thickness : (n b m : ℕ) → 1 ≤ b → b ≤ n → m ≤ b → sum m (thickness n b) ≡ slab_start n b m
unfolding sum
sum-thickness n b zero low high l = sym (slab_start-zero n b)
sum-thickness n b (suc m) low high l =
    let before : sum m (thickness n b) ≡ slab_start n b m = sum-thickness n b m low high (omega arith) in
    omega (arith, before, slab_start_rises n b m low high l)

thickness_adds_up : (n b : ℕ) → 1 ≤ b → b ≤ n → sum b (thickness n b) ≡ n
thickness_adds_up n b low high = sum-thickness n b b low high (omega arith) ∙ slab_start_last n b low

-- every cut is from 1 to its extent
abbrev pub Cut : List ℕ → List ℕ → Type 0
Cut extents cuts = (j : ℕ) → j < length cuts → (1 ≤ get_or cuts j 0) × (get_or cuts j 0 ≤ get_or extents j 0)

-- one dimension's thicknesses are a factor
factor_out : (n b rest : ℕ) → 1 ≤ b → b ≤ n → sum b (λ i. thickness n b i * rest) ≡ n * rest
factor_out n b rest low high =
    sum_cong b (λ i l. mul_comm (thickness n b i) rest)
    ∙ sum-mul_left b rest (thickness n b)
    ∙ ap (λ (x : ℕ). rest * x) (thickness_adds_up n b low high)
    ∙ mul_comm rest n

-- the tiles of a grid have all its elements
total-thicknesses : (extents cuts : List ℕ) → length extents ≡ length cuts → Cut extents cuts
    → total cuts (λ x. product (thicknesses extents cuts x)) ≡ product extents
unfolding total thicknesses
total-thicknesses [] [] e h = refl
total-thicknesses [] (b ∷ cuts) e h = absurd (omega arith)
total-thicknesses (n ∷ extents) [] e h = absurd (omega arith)
total-thicknesses (n ∷ extents) (b ∷ cuts) e h =
    sum_cong b (λ i l.
    total-mul_left cuts (thickness n b i) (λ x. product (thicknesses extents cuts x))
    ∙ ap (λ (m : ℕ). thickness n b i * m) (total-thicknesses extents cuts (omega arith) (λ j m. h (suc j) (omega arith))))
    ∙ factor_out n b (product extents) (h 0 (omega arith)).0 (h 0 (omega arith)).1

-- the faces of a slab add up to the product of the other extents
slab_faces : (k v : ℕ) (extents cuts : List ℕ) → length extents ≡ length cuts → Cut extents cuts → k < length cuts
    → slab_sum k v cuts (face_of extents cuts k) ≡ product (without k extents)
unfolding slab_sum thicknesses face_of
slab_faces k v [] [] e h l = absurd (not-suc-le-zero l)
slab_faces k v [] (b ∷ cuts) e h l = absurd (omega arith)
slab_faces k v (n ∷ extents) [] e h l = absurd (omega arith)
slab_faces zero v (n ∷ extents) (b ∷ cuts) e h l = total-thicknesses extents cuts (omega arith) (λ j m. h (suc j) (omega arith))
slab_faces (suc k) v (n ∷ extents) (b ∷ cuts) e h l =
    sum_cong b (λ i m.
    slab_sum-mul_left k v cuts (thickness n b i) (λ x. product (without k (thicknesses extents cuts x)))
    ∙ ap (λ (y : ℕ). thickness n b i * y) (slab_faces k v extents cuts (omega arith) (λ j m. h (suc j) (omega arith)) (le_of_suc-le-suc l)))
    ∙ factor_out n b (product (without k extents)) (h 0 (omega arith)).0 (h 0 (omega arith)).1

-- ---- the slab does not enter a face

without-thicknesses : (k w : ℕ) (extents cuts x : List ℕ) → without k (thicknesses extents cuts (set x k w)) ≡ without k (thicknesses extents cuts x)
unfolding thicknesses
without-thicknesses k w extents [] x = refl
without-thicknesses zero w extents (b ∷ cuts) [] = refl
without-thicknesses zero w extents (b ∷ cuts) (i ∷ x) = refl
without-thicknesses (suc k) w extents (b ∷ cuts) [] = refl
without-thicknesses (suc k) w extents (b ∷ cuts) (i ∷ x) =
    ap (λ (l : List ℕ). thickness (first extents) b i ∷ l) (without-thicknesses k w (rest extents) cuts x)

pub face_opposite : (k w : ℕ) (extents cuts x : List ℕ) → face_of extents cuts k (set x k w) ≡ face_of extents cuts k x
unfolding face_of
face_opposite k w extents cuts x = ap product (without-thicknesses k w extents cuts x)

-- ---- one processor's faces in a slab

module _ (extents cuts : List ℕ) (owner : List ℕ → ℕ) (k : ℕ) where
  pub held_faces : (v q : ℕ) → v < get_or cuts k 0
      → faces_held extents cuts owner k v q ≡ slab_sum k v cuts (λ x. same (owner x) q * face_of extents cuts k x)
  unfolding faces_held same
  held_faces v q l =
      sum_over-positions cuts (λ x. cond (eqb (get_or x k 0) v && eqb (owner x) q) (face_of extents cuts k x) 0)
      ∙ total_ext cuts (λ x w. both (eqb (get_or x k 0) v) (eqb (owner x) q) (face_of extents cuts k x))
      ∙ slab_sum_total k v cuts (λ x. same (owner x) q * face_of extents cuts k x) l
    where
      both : (t u : Bool) (n : ℕ) → cond (t && u) n 0 ≡ indicator t * (indicator u * n)
      both true true n = omega arith
      both true false n = omega arith
      both false u n = sym (zero-mul (indicator u * n))

  -- If a step from slab v to slab w takes the tiles of q, and no others, to tiles of r, then r has the same faces in slab w.
  pub held_faces_move : (v w q r : ℕ) → v < get_or cuts k 0 → w < get_or cuts k 0
      → ((x : List ℕ) → Inside cuts x → get_or x k 0 ≡ v → (owner x ≡ q → owner (set x k w) ≡ r) × (owner (set x k w) ≡ r → owner x ≡ q))
      → faces_held extents cuts owner k v q ≡ faces_held extents cuts owner k w r
  held_faces_move v w q r lv lw h =
      held_faces v q lv
      ∙ slab_sum_move k v w cuts (λ x. same (owner x) q * face_of extents cuts k x) (λ x. same (owner x) r * face_of extents cuts k x) lv
      (λ x m e.
      let iff = h x m e in
      ap₂ ◌*◌ (same_iff (owner x) q (owner (set x k w)) r iff.0 iff.1) (sym (face_opposite k w extents cuts x)))
      ∙ sym (held_faces w r lw)

  -- If all owners are below p, the faces of processors 0 to p - 1 in a slab are all faces of it.
  pub held_faces-add_up : (p v : ℕ) → ((x : List ℕ) → Inside cuts x → owner x < p) → length extents ≡ length cuts → Cut extents cuts → k < length cuts
      → v < get_or cuts k 0 → sum p (faces_held extents cuts owner k v) ≡ product (without k extents)
  held_faces-add_up p v below e h lk lv =
      sum_cong p (λ q l. held_faces v q lv)
      ∙ slab_sum-swap p k v cuts (λ q x. same (owner x) q * face_of extents cuts k x)
      ∙ slab_sum-ext k v cuts (λ x. sum p (λ q. same (owner x) q * face_of extents cuts k x)) (face_of extents cuts k) lv (λ x w.
      sum_cong p (λ q l. mul_comm (same (owner x) q) (face_of extents cuts k x))
      ∙ sum-mul_left p (face_of extents cuts k x) (λ q. same (owner x) q)
      ∙ ap (λ (n : ℕ). face_of extents cuts k x * n)
      (sum_cong p (λ q l. same_iff (owner x) q q (owner x) sym sym) ∙ count-one p (owner x) (below x w))
      ∙ one (face_of extents cuts k x))
      ∙ slab_faces k v extents cuts e h lk
    where
      one : (n : ℕ) → n * 1 ≡ n
      one n = omega arith
