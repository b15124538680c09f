-- The second list while it is filled from the front.
use mathlib.Core.Path.{◌≡◌, sym, ap, ◌∙◌}
use mathlib.Core.List.{List, [], ◌∷◌, ◌++◌, map, map-append}
use Prim.Native.Nat.{ℕ, suc, ◌+◌, ◌<◌}
use native.Mathlib.Numerals.{add-one}
use native.Mathlib.Omega.{arith}
use lib.ListN.{length, get_or, set, take, drop, length-map}
use lib.Seq.{drop-cons, take-suc, take-length, length-take-le, append_snoc, set_at}
use Rattle.multipartition.specs.Slabs.{slab_of}
use Rattle.probes.specs.Probes.{slabs_into}

module _ (n b : ℕ) (elements lent : List ℕ) where
  -- the slabs of the first i elements stand
  abbrev pub filled : ℕ → List ℕ
  filled i = map (slab_of n b) (take i elements) ++ drop i lent

  pub filled_next : (i slab : ℕ) → i < length elements → i < length lent → slab ≡ slab_of n b (get_or elements i 0) → set (filled i) i slab ≡ filled (i + 1)
  filled_next i slab l m e =
      let f = slab_of n b in
      let front = map f (take i elements) in
      let many : length front ≡ i = length-map (take i elements) f ∙ length-take-le i elements (omega arith) in
      let more : map f (take (suc i) elements) ≡ front ++ (slab ∷ []) = ap (map f) (take-suc elements i 0 l) ∙ map-append f (take i elements) _ ∙ rw e in
      ap (λ (back : List ℕ). set (front ++ back) i slab) (drop-cons lent i 0 m)
      ∙ set_at front _ _ slab i many
      ∙ sym (append_snoc front slab _)
      ∙ rw (add-one i, more)

  pub filled_all : filled (length elements) ≡ slabs_into n b elements lent
  unfolding slabs_into
  filled_all = rw (take-length elements)
