-- A position is inside a grid exactly if each coordinate is below its cut: what a walk along both lists answers.
use mathlib.Core.Path.{◌≡◌, refl, sym}
use mathlib.Core.Bool.{Bool, true, false}
use mathlib.Core.List.{List}
use Prim.Native.Nat.{ℕ, ◌<◌, ◌≤◌}
use native.Mathlib.Omega.{arith}
use lib.ListN.{length, get_or}
use Rattle.std.specs.Bool.{MatchBool}
use Rattle.std.specs.List.{AllWithin, HoldsAt, zip}
use Rattle.std.proofs.lemmas.Slice.Zip.{length-zip, get_or-zip}
use Rattle.multipartition.specs.Tiles.{is_inside}
use Rattle.multipartition.proofs.Tiles.{inside_of_test, test_of_inside, inside_below, inside_of_below}

module _ (cuts position : List ℕ) (long : length position ≡ length cuts) where
  abbrev pairs : List (ℕ × ℕ)
  pairs = zip position cuts

  many : length pairs ≡ length cuts
  many = omega (arith, length-zip position cuts, long)

  pair-at : (k : ℕ) → k < length cuts → get_or pairs k (0, 0) ≡ (get_or position k 0, get_or cuts k 0)
  pair-at k l = get_or-zip position cuts k (0, 0) (omega (arith, long)) l

  pub inside_by_pairs : (r : Bool)
      → MatchBool r (AllWithin (λ (p : ℕ × ℕ). p.0 < p.1) pairs 0 (length pairs)) ((k : ℕ) × (k < length pairs) × HoldsAt (λ (p : ℕ × ℕ). p.1 ≤ p.0) pairs k)
      → r ≡ is_inside cuts position
  inside_by_pairs true all =
      sym (test_of_inside cuts position (inside_of_below cuts position long
      (λ k l. rw (pair-at k l) at (all k (0, 0) (omega arith) (omega (arith, many))))))
  inside_by_pairs false some = go (is_inside cuts position) refl
    where
      go : (t : Bool) → is_inside cuts position ≡ t → false ≡ t
      go false e = refl
      go true e =
          let l : some.0 < length cuts = omega (arith, many, some.1) in
          let below = inside_below cuts position (inside_of_test cuts position e) some.0 l in
          let above = rw (pair-at some.0 l) at (some.2 (0, 0)) in
          absurd (omega (arith, below, above))
