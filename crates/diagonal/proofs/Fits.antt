-- Whether s cuts each way fit: what `iter().zip(..).all(..)` answers of extents and least thicknesses in pairs.
use mathlib.Core.Path.{◌≡◌, refl, sym, ◌∙◌, subst}
use mathlib.Core.Bool.{Bool, true, false}
use mathlib.Core.List.{List}
use Prim.Native.Nat.{ℕ, ◌*◌, ◌≤◌, ◌<◌}
use native.Mathlib.Omega.{arith}
use lib.Dec.{leb}
use lib.ListN.{length, get_or}
use Rattle.std.specs.Bool.{MatchBool}
use Rattle.std.specs.List.{AllWithin, HoldsAt, zip}
use Rattle.std.proofs.lemmas.Slice.Zip.{get_or-zip, length-zip}
use Rattle.multipartition.proofs.Tests.{all_below-true_iff, false-not-true}
use Rattle.diagonal.specs.Diagonal.{side_fits}

module _ (s : ℕ) (extents least : List ℕ) (enough : length extents ≤ length least) where
  test : ℕ → Bool
  test k = leb (s * get_or least k 0) (get_or extents k 0)

  many : length (zip extents least) ≡ length extents
  many = omega (arith, length-zip extents least)

  at : (k : ℕ) → k < length extents → get_or (zip extents least) k (0, 0) ≡ (get_or extents k 0, get_or least k 0)
  at k l = get_or-zip extents least k (0, 0) l (omega arith)

  pub side_fits-iterated : (r : Bool)
      → MatchBool r (AllWithin (λ (p : ℕ × ℕ). leb (s * p.1) p.0 ≡ true) (zip extents least) 0 (length (zip extents least)))
      ((k : ℕ) × (k < length (zip extents least)) × HoldsAt (λ (p : ℕ × ℕ). leb (s * p.1) p.0 ≡ false) (zip extents least) k)
      → r ≡ side_fits s extents least
  unfolding side_fits test
  side_fits-iterated true all =
      sym ((all_below-true_iff (length extents) test).1
      (λ k l. subst (λ (p : ℕ × ℕ). leb (s * p.1) p.0 ≡ true) (at k l) (all k (0, 0) (omega arith) (omega (arith, many)))))
  side_fits-iterated false some = go (side_fits s extents least) refl
    where
      inside : some.0 < length extents
      inside = omega (arith, many, some.1)

      go : (b : Bool) → side_fits s extents least ≡ b → false ≡ b
      go false h = refl
      go true h =
          absurd (false-not-true (sym (subst (λ (p : ℕ × ℕ). leb (s * p.1) p.0 ≡ false) (at some.0 inside) (some.2 (0, 0)))
          ∙ (all_below-true_iff (length extents) test).0 h some.0 inside))
