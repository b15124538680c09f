-- A position is inside a grid by its coordinates and the cuts in pairs: what `iter().zip(..).all(..)` answers.
use mathlib.Core.Path.{◌≡◌, refl, sym, ◌∙◌}
use mathlib.Core.Bool.{Bool, true, false, ◌&&◌}
use mathlib.Core.List.{List, [], ◌∷◌}
use Prim.Native.Nat.{ℕ, zero, suc, ◌≤◌, ◌<◌}
use native.Mathlib.Omega.{arith}
use borrow.Author.Tests.{lt-ltb, le-ltb, ne_eqb}
use lib.Dec.{ltb}
use lib.ListN.{length, get_or}
use Rattle.std.specs.Bool.{MatchBool}
use Rattle.std.specs.List.{AllWithin, HoldsAt, zip}
use Rattle.multipartition.specs.Tiles.{is_inside}
use Rattle.layout.proofs.Positions.{inside_by_places}

-- a coordinate that is below its cut, and one that is not
abbrev pub Below : ℕ × ℕ → Type 0
Below p = p.0 < p.1

abbrev pub NotBelow : ℕ × ℕ → Type 0
NotBelow p = p.1 ≤ p.0

all_inside : (cuts position : List ℕ) → length position ≡ length cuts
    → ((k : ℕ) (d : ℕ × ℕ) → k < length (zip position cuts) → Below (get_or (zip position cuts) k d)) → is_inside cuts position ≡ true
unfolding is_inside
all_inside [] [] e h = refl
all_inside [] (i ∷ position) e h = absurd (omega (arith, e))
all_inside (b ∷ cuts) [] e h = absurd (omega (arith, e))
all_inside (b ∷ cuts) (i ∷ position) e h =
    rw (lt-ltb i b (h 0 (0, 0) (omega arith))) (all_inside cuts position (omega (arith, e)) (λ k d l. h (suc k) d (omega (arith, l))))

one_outside : (cuts position : List ℕ) (k : ℕ) → k < length (zip position cuts) → ((d : ℕ × ℕ) → NotBelow (get_or (zip position cuts) k d))
    → is_inside cuts position ≡ false
unfolding is_inside
one_outside [] [] k l h = absurd (omega (arith, l))
one_outside [] (i ∷ position) k l h = refl
one_outside (b ∷ cuts) [] k l h = refl
one_outside (b ∷ cuts) (i ∷ position) zero l h = rw (le-ltb i b (h (0, 0)))
one_outside (b ∷ cuts) (i ∷ position) (suc k) l h = rw (one_outside cuts position k (omega (arith, l)) h) (never (ltb i b))
  where
    never : (t : Bool) → (t && false) ≡ false
    never true = refl
    never false = refl

pub inside_decided : (cuts position : List ℕ) (r : Bool) → length position ≡ length cuts
    → MatchBool r (AllWithin Below (zip position cuts) 0 (length (zip position cuts))) ((k : ℕ) × (k < length (zip position cuts)) × HoldsAt NotBelow (zip position cuts) k)
    → r ≡ is_inside cuts position
inside_decided cuts position true e all = sym (all_inside cuts position e (λ k d l. all k d (omega arith) l))
inside_decided cuts position false e some = sym (one_outside cuts position some.0 some.1 some.2)

pub outside_by-length : (cuts position : List ℕ) → (length position ≡ length cuts → ⊥) → is_inside cuts position ≡ false
outside_by-length cuts position h = inside_by_places cuts position ∙ rw (ne_eqb (length position) (length cuts) h)
