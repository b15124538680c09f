-- Numbers stored one after the other into a list, part after part.
use mathlib.Core.Path.{◌≡◌, ap, ◌∙◌}
use mathlib.Core.List.{List, [], ◌∷◌, ◌++◌, append-nil}
use Prim.Native.Nat.{ℕ, suc, ◌+◌}
use native.Mathlib.Nat.{zero-add}
use native.Mathlib.Omega.{arith}
use lib.ListN.{length, set}
use lib.Seq.{sets, sets-eq, drop-length}

-- a part and the next one
pub sets-append : (a b list : List ℕ) (at : ℕ) → sets list at (a ++ b) ≡ sets (sets list at a) (at + length a) b
sets-append [] b list at = let e : at ≡ at + 0 = omega arith in ap (λ (k : ℕ). sets list k b) e
sets-append (x ∷ a) b list at =
    let e : suc at + length a ≡ at + suc (length a) = omega arith in
    sets-append a b (set list at x) (suc at) ∙ ap (λ (k : ℕ). sets (sets (set list at x) (suc at) a) k b) e

-- all places of a list
pub sets_all : (list numbers : List ℕ) → length list ≡ length numbers → sets list 0 numbers ≡ numbers
sets_all list numbers e =
    sets-eq numbers list 0 (omega arith) ∙ rw (zero-add (length numbers), ← e, drop-length list) (append-nil numbers)
