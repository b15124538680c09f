-- A row times a position, as the sum of the products of pairs.
use mathlib.Core.Path.{◌≡◌, refl, sym, ap, ◌∙◌}
use mathlib.Core.List.{List, [], ◌∷◌}
use Prim.Native.Nat.{ℕ, ◌+◌, ◌*◌, ◌≤◌, ◌<◌}
use native.Mathlib.Omega.{arith}
use lib.ListN.{length, get_or}
use Rattle.std.proofs.lemmas.List.Sums.{sum_by-cons, get_or-le-sum_by}
use Rattle.std.specs.List.{zip, sum_by}
use Rattle.multipartition.specs.Owners.{times}

abbrev product_of : ℕ × ℕ → ℕ
product_of p = p.0 * p.1

times_nowhere : (row : List ℕ) → times row [] ≡ 0
unfolding times
times_nowhere [] = refl
times_nowhere (a ∷ row) = omega (arith, times_nowhere row)

pub times_as_sum : (row position : List ℕ) → times row position ≡ sum_by (λ p. p.0 * p.1) (zip row position)
unfolding times
times_as_sum [] position = refl
times_as_sum (a ∷ row) [] = times_nowhere (a ∷ row)
times_as_sum (a ∷ row) (x ∷ position) =
    ap (λ (n : ℕ). a * x + n) (times_as_sum row position) ∙ sym (sum_by-cons product_of (a, x) (zip row position))

-- no product is above the sum
pub pair_high : (row position : List ℕ) (k a x : ℕ) → k < length (zip row position) → (a, x) ≡ get_or (zip row position) k (a, x)
    → a * x ≤ sum_by (λ p. p.0 * p.1) (zip row position)
pair_high row position k a x l e =
    let here : product_of (a, x) ≡ product_of (get_or (zip row position) k (a, x)) = ap product_of e in
    omega (arith, here, get_or-le-sum_by product_of (zip row position) k (a, x) l)
