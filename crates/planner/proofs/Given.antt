-- The thicknesses of a job by the list given: what the code tells of the list it tells of the thicknesses.
use mathlib.Core.Path.{◌≡◌, refl, sym}
use mathlib.Core.List.{List, [], ◌∷◌}
use mathlib.Core.Logic.{⊎_elim}
use Prim.Native.Nat.{ℕ, ◌≤◌}
use native.Mathlib.Omega.{arith}
use lib.ListN.{length, replicate}
use Rattle.multipartition.specs.Lists.{first_failing}
use Rattle.multipartition.specs.Plans.{least_of}
use Rattle.multipartition.specs.Jobs.{first_zero}
use Rattle.multipartition.proofs.Jobs.{first_zero-ones, least_many_iff}

pub few_given : (d : ℕ) (given : List ℕ) → d ≤ 5 → length (least_of d given) ≡ d → length given ≤ 5
few_given d given few many = ⊎_elim (λ e. omega arith) (λ e. omega arith) ((least_many_iff d given).0 many)

pub zero_given : (d : ℕ) (given : List ℕ) → first_zero given ≡ first_zero (least_of d given)
unfolding first_failing
zero_given d [] = sym (first_zero-ones d)
zero_given d (t ∷ given) = refl

-- none is given
pub none_given : (d : ℕ) (given : List ℕ) → length given ≡ 0 → replicate d 1 ≡ least_of d given
none_given d [] e = refl
none_given d (t ∷ given) e = absurd (omega arith)
