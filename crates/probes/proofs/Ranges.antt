-- Elements that are all among n.
use mathlib.Core.Path.{◌≡◌}
use mathlib.Core.Bool.{true}
use mathlib.Core.List.{List}
use mathlib.Core.Logic.{◌↔◌}
use Prim.Native.Nat.{ℕ, ◌<◌}
use lib.Dec.{ltb}
use lib.ListN.{length, get_or}
use Rattle.multipartition.proofs.Tests.{all_iff, ltb_iff}
use Rattle.probes.specs.Probes.{all_within}

pub all_within_iff : (n : ℕ) (elements : List ℕ) → (all_within n elements ≡ true) ↔ ((i : ℕ) → i < length elements → get_or elements i 0 < n)
unfolding all_within
all_within_iff n elements = all_iff (length elements) (λ i. ltb (get_or elements i 0) n) (λ i. ltb_iff (get_or elements i 0) n)
