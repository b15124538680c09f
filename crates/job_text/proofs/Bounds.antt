-- Numbers that are all at most a bound.
use mathlib.Core.List.{List, [], ◌∷◌, ◌++◌}
use Prim.Native.Nat.{ℕ, zero, suc, ◌≤◌}
use native.Mathlib.Omega.{arith}
use lib.ListN.{get_or}
use Rattle.job_text.specs.Readable.{AllAtMost}

pub all_append : (bound : ℕ) (ns ms : List ℕ) → AllAtMost bound ns → AllAtMost bound ms → AllAtMost bound (ns ++ ms)
all_append bound [] ms h k = k
all_append bound (n ∷ ns) ms h k = (h.0, all_append bound ns ms h.1 k)

pub all-at : (bound : ℕ) (ns : List ℕ) → AllAtMost bound ns → (i : ℕ) → get_or ns i 0 ≤ bound
all-at bound [] h i = omega arith
all-at bound (n ∷ ns) h zero = h.0
all-at bound (n ∷ ns) h (suc i) = all-at bound ns h.1 i
