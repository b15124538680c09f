-- `thicknesses` meets its contract.
use mathlib.Core.Path.{◌≡◌, refl, sym, ap, ◌∙◌}
use mathlib.Core.List.{List, ◌∷◌}
use Prim.Native.Nat.{ℕ, zero, suc, ◌≤◌}
use native.Mathlib.Omega.{arith}
use borrow.Author.Tests.{eqb-true}
use lib.ListN.{take, replicate, length}
use Rattle.layout.specs.Plans.{five}
use Rattle.planner.proofs.Given.{none_given}
use Rattle.planner.proofs.jobs.PassedJob.thicknesses.Goals as goal

-- d of five ones
ones : (d n : ℕ) → d ≤ n → take {A = ℕ} d (replicate n 1) ≡ replicate d 1
ones zero n l = refl
ones (suc d) zero l = absurd (omega arith)
ones (suc d) (suc n) l = ap (λ (xs : List ℕ). 1 ∷ xs) (ones d n (omega arith))

pub returns-then-is_empty : goal.returns-then-is_empty
returns-then-is_empty c =
    let job = c.args.self.job in
    let none : length job.least.now ≡ 0 = eqb-true (length job.least.now) 0 (sym c.is_empty.ensures ∙ c.if-is_empty.true) in
    c.padded.ensures ∙ ap five (ones job.d 5 (omega (arith, c.args.self.measured.d_high)) ∙ none_given job.d job.least.now none)
