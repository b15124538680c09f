-- `most_slabs` meets its contract.
use borrow.Author.Tests.{eqb-true}
use Rattle.std.proofs.Common.{rules}
use lib.ListN.{length, get_or}
use mathlib.Core.List.{List}
use mathlib.Core.Path.{◌≡◌, sym, ap, ◌∙◌}
use native.Mathlib.Omega.{arith}
use Prim.Native.Nat.{ℕ}
use Rattle.planner.proofs.Slabs.{slabs_of}
use Rattle.planner.proofs.jobs.PassedJob.most_slabs.Goals as goal

pub returns-then-is_empty : goal.returns-then-is_empty
returns-then-is_empty c =
    let job = c.args.self.job in
    let measured = c.args.self.measured in
    let none : length job.least.now ≡ 0 = eqb-true (length job.least.now) 0 (sym c.is_empty.ensures ∙ c.if-is_empty.true) in
    slabs_of job.d job.extents.now job.least.now c.padded-most.result measured.extents_many measured.least_many measured.least_low (search rules)
    (λ i l. absurd (omega (arith, none))) (λ i l. ap (λ (most : List ℕ). get_or most i 0) c.padded-most.ensures)

pub returns : goal.returns
returns c =
    let head = c.loop-k in
    let job = c.args.self.job in
    let measured = c.args.self.measured in
    slabs_of job.d job.extents.now job.least.now head.most measured.extents_many measured.least_many measured.least_low head.invariant.places
    (λ i l. head.invariant.divided i (omega arith)) (λ i l. head.invariant.others i (omega arith))
