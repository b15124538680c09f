-- `solver_link::multipartition_slabs_of` meets its contract. Assumes nothing.
use mathlib.Core.Path.{subst}
use mathlib.Core.List.{List}
use Prim.Native.Nat.{ℕ}
use Rattle.multipartition.specs.Answers.{Answer}
use Rattle.link_lists.specs.Lists.{Linked}
use Rattle.link_lists.proofs.Answers.{linked-cut}
use Rattle.solver_link.proofs.Fits.{cut-probes}
use Rattle.solver_link.proofs.multipartition_slabs_of.Goals as goal

pub returns : goal.returns
returns c =
    let a = c.args in
    subst (λ (answer : Answer (List ℕ)). Linked answer a.slabs.now c.code.result c.slabs_of.new.slabs)
    (cut-probes a.plan.now a.dimension a.elements.now a.slabs.now)
    (linked-cut _ _ _ _ _ c.slabs_of.ensures c.code.ensures)
