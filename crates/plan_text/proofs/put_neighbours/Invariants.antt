-- `plan_text::put_neighbours` meets its contract. The invariant: the numbers of the further processors below q are put.
use mathlib.Core.Bool.{true}
use Prim.Native.Nat.{ℕ, ◌-◌}
use lib.ListN.{take}
use Rattle.numerals.specs.Puts.{Puts}
use Rattle.numerals.proofs.Lines.{followed}
use Rattle.multipartition.specs.Lists.{list_of}
use Rattle.multipartition.specs.Neighbours.{next_owner}
use Rattle.layout.specs.declared.Plan.{Plan}
use Rattle.layout.specs.Plans.{rows_from}
use Rattle.plan_text.proofs.put_neighbours.Given as goal

-- the neighbour of a processor
abbrev pub next_of : Plan → ℕ → ℕ → ℕ
next_of plan k = next_owner (take plan.d plan.moduli) (rows_from plan.d 0 plan.d plan.matrix) k true

abbrev pub invariant-loop-q : goal.invariant-loop-q
invariant-loop-q l = Puts l.initial.out (followed (list_of 1 (l.q - 1) (next_of l.fn.axis.shaped.plan l.fn.axis.k))) l.out
