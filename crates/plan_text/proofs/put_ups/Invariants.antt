-- `plan_text::put_ups` meets its contract. The invariant: the first k lines are put.
use Prim.Native.Nat.{suc}
use Rattle.numerals.specs.Puts.{Puts}
use Rattle.layout.specs.Plans.{layout_of}
use Rattle.plan_text.specs.PlanText.{joined, up_line}
use Rattle.plan_text.proofs.put_ups.Given as goal

abbrev pub invariant-loop-k : goal.invariant-loop-k
invariant-loop-k l = Puts l.initial.out (joined l.k (λ i. up_line (layout_of l.shaped.plan) (suc i))) l.out
