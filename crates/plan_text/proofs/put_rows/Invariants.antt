-- `plan_text::put_rows` meets its contract. The invariant: the first i lines are put.
use Rattle.numerals.specs.Puts.{Puts}
use Rattle.layout.specs.Plans.{layout_of}
use Rattle.plan_text.specs.PlanText.{joined, row_line}
use Rattle.plan_text.proofs.put_rows.Given as goal

abbrev pub invariant-loop-row : goal.invariant-loop-row
invariant-loop-row l = Puts l.initial.out (joined l.row-index (row_line (layout_of l.fn.shaped.plan).matrix)) l.out
