-- `plan::print_planned` meets its contract, by the cases of the planner's answer.
use Rattle.plan.specs.Printed.{planned_answer}
use Rattle.plan.proofs.print_planned.Goals as goal

pub returns-in-Ok : goal.returns-in-Ok
unfolding planned_answer
returns-in-Ok c = rw c.in-Ok.is c.print_plan.ensures

pub returns-in-Err : goal.returns-in-Err
unfolding planned_answer
returns-in-Err c = rw c.in-Err.is c.print_refusal.ensures
