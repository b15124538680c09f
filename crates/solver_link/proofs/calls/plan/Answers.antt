-- `solver_link::calls::plan` meets its contract. Assumes nothing.
use Rattle.solver_link.proofs.Planning.{few-plan}
use Rattle.solver_link.proofs.calls.plan.Goals as goal

pub list_of-requires : goal.list_of-requires
list_of-requires c = few-plan _ _ c.in_ok-plan.ensures
