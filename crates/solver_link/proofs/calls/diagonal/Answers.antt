-- `solver_link::calls::diagonal` meets its contract. Assumes nothing.
use Rattle.solver_link.proofs.Planning.{few_diagonal}
use Rattle.solver_link.proofs.calls.diagonal.Goals as goal

pub list_of-requires : goal.list_of-requires
list_of-requires c = few_diagonal _ _ c.in_ok-plan.ensures
