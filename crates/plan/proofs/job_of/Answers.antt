-- `plan::job_of` meets its contract: the three parts are those of the definition, however many numbers there are.
use Rattle.plan.proofs.Jobs.{job_of_parts}
use Rattle.plan.proofs.job_of.Goals as goal

pub returns : goal.returns
returns c =
    job_of_parts c.args.p c.args.d c.args.numbers.now _ _ _ _ c.min.result c.min-2.result c.min.ensures c.split_at.ensures.front c.split_at.ensures.back
    c.min-2.ensures c.split_at-2.ensures.front c.split_at-2.ensures.back
