-- `chains` meets its contract: the walk goes on to stage 0.
use Rattle.multipartition.proofs.Stages.{stage_answer_end}
use Rattle.layout.specs.Plans.{layout_of}
use lib.ListN.{length}
use Rattle.chains.proofs.chains.Goals as goal

pub returns : goal.returns
returns c =
    rw (stage_answer_end (layout_of c.args.plan) (length c.args.heads.now) c.args.nexts.now) at c.chains_to.ensures
