-- `visit` meets its contract.
use mathlib.Core.Path.{sym}
use lib.ListN.{length-set}
use Rattle.multipartition.proofs.Stages.{stage-step}
use Rattle.chains.proofs.visit.Goals as goal

pub shape_of-heads : goal.shape_of-heads
shape_of-heads c = length-set c.args.heads.now c.args.owner _

pub shape_of-nexts : goal.shape_of-nexts
shape_of-nexts c = length-set c.args.nexts.now c.args.at _

pub returns : goal.returns
returns c =
    record {
      heads_kept = length-set c.args.heads.now c.args.owner _;
      nexts_kept = length-set c.args.nexts.now c.args.at _;
      stages = λ own lent owned stage.
          stage-step own _ _ c.args.tile c.args.at c.args.owner lent c.args.heads.now c.args.nexts.now c.requires.0 (sym owned) c.requires.3 stage;
    }
