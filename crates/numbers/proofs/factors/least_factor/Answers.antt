-- `least_factor` meets its contract: the two checks are those of `least_factor_answer`.
use mathlib.Core.Path.{sym, ◌∙◌}
use mathlib.Core.Logic.{⊎_elim}
use native.Mathlib.Omega.{arith}
use Rattle.numbers.proofs.LeastFactor.{least_factor_answer_below, least_factor_answer_above, least_factor_answer_inside}
use Rattle.numbers.proofs.factors.least_factor.Goals as goal

pub returns-then-n-lt2-clause-value : goal.returns-then-n-lt2-clause-value
returns-then-n-lt2-clause-value c =
    sym (⊎_elim (λ low. least_factor_answer_below c.args.n (omega arith)) (λ high. least_factor_answer_above c.args.n high.1) c.then-n-lt2.either)

pub returns-clause-value : goal.returns-clause-value
returns-clause-value c = c.least.ensures ∙ sym (least_factor_answer_inside c.args.n (omega arith) (omega arith))
