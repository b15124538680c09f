-- `divisors` meets its contract: its checks are those of `divisors_answer`.
use mathlib.Core.Path.{sym, ◌∙◌, ap}
use mathlib.Core.Logic.{⊎_elim}
use native.Mathlib.Omega.{arith}
use Rattle.numbers.specs.Divisors.{divisors_answer}
use Rattle.numbers.proofs.Divisors.{divisors_answer-zero, divisors_answer_above, divisors_answer_inside}
use Rattle.numbers.proofs.factors.divisors.Goals as goal

pub returns-then-n-eq0 : goal.returns-then-n-eq0
returns-then-n-eq0 c =
    c.new.ensures
    ∙ sym (⊎_elim (λ zero. ap divisors_answer zero ∙ divisors_answer-zero) (λ high. divisors_answer_above c.args.n high.1) c.then-n-eq0.either)

pub returns : goal.returns
returns c = c.by_factors.ensures ∙ sym (divisors_answer_inside c.args.n (omega arith))
