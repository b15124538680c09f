-- `plan::run` meets its contract: enough of the input is read, and nothing is refused.
use Rattle.std.proofs.Common.{◌≡◌, ap, ◌∙◌, List, ℕ, min, arith, length, take, length-take}
use borrow.Author.Rules.{rules}
use Rattle.plan.proofs.Jobs.{take_lesser}
use Rattle.plan.proofs.Room.{never_refused, runs_whole}
use Rattle.plan.proofs.run.Goals as goal

pub unwrap-count-requires : goal.unwrap-count-requires
unwrap-count-requires c =
    never_refused c.answer-texts.ensures (omega (arith, length-take c.min-read.result c.args.input, c.min-read.ensures)) (search rules) (search rules)

pub returns : goal.returns
returns c =
    let input : List ℕ = c.args.input in
    let least : c.min-read.result ≡ min c.args.n (length input) = omega (arith, c.min-read.ensures) in
    runs_whole c.answer-texts.ensures (omega (arith, length-take c.min-read.result input, c.min-read.ensures)) (search rules) (search rules) (length input)
    c.unwrap-count.result (ap (λ (k : ℕ). take k input) least ∙ take_lesser c.args.n input) (omega arith) (search rules)
