-- `plan::put_share` meets its contract: a divisor has its line, and the other answers have none.
use Rattle.std.specs.Prelude.{◌≡◌, ℕ, Option, Some, None, Result, Ok}
use mathlib.Core.Path.{sym, ap, ◌∙◌}
use borrow.Author.Rules.{rules}
use Rattle.numerals.proofs.Written.{written_nothing, written_as}
use Rattle.numerals.proofs.Puts.{puts_both, written_from}
use Rattle.refusals.specs.declared.Refusal.{Refusal}
use Rattle.refusals.specs.Told.{told_by, maybe}
use Rattle.plan.specs.ShareText.{share_text}
use Rattle.plan.proofs.put_share.Goals as goal

pub returns-in_default : goal.returns-in_default
unfolding share_text
returns-in_default c =
    let none : c.in_default.field-0 ≡ None = search rules in
    written_as (sym (ap (λ (s : Result (Option ℕ) Refusal). share_text (told_by maybe s)) (c.in_default.is ∙ ap Ok none))) (written_nothing _ 0)

pub returns-in_default-2 : goal.returns-in_default-2
unfolding share_text
returns-in_default-2 c = written_as (sym (ap (λ (s : Result (Option ℕ) Refusal). share_text (told_by maybe s)) c.in_default.is)) (written_nothing _ 0)

pub returns : goal.returns
unfolding share_text
returns c =
    let is : c.args.share ≡ Ok (Some c.in-Ok-Some.divisor) = search rules in
    written_as (sym (ap (λ (s : Result (Option ℕ) Refusal). share_text (told_by maybe s)) is))
    (written_from c.new-text.ensures (puts_both c.bytes.ensures c.numbers.ensures) (search rules))
