-- `is_five` meets its contract.
use mathlib.Core.Path.{sym, ap, ◌∙◌}
use mathlib.Core.Bool.{not, not-not}
use Rattle.std.specs.Option.{is_some}
use Rattle.planner.specs.Planned.{passed_job}
use Rattle.refused_share.proofs.Shares.{five_test}
use Rattle.refused_share.proofs.is_five.Goals as goal

pub returns : goal.returns
returns c =
    sym (not-not c.is_none.result) ∙ ap not (sym c.is_none.ensures) ∙ ap (λ o. not (is_some o)) c.cuts_of.ensures
    ∙ five_test (passed_job c.args.passed) c.requires
