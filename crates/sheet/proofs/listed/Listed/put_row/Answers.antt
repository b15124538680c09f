-- `Listed::put_row` meets its contract.
use mathlib.Core.Path.{ap, ◌∙◌}
use mathlib.Core.List.{List, ◌∷◌, ◌++◌}
use Prim.Native.Nat.{ℕ, ◌+◌}
use lib.ListN.{take, drop}
use Rattle.sheet.proofs.listed.Listed.put_row.Goals as goal

pub returns : goal.returns
returns c =
    let at = c.args.at in
    let page = c.args.page.now in
    c.put_line.ensures ∙ ap (λ (line : List ℕ). take at page ++ line ++ (10 ∷ drop (at + 73) page)) c.line.ensures
