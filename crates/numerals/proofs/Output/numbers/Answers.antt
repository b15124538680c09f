use mathlib.Core.Path.{◌≡◌, sym, ap, ◌∙◌}
use mathlib.Core.List.{List, [], ◌∷◌, ◌++◌}
use Prim.Native.Nat.{ℕ}
use native.Mathlib.Numerals.{add-one}
use lib.ListN.{take}
use lib.Seq.{take_all}
use Rattle.numerals.specs.Decimal.{decimal}
use Rattle.numerals.specs.Lines.{line_of}
use Rattle.numerals.proofs.Lines.{followed, followed-suc, line-followed}
use Rattle.numerals.proofs.Puts.{puts_as, puts_both}
use Rattle.numerals.proofs.Output.numbers.Goals as goal

pub loop-n-preserved : goal.loop-n-preserved
loop-n-preserved c =
    let rest = c.in-Some.rest.now in
    let i = c.loop-n.n-index in
    puts_as
    (ap (λ (m : ℕ). followed (take i rest) ++ (32 ∷ decimal m)) c.from-in-loop-n.ensures
    ∙ sym (ap (λ (k : ℕ). followed (take k rest)) (add-one i) ∙ followed-suc rest i c.loop-n-test.true))
    (puts_both c.loop-n.invariant (puts_both c.byte.ensures c.decimal-in-loop-n.ensures))

pub returns : goal.returns
returns c =
    let rest = c.in-Some.rest.now in
    let first = c.in-Some.first.now in
    let all : c.args.numbers.now ≡ first ∷ rest = c.in-Some.ensures.cases.0 in
    puts_as
    (ap (λ (m : ℕ). decimal m ++ (followed (take c.loop-n.n-index rest) ++ (10 ∷ []))) c.from.ensures
    ∙ ap (λ (t : List ℕ). decimal first ++ (followed t ++ (10 ∷ []))) (take_all c.loop-n.n-index rest c.loop-n-test.false)
    ∙ sym (line-followed first rest)
    ∙ ap line_of (sym all))
    (puts_both c.decimal.ensures (puts_both c.loop-n.invariant c.byte-2.ensures))
