-- `first_fall` meets its contract.
use Rattle.std.proofs.Common.{rules, tests, ◌≡◌, refl, sym, ◌∙◌, ℕ, ◌<◌, ◌≤◌}
use borrow.Author.Tests.{eqb-true}
use Rattle.std.proofs.lemmas.Iterator.{IsFirst-from_position, YieldsList-from_slice, YieldsList-from_zip}
use Rattle.std.proofs.lemmas.Iterator.Adapters.{YieldsList-from_skip}
use Rattle.probes.specs.Probes.{first_fall}
use Rattle.probes.proofs.Falls.{found_none, found-at}
use Rattle.probes.proofs.first_fall.Goals as goal

pub returns-then-rises : goal.returns-then-rises
returns-then-rises c =
    let none : first_fall c.args.elements.now ≡ 0 = eqb-true _ _ (sym c.rises.ensures ∙ c.if-rises.true) in
    rw none refl

pub returns-in_err-before : goal.returns-in_err-before
returns-in_err-before c =
    let xs = c.args.elements.now in
    c.from_residual.ensures
    ∙ found_none xs (rw c.in_err-before.was at (IsFirst-from_position c.position.new.self _ c.position.result (λ (p : ℕ × ℕ). p.1 < p.0) (λ (p : ℕ × ℕ). p.0 ≤ p.1) c.position.ensures.ran
    (YieldsList-from_zip (YieldsList-from_slice xs cc) (YieldsList-from_skip 1 (YieldsList-from_slice xs cc) cc))
    (λ x q k. search (rules, tests)) (λ x q k. search (rules, tests))))

pub returns : goal.returns
returns c =
    let xs = c.args.elements.now in
    found-at xs c.in_ok-before.before (rw c.in_ok-before.was at (IsFirst-from_position c.position.new.self _ c.position.result (λ (p : ℕ × ℕ). p.1 < p.0) (λ (p : ℕ × ℕ). p.0 ≤ p.1) c.position.ensures.ran
    (YieldsList-from_zip (YieldsList-from_slice xs cc) (YieldsList-from_skip 1 (YieldsList-from_slice xs cc) cc))
    (λ x q k. search (rules, tests)) (λ x q k. search (rules, tests))))
