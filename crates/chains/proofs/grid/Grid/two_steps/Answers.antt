-- `two_steps` meets its contract.
use mathlib.Core.Path.{◌≡◌, sym, ap, ◌∙◌}
use Prim.Native.Nat.{ℕ, ◌+◌, ◌*◌, ◌<◌}
use native.Mathlib.Omega.{arith}
use lib.ListN.{length, get_or, length-set, get_or-append}
use lib.Seq.{length-take-le}
use Rattle.chains.specs.Walks.{lower}
use Rattle.chains.proofs.Filling.{places_more}
use Rattle.chains.proofs.grid.Grid.two_steps.Goals as goal

-- the first table begins at place 0
first : (q r : ℕ) → q ≡ r → 0 * 4096 + q ≡ r
first q r e = omega (arith, e)

pub loop-q-init : goal.loop-q-init
loop-q-init c = (length-take-le c.args.self.now.p c.args.twice.now (omega (arith, c.requires, c.args.self.now.tables.few)), λ j l. absurd (omega arith))

pub loop-q-preserved : goal.loop-q-preserved
loop-q-preserved c =
    let l = c.loop-q in (
      length-set l.two-items l.q _ ∙ l.invariant.0,
      places_more (λ j x. x ≡ lower c.args.self.now.downs.now 0 (lower c.args.self.now.downs.now 0 j)) l.two-items l.q _ (omega (arith, l.auto.two-items, c.loop-q-test.true)) l.invariant.1
          (ap (λ (i : ℕ). get_or c.args.self.now.downs.now i 0) (sym (first _ _ (sym c.lower.ensures)))),
    )

pub returns : goal.returns
returns c =
    let l = c.loop-q in
    record {
      at = λ q m.
          let there : q < length l.two-items = omega (arith, m, l.invariant.0) in
          get_or-append l.two-items _ 0 q there ∙ l.invariant.1 q (omega (arith, there, l.auto.two-items, c.loop-q-test.false));
    }
