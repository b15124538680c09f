-- `side_fits` meets its contract.
use borrow.Author.Tests.{tests}
use lib.Dec.{leb}
use mathlib.Core.Bool.{true, false}
use mathlib.Core.Path.{◌≡◌}
use Prim.Native.Nat.{ℕ, ◌*◌}
use Rattle.std.proofs.Common.{rules}
use Rattle.std.proofs.lemmas.Iterator.{YieldsList-from_slice, YieldsList-from_zip, cases_from_all}
use Rattle.diagonal.proofs.Fits.{side_fits-iterated}
use Rattle.diagonal.proofs.side_fits.Goals as goal

pub returns : goal.returns
returns c =
    let s = c.args.s in
    side_fits-iterated s c.args.extents.now c.args.least.now c.requires c.all.result
    (cases_from_all c.all.new.self _ _ (λ (p : ℕ × ℕ). leb (s * p.1) p.0 ≡ true) (λ (p : ℕ × ℕ). leb (s * p.1) p.0 ≡ false) c.all.ensures.ran
    (YieldsList-from_zip (YieldsList-from_slice c.args.extents.now cc) (YieldsList-from_slice c.args.least.now cc))
    (λ x q k. search (rules, tests)) (λ x q k. search (rules, tests)))
