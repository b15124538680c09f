-- `cuts::search::is_within` meets its contract.
use mathlib.Core.Path.{◌≡◌, refl}
use mathlib.Core.Bool.{Bool, true, false}
use Prim.Native.Nat.{ℕ}
use borrow.Author.Tests.{leb-true, leb-false}
use lib.Dec.{leb}
use Rattle.cuts.specs.Search.{IsWithin}
use Rattle.cuts.proofs.search.is_within.Goals as goal

by_test : (b n : ℕ) (t : Bool) → leb b n ≡ t → IsWithin b n t
by_test b n true e = leb-true b n e
by_test b n false e = leb-false b n e

pub returns : goal.returns
returns c = by_test c.args.b c.args.n (leb c.args.b c.args.n) refl
