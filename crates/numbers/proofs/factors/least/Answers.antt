-- `least` meets its contract: the whole table passes one computed test, so each entry is a least factor, and there is only one. The table is cited by
-- its name.
use mathlib.Core.Path.{◌≡◌, refl}
use mathlib.Core.Bool.{true}
use mathlib.Core.List.{List}
use Prim.Native.Nat.{ℕ}
use native.Mathlib.Omega.{arith}
use lib.ListN.{length, get_or}
use Rattle.numbers.specs.LeastFactor.{least_factor, LeastFactors}
use Rattle.numbers.proofs.Table.{every}
use Rattle.numbers.proofs.LeastFactor.{least_factor_is, least_unique}
use Rattle.numbers.proofs.LeastTable.{correct, table_least}
use Rattle.numbers.specs.declared.entries.TheConstants.{LEAST}
use Rattle.numbers.proofs.factors.least.Goals as goal

-- a list of 4097 entries that passes the test at each place
least_factors : (xs : List ℕ) → every correct 0 xs ≡ true → length xs ≡ 4097 → LeastFactors xs
least_factors xs test long n low high =
    least_unique n (get_or xs n 0) (least_factor n) (table_least xs test n (omega arith) low (omega arith)) (least_factor_is n low)

pub returns : goal.returns
returns c = least_factors LEAST refl refl c.args.n c.requires.0 c.requires.1
