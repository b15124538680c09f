-- `Tables::divides` meets its contract: every divisor divides the last.
use mathlib.Core.Path.{◌≡◌, ◌∙◌, subst, subst⁻¹}
use mathlib.Core.Bool.{Bool}
use Prim.Native.Nat.{ℕ, ◌-◌, ◌%◌, ◌∣◌, ◌<◌}
use native.Mathlib.Nat.{mod-eq-zero_of_dvd, dvd_of_mod-eq-zero}
use native.Mathlib.Decide.{ℕ_discrete}
use borrow.Author.Tests.{eq-eqb, ne_eqb}
use lib.Dec.{eqb}
use lib.ListN.{length, get_or}
use Rattle.cuts.specs.Search.{Divides}
use Rattle.cuts.proofs.Chosen.{served}
use Rattle.cuts.proofs.tables.Tables.divides.Goals as goal

-- the test of the remainder
by-remainder : (x t : ℕ) → Divides t x (eqb (x % t) 0)
by-remainder x t = go (ℕ_discrete (x % t) 0)
  where
    go : Dec (x % t ≡ 0) → Divides t x (eqb (x % t) 0)
    go (yes e) = subst⁻¹ (λ (v : Bool). Divides t x v) (eq-eqb (x % t) 0 e) (dvd_of_mod-eq-zero t e)
    go (no e) = subst⁻¹ (λ (v : Bool). Divides t x v) (ne_eqb (x % t) 0 e) (λ d. e (mod-eq-zero_of_dvd t d))

pub nonzero_rem-result : goal.nonzero_rem-result
nonzero_rem-result c =
    let among = c.requires in
    subst (λ (n : ℕ). 0 < n) among.2 ((served c.args.self.now).0.positive among.0 among.1)

pub returns-then-left-eq2 : goal.returns-then-left-eq2
returns-then-left-eq2 c = by-remainder c.args.x c.args.t

pub returns-then-x-first_of : goal.returns-then-x-first_of
returns-then-x-first_of c =
    let divisors = c.args.self.now.divisors.now in
    let among = c.requires in
    subst⁻¹ (λ (n : ℕ). c.args.t ∣ n) (c.if-x-first_of.true ∙ c.first_of.ensures.0)
    (subst (λ (n : ℕ). n ∣ get_or divisors (length divisors - 1) 0) among.2 ((served c.args.self.now).0.last among.0 among.1))

pub nonzero_rem-result-2 : goal.nonzero_rem-result-2
nonzero_rem-result-2 c =
    let among = c.requires in
    subst (λ (n : ℕ). 0 < n) among.2 ((served c.args.self.now).0.positive among.0 among.1)

pub returns : goal.returns
returns c = by-remainder c.args.x c.args.t
