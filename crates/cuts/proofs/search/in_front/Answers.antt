-- `cuts::search::in_front` meets its contract.
use mathlib.Core.Path.{◌≡◌, ap, ap₂, ◌∙◌}
use mathlib.Core.Logic.{◌⊎◌, ⊎_elim}
use Prim.Native.Nat.{ℕ, ◌+◌, ◌*◌, ◌/◌, ◌^◌, ◌≤◌, ◌<◌}
use native.Mathlib.Nat.{mul-le-mul}
use native.Mathlib.Omega.{arith}
use borrow.Author.Tests.{eq-eqb, ne_eqb}
use Rattle.multipartition.specs.Cuts.{cut_cost}
use Rattle.cuts.specs.declared.search.Best.{Best}
use Rattle.cuts.specs.Answers.{in_front}
use Rattle.cuts.proofs.Answers.{cut_cost_small}
use Rattle.cuts.proofs.search.in_front.Goals as goal

abbrev front : ℕ → ℕ → Best
front x y = record { packed = x; tiles = y }

-- an answer that is not nothing is small
found : (r : Best) → (r.packed ≡ 2 ^ 63) ⊎ ((r.packed < 2 ^ 60) × (r.tiles ≤ 2 ^ 48)) → (r.packed ≡ 2 ^ 63 → ⊥) → (r.packed < 2 ^ 60) × (r.tiles ≤ 2 ^ 48)
found r bound other = ⊎_elim (λ q. absurd (other q)) (λ h. h) bound

-- the two costs together
small : (r b w cost : ℕ) → cost ≡ cut_cost b w → b ≤ 4096 → w < 2 ^ 32 → r < 2 ^ 60 → r / 8192 + cost < 2 ^ 48
small r b w cost e low wide some = let most = cut_cost_small b w low wide in omega arith

pub returns-then-r-eq-NOTHING : goal.returns-then-r-eq-NOTHING
unfolding in_front
returns-then-r-eq-NOTHING c = rw (eq-eqb c.args.r.packed (2 ^ 63) c.if-r-eq-NOTHING.true)

pub cut_cost-requires : goal.cut_cost-requires
cut_cost-requires c = c.requires.0

pub overflow_add-result : goal.overflow_add-result
overflow_add-result c =
    let some = found c.args.r c.requires.2 c.if-r-eq-NOTHING.false in
    let sum = small _ _ _ _ c.cut_cost.ensures c.requires.1 (omega (arith, c.ranges.w.fits)) some.0 in
    omega arith

pub overflow_mul-result : goal.overflow_mul-result
overflow_mul-result c =
    let some = found c.args.r c.requires.2 c.if-r-eq-NOTHING.false in
    let sum = small _ _ _ _ c.cut_cost.ensures c.requires.1 (omega (arith, c.ranges.w.fits)) some.0 in
    omega arith

pub overflow_add-result-2 : goal.overflow_add-result-2
overflow_add-result-2 c =
    let some = found c.args.r c.requires.2 c.if-r-eq-NOTHING.false in
    let sum = small _ _ _ _ c.cut_cost.ensures c.requires.1 (omega (arith, c.ranges.w.fits)) some.0 in
    omega (arith, sum, c.from.ensures, c.requires.1)

pub overflow_mul-result-2 : goal.overflow_mul-result-2
overflow_mul-result-2 c =
    let some = found c.args.r c.requires.2 c.if-r-eq-NOTHING.false in
    let low : c.from-2.result ≤ 4096 = omega (arith, c.from-2.ensures, c.requires.1) in
    let most : c.from-2.result * c.args.r.tiles ≤ 4096 * 2 ^ 48 = mul-le-mul low some.1 in
    omega (arith, most)

pub returns : goal.returns
unfolding in_front
returns c =
    let args = c.args in
    rw (ne_eqb args.r.packed (2 ^ 63) c.if-r-eq-NOTHING.false)
    (ap₂ (λ (x y : ℕ). front ((args.r.packed / 8192 + x) * 8192 + y) (c.from-2.result * args.r.tiles)) c.cut_cost.ensures c.from.ensures
    ∙ ap (λ (y : ℕ). front ((args.r.packed / 8192 + cut_cost args.b args.w) * 8192 + args.b) (y * args.r.tiles)) c.from-2.ensures)
