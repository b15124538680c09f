-- `cuts::search::stops` meets its contract.
use mathlib.Core.Path.{◌≡◌, refl, subst}
use mathlib.Core.Logic.{inl, inr}
use mathlib.Core.Bool.{Bool, true, false, ◌||◌}
use Prim.Native.Nat.{ℕ, ◌*◌, ◌/◌, ◌^◌, ◌≤◌, ◌<◌}
use native.Mathlib.Nat.{mul-le-mul}
use native.Mathlib.Omega.{arith}
use borrow.Author.Tests.{leb-true}
use lib.Dec.{leb}
use Rattle.cuts.specs.declared.search.Best.{Best}
use Rattle.cuts.specs.Search.{IsWithin, Stops}
use Rattle.cuts.proofs.search.stops.Goals as goal

by_tests : (b n unit all each c : ℕ) (best : Best) (s t : Bool) → leb best.tiles (unit * all) ≡ s → leb best.tiles (b * each) ≡ t → b ≤ n → b ≤ all →
    best.packed / 8192 ≤ c → Stops b n unit all each c best (s || t)
by_tests b n unit all each c best true t e f h k l = inr (inr (k, inl (inr (l, leb-true best.tiles (unit * all) e))))
by_tests b n unit all each c best false true e f h k l = inr (inr (k, inr (inr (l, leb-true best.tiles (b * each) f))))
by_tests b n unit all each c best false false e f h k l = (h, k)

pub returns-then-not-is_within : goal.returns-then-not-is_within
returns-then-not-is_within c =
    let args = c.args in
    inl (subst (λ (t : Bool). IsWithin args.b args.n t) c.if-not-is_within.true c.is_within.ensures)

pub returns-then-all-b : goal.returns-then-all-b
returns-then-all-b c = inr (inl c.if-all-b.true)

pub returns-then-best-c : goal.returns-then-best-c
returns-then-best-c c = inr (inr (c.if-all-b.false, inl (inl c.if-best-c.true)))

pub returns-then-c-best : goal.returns-then-c-best
returns-then-c-best c =
    let within = c.is_within in
    let args = c.args in (
      subst (λ (t : Bool). IsWithin args.b args.n t) c.if-not-is_within.false within.ensures,
      c.if-all-b.false,
    )

-- a product of two 32-bit numbers has 64 bits
wide : (x y : ℕ) → x < 2 ^ 32 → y < 2 ^ 32 → x * y < 2 ^ 64
wide x y h k = let high = mul-le-mul h k in omega arith

pub overflow_mul-result : goal.overflow_mul-result
overflow_mul-result c =
    let fits = c.ranges in
    let high = wide c.from.result c.from-2.result (omega (arith, c.from.ensures, fits.unit.fits)) (omega (arith, c.from-2.ensures, fits.all.fits)) in
    omega arith

pub overflow_mul-result-2 : goal.overflow_mul-result-2
overflow_mul-result-2 c =
    let fits = c.ranges in
    let high = wide c.from-3.result c.from-4.result (omega (arith, c.from-3.ensures, fits.b.fits)) (omega (arith, c.from-4.ensures, fits.each.fits)) in
    omega arith

pub returns : goal.returns
returns c =
    let args = c.args in
    let within = c.is_within in
    rw (c.from.ensures, c.from-2.ensures, c.from-3.ensures, c.from-4.ensures)
    (by_tests args.b args.n args.unit args.all args.each args.c args.best (leb args.best.tiles (args.unit * args.all))
    (leb args.best.tiles (args.b * args.each)) refl refl
    (subst (λ (t : Bool). IsWithin args.b args.n t) c.if-not-is_within.false within.ensures)
    c.if-all-b.false c.if-c-best.false)
