-- `Tables::slot` meets its contract.
use mathlib.Core.Path.{ap₂}
use Prim.Native.Nat.{ℕ, ◌+◌, ◌-◌, ◌*◌, ◌≤◌, ◌<◌}
use native.Mathlib.Nat.{mul-le-mul_right}
use native.Mathlib.Omega.{arith}
use lib.ListN.{length}
use Rattle.cuts.specs.Memory.{slot_of}
use Rattle.cuts.specs.declared.tables.Tables.{Tables}
use Rattle.cuts.proofs.Chosen.{few_listed}
use Rattle.cuts.proofs.tables.Tables.slot.Goals as goal

few : (t : Tables) → length t.divisors.now ≤ 128
few t = omega (arith, few_listed t)

rows : (left count : ℕ) → left ≤ 5 → count ≤ 128 → (left - 2) * count ≤ 384
rows left count h k = let high : (left - 2) * count ≤ 3 * count = mul-le-mul_right count (omega arith) in omega arith

tables : (left count x : ℕ) → left ≤ 5 → count ≤ 128 → x < 256 → ((left - 2) * count + x) * count ≤ 81920
tables left count x h k l =
    let few = rows left count h k in
    let high : ((left - 2) * count + x) * count ≤ 640 * count = mul-le-mul_right count (omega arith) in
    omega arith

pub overflow_mul-result : goal.overflow_mul-result
overflow_mul-result c =
    omega (arith, rows c.args.left (length c.args.self.now.divisors.now) c.requires.1 (few c.args.self.now))

pub overflow_add-result : goal.overflow_add-result
overflow_add-result c =
    omega (arith, rows c.args.left (length c.args.self.now.divisors.now) c.requires.1 (few c.args.self.now), c.place_of.ensures.1)

pub overflow_mul-result-2 : goal.overflow_mul-result-2
overflow_mul-result-2 c =
    omega (arith, tables c.args.left (length c.args.self.now.divisors.now) c.place_of.result c.requires.1 (few c.args.self.now) c.place_of.ensures.1)

pub overflow_add-result-2 : goal.overflow_add-result-2
overflow_add-result-2 c =
    omega (
      arith,
      c.place_of-2.ensures.1,
      tables c.args.left (length c.args.self.now.divisors.now) c.place_of.result c.requires.1 (few c.args.self.now) c.place_of.ensures.1,
    )

pub returns : goal.returns
unfolding slot_of
returns c =
    let args = c.args in
    ap₂ (λ (x y : ℕ). ((args.left - 2) * length args.self.now.divisors.now + x) * length args.self.now.divisors.now + y) c.place_of.ensures.0 c.place_of-2.ensures.0
