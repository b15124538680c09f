-- `cuts::shared::pair_at` meets its contract.
use mathlib.Core.Path.{ap}
use mathlib.Core.Logic.{inl, inr}
use Prim.Native.Nat.{ℕ, ◌+◌}
use native.Mathlib.Omega.{arith}
use Rattle.cuts.proofs.Pairs.{rows_half, square_small}
use Rattle.cuts.proofs.shared.pair_at.Goals as goal

pub overflow_mul-result : goal.overflow_mul-result
overflow_mul-result c = omega (arith, square_small c.args.j c.requires.1)

pub overflow_add-result-then-i-j : goal.overflow_add-result-then-i-j
overflow_add-result-then-i-j c = omega (arith, square_small c.args.j c.requires.1)

pub overflow_add-result-then-i-j-2 : goal.overflow_add-result-then-i-j-2
overflow_add-result-then-i-j-2 c = omega (arith, square_small c.args.j c.requires.1, c.requires.0)

pub returns-then-i-j : goal.returns-then-i-j
returns-then-i-j c = inr (c.if-i-j.true, ap (λ (n : ℕ). 4097 + n + c.args.i) (rows_half c.args.j))

pub overflow_mul-result-2 : goal.overflow_mul-result-2
overflow_mul-result-2 c = omega (arith, square_small c.args.i c.requires.0)

pub overflow_add-result-3 : goal.overflow_add-result-3
overflow_add-result-3 c = omega (arith, square_small c.args.i c.requires.0)

pub overflow_add-result-4 : goal.overflow_add-result-4
overflow_add-result-4 c = omega (arith, square_small c.args.i c.requires.0, c.requires.1)

pub returns : goal.returns
returns c = inl (c.if-i-j.false, ap (λ (n : ℕ). 4097 + n + c.args.j) (rows_half c.args.i))
