-- `matrix_of` meets its contract.
use mathlib.Core.Path.{◌≡◌, subst⁻¹}
use mathlib.Core.List.{◌++◌}
use Prim.Native.Nat.{ℕ, ◌-◌, ◌%◌}
use native.Mathlib.Omega.{arith}
use lib.ListN.{take, replicate}
use Rattle.layout.specs.Plans.{flat}
use Rattle.diagonal.specs.Diagonal.{diagonal_matrix}
use Rattle.diagonal.proofs.Places.{rows2, rows3, matrix-2, matrix-3}
use Rattle.diagonal.proofs.matrix_of.Goals as goal

pub returns-then-d-eq2 : goal.returns-then-d-eq2
returns-then-d-eq2 c =
    let s = c.args.s in
    subst⁻¹ (λ (d : ℕ). rows2 (1 % s) (s - 1) ≡ take 25 (flat (diagonal_matrix d s) ++ replicate 25 0)) c.if-d-eq2.true (matrix-2 s c.requires.2)

pub returns : goal.returns
returns c =
    let s = c.args.s in
    let three : c.args.d ≡ 3 = omega arith in
    subst⁻¹ (λ (d : ℕ). rows3 (1 % s) (s - 1) ≡ take 25 (flat (diagonal_matrix d s) ++ replicate 25 0)) three (matrix-3 s c.requires.2)
