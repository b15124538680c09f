-- A dimension is counted from 1, its place from 0: the dimension at a place.
use mathlib.Core.Path.{◌≡◌, ap, ◌∙◌}
use mathlib.Core.Bool.{true}
use Prim.Native.Nat.{ℕ, ◌+◌, ◌-◌, ◌<◌}
use native.Mathlib.Omega.{arith}
use lib.ListN.{get_or}
use borrow.Author.Tests.{le-leb}
use Rattle.multipartition.specs.Plans.{between}
use Rattle.multipartition.specs.Questions.{extent_of, cut_of}
use Rattle.layout.specs.declared.Plan.{Plan}
use Rattle.layout.specs.Plans.{layout_of}
use Rattle.layout.proofs.Places as places

module _ (plan : Plan) (k : ℕ) (below : k < plan.d) where
  pub is_dimension : between 1 (layout_of plan).d (k + 1) ≡ true
  unfolding layout_of
  is_dimension = rw (le-leb 1 (k + 1) (omega arith), le-leb (k + 1) plan.d (omega arith))

  place : k + 1 - 1 ≡ k
  place = omega arith

  pub extent-at : extent_of (layout_of plan) (k + 1) ≡ get_or plan.extents k 0
  extent-at = ap (λ (i : ℕ). get_or (layout_of plan).extents i 0) place ∙ places.extent-at plan k below

  pub cut_at : cut_of (layout_of plan) (k + 1) ≡ get_or plan.cuts k 0
  cut_at = ap (λ (i : ℕ). get_or (layout_of plan).cuts i 0) place ∙ places.cut_at plan k below
