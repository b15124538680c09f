-- How the call comes out, once the plan has the dimension: its checks, and the page.
use mathlib.Core.Path.{◌≡◌}
use mathlib.Core.List.{List, [], ◌∷◌}
use Prim.Native.Nat.{ℕ, ◌+◌, ◌-◌, ◌*◌, ◌/◌, ◌≤◌, ◌<◌}
use native.Mathlib.Nat.{div-le_self}
use native.Mathlib.Omega.{arith}
use lib.Dec.{leb, eqb}
use lib.ListN.{get_or}
use Rattle.multipartition.specs.Answers.{answered, refused, Check, checked}
use Rattle.multipartition.specs.Plans.{Layout, tiles_of}
use Rattle.multipartition.specs.Questions.{cut_of, range_check, length_check}
use Rattle.layout.specs.declared.Plan.{Plan}
use Rattle.layout.specs.declared.axes.Axis.{Axis}
use Rattle.layout.specs.Plans.{layout_of}
use Rattle.layout.specs.Shaped.{Shaped}
use Rattle.layout.specs.Checked.{axis_answer, axis_of}
use Rattle.tiles.proofs.Along.{turned_back-along, passed-along}
use Rattle.sheet.specs.Pages.{tiles_each, sheet_line, lines_from, sheet_page, sheet_answer, Fits}

-- the checks of a page of a dimension of b slabs
abbrev pub page_checks : (b page places : ℕ) → List Check
page_checks b page places = range_check (leb page ((b - 1) / 50)) ∷ length_check (eqb places 3650) ∷ []

module _ (plan : Plan) (k page : ℕ) (caption : List ℕ) (places : ℕ) where
  abbrev b : ℕ
  b = cut_of (layout_of plan) k

  pub turned_back : {number place : ℕ} → refused number place ≡ axis_answer plan k → refused number place ≡ sheet_answer (layout_of plan) k page caption places
  unfolding sheet_answer
  turned_back e = turned_back-along plan k (page_checks b page places) (answered (sheet_page (layout_of plan) k page caption)) e

  -- a dimension of n elements in `cut` slabs
  pub passed : (axis : Axis) → answered (axis_of axis) ≡ axis_answer plan k → (extent cut share : ℕ) → extent ≡ get_or axis.shaped.plan.extents axis.k 0
      → cut ≡ get_or axis.shaped.plan.cuts axis.k 0 → share ≡ tiles_each (layout_of axis.shaped.plan) (axis.k + 1)
      → sheet_answer (layout_of plan) k page caption places
      ≡ checked (page_checks cut page places) (answered (lines_from (sheet_line extent cut share caption) (page * 50) 50))
  unfolding sheet_answer sheet_page
  passed axis e extent cut share extent_is cut_is share_is =
      let h = passed-along plan k (page_checks b page places) (answered (sheet_page (layout_of plan) k page caption)) axis e in
      rw (extent_is, cut_is, share_is, h.0.extent_is, h.0.cut_is, h.0.plan_is, h.0.number) h.1

pub each_high : (plan : Layout) (k : ℕ) → tiles_each plan k ≤ tiles_of plan
unfolding tiles_each
each_high plan k = div-le_self _ _

pub tiles_of_lem : (plan : Plan) → Shaped plan → tiles_of (layout_of plan) ≤ 16777216
unfolding layout_of
tiles_of_lem plan shaped = shaped.tiles_high

-- the numbers of every line have a place in their fields
pub fits-at : (plan : Plan) (k share : ℕ) → Shaped plan → k < plan.d → share ≡ tiles_each (layout_of plan) (k + 1)
    → Fits (get_or plan.extents k 0) (get_or plan.cuts k 0) share
fits-at plan k share shaped below e =
    record {
      extent_high = shaped.extent_high k below;
      cut_low = shaped.cut_low k below;
      cut_high = shaped.cut_high k below;
      cut_fits = shaped.cut_fits k below;
      share_high = omega (arith, e, each_high (layout_of plan) (k + 1), tiles_of_lem plan shaped);
    }
