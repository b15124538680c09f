-- `Slabs::of` meets its contract.
use Rattle.std.proofs.Common.{rules, arith, ◌≡◌, refl, ap, sym, ◌∙◌, true, false, ◌+◌, ◌-◌, ◌<◌, ◌≤◌, ℕ, [], ◌∷◌}
use Rattle.multipartition.specs.Answers.{answered, checked}
use Rattle.multipartition.specs.Questions.{extent_of, cut_of, shape_check, dimension_check}
use Rattle.multipartition.specs.Plans.{between}
use lib.ListN.{get_or}
use Rattle.multipartition.proofs.Tests.{between-true_iff}
use Rattle.refusals.proofs.Laws.{turned_back-on, passed-on}
use Rattle.layout.specs.declared.Plan.{Plan}
use Rattle.layout.specs.Plans.{layout_of}
use Rattle.layout.specs.Checked.{shape_answer}
use Rattle.tiles.specs.Answers.{slabs_answer}
use Rattle.tiles.proofs.Numbering.{extent-at, cut_at}
use Rattle.tiles.proofs.cut.Slabs.of.Goals as goal
use Rattle.tiles.proofs.cut.Slabs.of.Goals.{Else-not-has_dimension}

-- the extent and the cut, by the place and by the dimension
ends_at : (plan : Plan) (k : ℕ) → k < plan.d → (dimension : ℕ) → k + 1 ≡ dimension
    → ◌≡◌ {A = ℕ × ℕ} (get_or plan.extents k 0, get_or plan.cuts k 0) (extent_of (layout_of plan) dimension, cut_of (layout_of plan) dimension)
ends_at plan k below dimension number = rw (← number, extent-at plan k below, cut_at plan k below) refl

-- a plan that has passed both checks answers with them
answer_at : (plan shaped : Plan) → answered shaped ≡ shape_answer plan → (k : ℕ) → k < shaped.d → (dimension : ℕ) → k + 1 ≡ dimension
    → between 1 (layout_of shaped).d dimension ≡ true → answered (get_or shaped.extents k 0, get_or shaped.cuts k 0) ≡ slabs_answer plan dimension
answer_at plan shaped e k below dimension number test =
    let h = passed-on {B = ℕ × ℕ} (shape_check (layout_of plan) ∷ []) (dimension_check (layout_of plan) dimension ∷ []) plan shaped
    (answered (extent_of (layout_of plan) dimension, cut_of (layout_of plan) dimension)) e in
    let there : between 1 (layout_of plan).d dimension ≡ true = rw h.0 at test in
    let ends = ends_at shaped k below dimension number
    ∙ ap {B = ℕ × ℕ} (λ (q : Plan). (extent_of (layout_of q) dimension, cut_of (layout_of q) dimension)) h.0 in
    ap answered ends ∙ sym (h.1 ∙ rw there refl)

-- once both checks have passed, the dimension has a place
within : (c : Else-not-has_dimension) → (1 ≤ c.args.dimension) × (c.args.dimension ≤ c.in_ok-lent.lent.plan.now.d)
unfolding layout_of
within c = (between-true_iff 1 c.in_ok-lent.lent.plan.now.d c.args.dimension).0 (sym c.has_dimension.ensures ∙ c.if-not-has_dimension.false)

pub offset_bounds-lent-k : goal.offset_bounds-lent-k
offset_bounds-lent-k c = let w = within (goal.at.offset_bounds-lent-k c).Else-not-has_dimension in record { fits = omega (arith, w, c.in_ok-lent.lent.shaped.d_high) }

pub offset_bounds-lent-k-2 : goal.offset_bounds-lent-k-2
offset_bounds-lent-k-2 c = let w = within (goal.at.offset_bounds-lent-k-2 c).Else-not-has_dimension in record { fits = omega (arith, w, c.in_ok-lent.lent.shaped.d_high) }

pub bounds-lent-k : goal.bounds-lent-k
bounds-lent-k c = let w = within (goal.at.bounds-lent-k c).Else-not-has_dimension in omega (arith, w, c.in_ok-lent.lent.shaped.d_high)

pub bounds-lent-k-2 : goal.bounds-lent-k-2
bounds-lent-k-2 c = let w = within (goal.at.bounds-lent-k-2 c).Else-not-has_dimension in omega (arith, w, c.in_ok-lent.lent.shaped.d_high)

pub invariant_of-result : goal.invariant_of-result
invariant_of-result c =
    let w = within (goal.at.invariant_of-result c).Else-not-has_dimension in
    let s = c.in_ok-lent.lent.shaped in
    let k : ℕ = c.args.dimension - 1 in
    let below : k < c.in_ok-lent.lent.plan.now.d = omega (arith, w) in
    record { ranges = record { extent_high = s.extent_high k below; cut_low = s.cut_low k below; cut_high = s.cut_high k below; cut_fits = s.cut_fits k below } }

pub returns : goal.returns
returns c =
    let w = within (goal.at.returns c).Else-not-has_dimension in
    answer_at c.args.plan.now c.in_ok-lent.lent.plan.now c.in_ok-lent.ensures (c.args.dimension - 1) (omega (arith, w)) c.args.dimension (omega (arith, w))
    (sym c.has_dimension.ensures ∙ c.if-not-has_dimension.false)
