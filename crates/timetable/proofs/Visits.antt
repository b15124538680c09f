-- A visit as the functions put it together, and the refusals in their order.
use mathlib.Core.Path.{◌≡◌, sym, ap, ap₂, ◌∙◌, subst⁻¹}
use mathlib.Core.Logic.{◌≢◌}
use mathlib.Core.Bool.{Bool, true, false, not, cond, ◌&&◌}
use mathlib.Core.List.{List, [], ◌∷◌}
use mathlib.Core.Option.{none, some}
use Prim.Native.Nat.{ℕ, suc, ◌+◌, ◌-◌, ◌≤◌, ◌<◌}
use native.Mathlib.Numerals.{add-one}
use native.Mathlib.Omega.{arith}
use borrow.Author.Tests.{eq-eqb, ne_eqb, lt-ltb, le-ltb}
use lib.Dec.{leb, ltb, eqb}
use lib.ListN.{get_or}
use Rattle.multipartition.specs.Answers.{Answer, answered, refused, Check, checked}
use Rattle.multipartition.specs.Neighbours.{next_owner, neighbour_at}
use Rattle.multipartition.specs.Questions.{cut_of, range_check, owner_by}
use Rattle.multipartition.specs.Rivals.{held}
use Rattle.multipartition.proofs.Neighbours.{neighbour_some}
use Rattle.layout.specs.declared.Plan.{Plan}
use Rattle.layout.specs.Plans.{layout_of}
use Rattle.layout.specs.declared.axes.Axis.{Axis}
use Rattle.layout.specs.Checked.{axis_checks, axis_answer, axis_of}
use Rattle.refusals.specs.declared.Refusal.{Refusal}
use Rattle.refusals.specs.Told.{turned_back}
use Rattle.refusals.proofs.Laws.{turned_back-on, passed-on}
use Rattle.layout.proofs.Places as places
use Rattle.tiles.proofs.Numbering.{cut_at}
use Rattle.timetable.specs.Faces.{faces_held}
use Rattle.timetable.specs.Timetable.{neighbour_by, other_extents, other_extents_check, slab_visited, faces_at, Message, message_with, sends_after, expects_before, Visit, visit_of, timetable_answer}

module _ (plan : Plan) (k : ℕ) (lk : k < plan.d) where
  back : k + 1 - 1 ≡ k
  back = omega arith

  pub neighbour_is : (up : Bool) (q : ℕ) → 1 < get_or plan.cuts k 0
      → neighbour_by (layout_of plan) (k + 1) up q ≡ some (next_owner (layout_of plan).moduli (layout_of plan).matrix k up q)
  neighbour_is up q cut =
      ap (λ (n : ℕ). neighbour_at (layout_of plan).cuts (layout_of plan).moduli (layout_of plan).matrix n up q) back
      ∙ neighbour_some (layout_of plan).cuts (layout_of plan).moduli (layout_of plan).matrix k up q (λ z. omega (arith, cut, places.cut_at plan k lk, z))

  -- at the last step, and before it
  pub last_step : (step : ℕ) → step + 1 ≡ get_or plan.cuts k 0 → eqb (suc step) (cut_of (layout_of plan) (k + 1)) ≡ true
  last_step step e = eq-eqb (suc step) (cut_of (layout_of plan) (k + 1)) (sym (add-one step) ∙ e ∙ sym (cut_at plan k lk))

  pub not-last_step : (step : ℕ) → step + 1 ≢ get_or plan.cuts k 0 → eqb (suc step) (cut_of (layout_of plan) (k + 1)) ≡ false
  not-last_step step n = ne_eqb (suc step) (cut_of (layout_of plan) (k + 1)) (λ e. n (add-one step ∙ e ∙ cut_at plan k lk))

  -- the parts of a visit
  pub visit_is : (up : Bool) (step q slab tiles length : ℕ) (sent expected : Message) → slab ≡ slab_visited (get_or plan.cuts k 0) up step
      → tiles ≡ held (layout_of plan).cuts (owner_by (layout_of plan)) k slab q
      → length ≡ faces_held (layout_of plan).extents (layout_of plan).cuts (owner_by (layout_of plan)) k slab q
      → sent ≡ cond (eqb (suc step) (cut_of (layout_of plan) (k + 1))) none (message_with (neighbour_by (layout_of plan) (k + 1) up q) length)
      → expected ≡ cond (eqb step 0) none (message_with (neighbour_by (layout_of plan) (k + 1) (not up) q) length)
      → ◌≡◌ {A = Visit} (record { slab = slab; tiles = tiles; sends = sent; expects = expected }) (visit_of (layout_of plan) (k + 1) up step q)
  unfolding visit_of sends_after expects_before faces_at
  visit_is up step q slab tiles length sent expected es et el e-sent e-expected =
      let slab_is : slab ≡ slab_visited (cut_of (layout_of plan) (k + 1)) up step = es ∙ ap (λ (b : ℕ). slab_visited b up step) (sym (cut_at plan k lk)) in
      let tiles_is : tiles ≡ held (layout_of plan).cuts (owner_by (layout_of plan)) (k + 1 - 1) (slab_visited (cut_of (layout_of plan) (k + 1)) up step) q
      = et ∙ ap₂ (λ (n v : ℕ). held (layout_of plan).cuts (owner_by (layout_of plan)) n v q) (sym back) slab_is in
      let length-is : length ≡ faces_held (layout_of plan).extents (layout_of plan).cuts (owner_by (layout_of plan)) (k + 1 - 1) (slab_visited (cut_of (layout_of plan) (k + 1)) up step) q
      = el ∙ ap₂ (λ (n v : ℕ). faces_held (layout_of plan).extents (layout_of plan).cuts (owner_by (layout_of plan)) n v q) (sym back) slab_is in
      ap₂ (λ (v n : ℕ). record { slab = v; tiles = n; sends = sent; expects = expected }) slab_is tiles_is
      ∙ ap₂ (λ (m o : Message). record {
        slab = slab_visited (cut_of (layout_of plan) (k + 1)) up step;
        tiles = held (layout_of plan).cuts (owner_by (layout_of plan)) (k + 1 - 1) (slab_visited (cut_of (layout_of plan) (k + 1)) up step) q;
        sends = m;
        expects = o;
      })
      (e-sent ∙ ap (λ (n : ℕ). cond (eqb (suc step) (cut_of (layout_of plan) (k + 1))) none (message_with (neighbour_by (layout_of plan) (k + 1) up q) n)) length-is)
      (e-expected ∙ ap (λ (n : ℕ). cond (eqb step 0) none (message_with (neighbour_by (layout_of plan) (k + 1) (not up) q) n)) length-is)

-- ---- the checks, in their order

-- what is left to check of a dimension that the plan has, and the visit
abbrev pub left_of : Plan → ℕ → Bool → ℕ → ℕ → Answer Visit
left_of plan k up s q =
    checked (other_extents_check (layout_of plan) k ∷ range_check (ltb s (cut_of (layout_of plan) k) && ltb q (layout_of plan).p) ∷ [])
    (answered (visit_of (layout_of plan) k up s q))

module _ (plan : Plan) (k : ℕ) (up : Bool) (s q : ℕ) where
  after_axis : List Check
  after_axis = other_extents_check (layout_of plan) k ∷ range_check (ltb s (cut_of (layout_of plan) k) && ltb q (layout_of plan).p) ∷ []

  -- a plan that is out of shape or has no such dimension
  pub no_axis : (r : Refusal) → turned_back r ≡ axis_answer plan k → turned_back r ≡ timetable_answer (layout_of plan) k up s q
  unfolding timetable_answer after_axis
  no_axis r e = turned_back-on (axis_checks plan k) after_axis (plan, k) (answered (visit_of (layout_of plan) k up s q)) e

  -- a dimension of it
  pub an_axis : (axis : Axis) → answered (axis_of axis) ≡ axis_answer plan k
      → left_of axis.shaped.plan (axis.k + 1) up s q ≡ timetable_answer (layout_of plan) k up s q
  unfolding timetable_answer after_axis
  an_axis axis e =
      let passed = passed-on (axis_checks plan k) after_axis (plan, k) (axis_of axis) (answered (visit_of (layout_of plan) k up s q)) e in
      ap (λ (a : Plan × ℕ). left_of a.0 a.1 up s q) passed.0 ∙ sym passed.1

module _ (plan : Plan) (k : ℕ) (lk : k < plan.d) (up : Bool) (s q : ℕ) where
  pub left-11 : leb (other_extents (layout_of plan) (k + 1)) 4294967295 ≡ false → refused 11 0 ≡ left_of plan (k + 1) up s q
  left-11 e = rw e

  module _ (lengths : leb (other_extents (layout_of plan) (k + 1)) 4294967295 ≡ true) where
    pub left_8-step : get_or plan.cuts k 0 ≤ s → refused 8 0 ≡ left_of plan (k + 1) up s q
    left_8-step h = rw (lengths, le-ltb s (cut_of (layout_of plan) (k + 1)) (subst⁻¹ (λ (n : ℕ). n ≤ s) (cut_at plan k lk) h))

    module _ (below : s < get_or plan.cuts k 0) where
      step_below : ltb s (cut_of (layout_of plan) (k + 1)) ≡ true
      step_below = lt-ltb s (cut_of (layout_of plan) (k + 1)) (subst⁻¹ (λ (n : ℕ). s < n) (cut_at plan k lk) below)

      pub left_8_processor : plan.p ≤ q → refused 8 0 ≡ left_of plan (k + 1) up s q
      unfolding layout_of
      left_8_processor h = rw (lengths, step_below, le-ltb q plan.p h)

      pub left_visited : q < plan.p → answered (visit_of (layout_of plan) (k + 1) up s q) ≡ left_of plan (k + 1) up s q
      unfolding layout_of
      left_visited h = rw (lengths, step_below, lt-ltb q plan.p h)
