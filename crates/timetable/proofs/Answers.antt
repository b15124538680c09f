-- When the timetable answers, and what: the checks passed, and the visit.
use mathlib.Core.Path.{◌≡◌, ap}
use mathlib.Core.Logic.{◌↔◌}
use mathlib.Core.Bool.{Bool, true, ◌&&◌}
use mathlib.Core.List.{List, [], ◌∷◌}
use Prim.Native.Nat.{ℕ, ◌<◌}
use borrow.Author.Tests.{not-false}
use lib.Dec.{leb, ltb}
use Rattle.multipartition.specs.Answers.{answered, Check}
use Rattle.multipartition.specs.Plans.{Layout, between, in_shape}
use Rattle.multipartition.specs.Questions.{cut_of, shape_check, dimension_check, range_check}
use Rattle.multipartition.proofs.Answers.{answers_iff}
use Rattle.multipartition.proofs.Tests.{and_iff, leb_iff, ltb_iff}
use Rattle.timetable.specs.Timetable.{other_extents, other_extents_check, Asked, Visit, visit_of, timetable_answer}

pub timetable_answered : (plan : Layout) (k : ℕ) (up : Bool) (s q : ℕ) (visit : Visit)
    → (timetable_answer plan k up s q ≡ answered visit) ↔ (Asked plan k s q × (visit_of plan k up s q ≡ visit))
unfolding timetable_answer
timetable_answered plan k up s q visit = (
  (λ e.
      let h = (answers_iff checks (visit_of plan k up s q) visit).0 e in
      let range = ranges.0 (not-false below h.0.1.1.1.0) in (
        record {
          shape = not-false (in_shape plan) h.0.0;
          dimension = not-false (between 1 plan.d k) h.0.1.0;
          extents_fit = (leb_iff (other_extents plan k) 4294967295).0 (not-false (leb (other_extents plan k) 4294967295) h.0.1.1.0);
          step_below = range.0;
          processor_below = range.1;
        },
        h.1,
      )),
  λ h. let asked = h.0 in
      rw (
        asked.shape,
        asked.dimension,
        (leb_iff (other_extents plan k) 4294967295).1 asked.extents_fit,
        ranges.1 (asked.step_below, asked.processor_below),
      )
      (ap answered h.1),
)
  where
    below : Bool
    below = ltb s (cut_of plan k) && ltb q plan.p

    checks : List Check
    checks = shape_check plan ∷ dimension_check plan k ∷ other_extents_check plan k ∷ range_check below ∷ []

    ranges : (ltb s (cut_of plan k) && ltb q plan.p ≡ true) ↔ ((s < cut_of plan k) × (q < plan.p))
    ranges = and_iff (ltb s (cut_of plan k)) (ltb q plan.p) (ltb_iff s (cut_of plan k)) (ltb_iff q plan.p)
