-- What the diagonal call answers: a job that is answered has d = 2 or 3 dimensions and s to the power d - 1 processors, s cuts each way fit, and its
-- plan is in shape.
use mathlib.Core.Path.{◌≡◌, sym, ap, ◌∙◌, subst, subst⁻¹}
use mathlib.Core.Bool.{true, not}
use mathlib.Core.List.{List, []}
use mathlib.Core.Logic.{◌↔◌}
use Prim.Native.Nat.{ℕ, zero, suc, ◌-◌, ◌^◌, ◌≤◌, ◌<◌}
use native.Mathlib.Omega.{arith}
use borrow.Author.Tests.{not-false}
use lib.ListN.{length, replicate}
use Rattle.multipartition.specs.Answers.{answered}
use Rattle.multipartition.specs.Cuts.{Fits}
use Rattle.multipartition.specs.Plans.{Job, Layout, job_with, in_shape}
use Rattle.multipartition.specs.Jobs.{first_outside, first_zero}
use Rattle.multipartition.proofs.Answers.{Small, answers_iff, checked_small}
use Rattle.multipartition.proofs.Jobs.{job_passes_iff, job_of-ones}
use Rattle.multipartition.proofs.Plans.{in_shape_iff}
use Rattle.layout.specs.Sized.{Sized}
use Rattle.diagonal.specs.Diagonal.{diagonal_plan, side_of, suits, side_fits, diagonal_checks, diagonal_answer, DiagonalFor}
use Rattle.diagonal.proofs.Sides.{side_low, side_power, side_is, suits_facts, suits_of, fits_of_side, side_of_fits}
use Rattle.diagonal.proofs.Plans.{diagonal-in_shape, diagonal_sized}

module _ (job : Job) (plan : Layout) where
  diagonal-told : diagonal_answer job ≡ answered plan → DiagonalFor job plan
  unfolding diagonal_answer
  diagonal-told e =
      let asked = (answers_iff (diagonal_checks job) (diagonal_plan job s) plan).0 e in
      let pass = asked.0 in
      let passed = (job_passes_iff job).0 (pass.0, (pass.1.0, (pass.1.1.1.0, (pass.1.1.1.1.0, (pass.1.1.1.1.1.0, tt))))) in
      let suit = (suits_facts job.d job.p).0 (not-false (suits job.d job.p) pass.1.1.0) in
      let dimensions : job.d ≡ suc (suc (job.d - 2)) = omega (arith, suit.low) in
      let low : zero < s = side_low job.d job.p in
      record {
        n = job.d - 2;
        s = s;
        dimensions = dimensions;
        few = omega (arith, suit.high);
        processors =
            subst⁻¹ (λ (d : ℕ). side_of d job.p ^ suc (job.d - 2) ≡ job.p) dimensions
            (side_power (job.d - 2) job.p (subst (λ (d : ℕ). side_of d job.p ≤ job.p) dimensions suit.side_high));
        positive = low;
        passed = passed;
        fits =
            subst (λ (m : ℕ). Fits job.extents job.least (replicate m s)) passed.extents_many
            (fits_of_side s job.extents job.least low (passed.least_many ∙ sym passed.extents_many)
            (not-false (side_fits s job.extents job.least) pass.1.1.1.1.1.1.0));
        plan_is = sym asked.1;
      }
    where
      s : ℕ
      s = side_of job.d job.p

  pub diagonal-suits : DiagonalFor job plan → suits job.d job.p ≡ true
  diagonal-suits made =
      subst⁻¹ (λ (d : ℕ). suits d job.p ≡ true) made.dimensions
      (suits_of made.n job.p made.s made.few made.passed.range.p_low made.processors)

  diagonal_of : DiagonalFor job plan → diagonal_answer job ≡ answered plan
  unfolding diagonal_answer
  diagonal_of made =
      let pass = (job_passes_iff job).1 made.passed in
      let found : side_of job.d job.p ≡ made.s =
      subst⁻¹ (λ (d : ℕ). side_of d job.p ≡ made.s) made.dimensions (side_is made.n job.p made.s made.passed.range.p_low made.processors) in
      let many : Fits job.extents job.least (replicate (length job.extents) made.s) =
      subst⁻¹ (λ (m : ℕ). Fits job.extents job.least (replicate m made.s)) made.passed.extents_many made.fits in
      let fit : side_fits (side_of job.d job.p) job.extents job.least ≡ true =
      subst⁻¹ (λ (m : ℕ). side_fits m job.extents job.least ≡ true) found (side_of_fits made.s job.extents job.least many) in
      (answers_iff (diagonal_checks job) (diagonal_plan job (side_of job.d job.p)) plan).1 (
        (pass.0, (pass.1.0, (ap not (diagonal-suits made), (pass.1.1.0, (pass.1.1.1.0, (pass.1.1.1.1.0, (ap not fit, tt))))))),
        ap (diagonal_plan job) found ∙ sym made.plan_is,
      )

  pub diagonal_answered : (diagonal_answer job ≡ answered plan) ↔ DiagonalFor job plan
  diagonal_answered = (diagonal-told, diagonal_of)

module _ (job : Job) (plan : Layout) (e : diagonal_answer job ≡ answered plan) where
  -- a diagonal plan is in shape
  pub diagonal_answer-in_shape : in_shape plan ≡ true
  diagonal_answer-in_shape =
      let made = (diagonal_answered job plan).0 e in
      subst⁻¹ (λ (l : Layout). in_shape l ≡ true) made.plan_is
      ((in_shape_iff (diagonal_plan job made.s)).1
      (diagonal-in_shape job made.n made.s made.dimensions made.processors made.passed made.fits))

  -- and a plan by value can hold it
  pub diagonal_answer_sized : Sized plan
  diagonal_answer_sized =
      let made = (diagonal_answered job plan).0 e in
      subst⁻¹ Sized made.plan_is (diagonal_sized job made.n made.s made.dimensions made.processors made.passed made.fits)

-- a refusal has a number from 1 on, and one of two digits
pub diagonal_small : (job : Job) (most : ℕ) → first_outside job.extents ≤ most → first_zero job.least ≤ most → Small most (diagonal_answer job)
unfolding diagonal_answer
diagonal_small job most extent thickness =
    checked_small most (diagonal_checks job) (answered (diagonal_plan job (side_of job.d job.p))) (
      (omega arith, omega arith, omega arith),
      (
        (omega arith, omega arith, omega arith),
        (
          (omega arith, omega arith, omega arith),
          (
            (omega arith, omega arith, omega arith),
            ((omega arith, omega arith, extent), ((omega arith, omega arith, thickness), ((omega arith, omega arith, omega arith), tt))),
          ),
        ),
      ),
    )
    tt

-- an empty list of thicknesses and a list of ones get the same plan
pub diagonal_of-ones : (p d : ℕ) (extents weights : List ℕ)
    → diagonal_answer (job_with p d extents weights (replicate d 1)) ≡ diagonal_answer (job_with p d extents weights [])
diagonal_of-ones p d extents weights = ap diagonal_answer (job_of-ones p d extents weights)
