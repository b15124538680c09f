-- What the planner's answer to a job says: a job in range is answered with the cheapest cuts, or refused with 5 where there are none; and a plan
-- that is answered is in shape.
use mathlib.Core.Path.{◌≡◌, refl, sym, ap, ◌∙◌, subst, subst⁻¹}
use mathlib.Core.Logic.{◌⊎◌, inl, inr, ⊎_elim, ◌↔◌}
use mathlib.Core.Bool.{Bool, true, false, not, ◌||◌}
use mathlib.Core.List.{List, [], ◌∷◌}
use mathlib.Core.Option.{Option, none, some}
use Prim.Native.Nat.{ℕ, zero, suc, ◌+◌, ◌≤◌, ◌<◌}
use native.Mathlib.Omega.{arith}
use borrow.Author.Tests.{eqb-true, eq-eqb, not-false}
use lib.Dec.{leb, eqb}
use lib.ListN.{length, get_or, replicate, length-replicate, get_or-replicate}
use Rattle.multipartition.specs.Answers.{answered, refused}
use Rattle.multipartition.specs.Cuts.{Fits, Even}
use Rattle.multipartition.specs.Plans.{Job, Layout, least_of, job_with, layout_with, between, in_shape}
use Rattle.multipartition.specs.Jobs.{Passed, PlanFor, first_outside, first_zero, lengths_check, job_checks, cheapest_for, plan_with, plan_answer}
use Rattle.multipartition.proofs.Answers.{AllPass, Small, checked_passed, checked_answered, checked_refused_behind, checked_small}
use Rattle.multipartition.proofs.Chosen.{none-chosen, chosen_fits, chosen_even}
use Rattle.multipartition.proofs.Plans.{layout-in_shape}
use Rattle.multipartition.proofs.Tests.{or-false, leb_iff, between-true_iff}
use Rattle.multipartition.proofs.Searches.{first_failing-le, first_failing-zero_iff}

-- ---- the checks

-- no extent is out of range, and no thickness is 0, just if the first such dimension is 0
pub extents_iff : (extents : List ℕ) → (first_outside extents ≡ 0) ↔ ((k : ℕ) → k < length extents → (1 ≤ get_or extents k 0) × (get_or extents k 0 ≤ 1000000))
extents_iff extents = first_failing-zero_iff (between 1 1000000) (between-true_iff 1 1000000) extents

pub least_iff : (least : List ℕ) → (first_zero least ≡ 0) ↔ ((k : ℕ) → k < length least → 1 ≤ get_or least k 0)
least_iff least = first_failing-zero_iff (leb 1) (leb_iff 1) least

-- the first of them is one of them
pub first_outside-le : (extents : List ℕ) → first_outside extents ≤ 1 + length extents
first_outside-le extents = first_failing-le (between 1 1000000) 1 extents

pub first_zero-ones : (d : ℕ) → first_zero (replicate d 1) ≡ 0
first_zero-ones d = (least_iff (replicate d 1)).1 (λ k l. ones k (subst (λ (n : ℕ). k < n) (length-replicate {A = ℕ} d 1) l))
  where
    ones : (k : ℕ) → k < d → 1 ≤ get_or (replicate d 1) k 0
    ones k l = omega (arith, get_or-replicate {A = ℕ} d k 1 0 l)

pub first_zero-le : (d : ℕ) (given : List ℕ) → first_zero (least_of d given) ≤ 1 + length given
first_zero-le d [] = omega (arith, first_zero-ones d)
first_zero-le d (t ∷ given) = first_failing-le (leb 1) 1 (t ∷ given)

-- line 3
pub lengths_of_check : (job : Job) → (lengths_check job).fails ≡ false → (length job.extents ≡ job.d) × (length job.weights ≡ job.d) × (length job.least ≡ job.d)
lengths_of_check job e =
    let E : Bool = eqb (length job.extents) job.d in
    let W : Bool = eqb (length job.weights) job.d in
    let L : Bool = eqb (length job.least) job.d in
    let both = or-false (not E || not W) (not L) e in
    let two = or-false (not E) (not W) both.0 in
    (eqb-true _ _ (not-false E two.0), eqb-true _ _ (not-false W two.1), eqb-true _ _ (not-false L both.1))

module _ (job : Job) where
  -- the lines 1 to 4 of the table and 13, and what it takes to pass them
  pub job_passes_iff : AllPass (job_checks job) ↔ Passed job
  job_passes_iff = (there, back)
    where
      there : AllPass (job_checks job) → Passed job
      there h =
          let d_range = (between-true_iff 2 5 job.d).0 (not-false (between 2 5 job.d) h.0) in
          let p_range = (between-true_iff 1 4096 job.p).0 (not-false (between 1 4096 job.p) h.1.0) in
          let many = lengths_of_check job h.1.1.0 in
          let extents_many = many.0 in
          let inside = (extents_iff job.extents).0 (eqb-true (first_outside job.extents) 0 (not-false (eqb (first_outside job.extents) 0) h.1.1.1.0)) in
          record {
            range = record {
              p_low = p_range.0;
              p_high = p_range.1;
              d_low = omega (arith, d_range.0);
              d_high = omega (arith, d_range.1);
              extent_low = λ k l. (inside k l).0;
              extent_high = λ k l. (inside k l).1;
            };
            extents_many = extents_many;
            weights_many = many.1;
            least_many = many.2;
            least_low = (least_iff job.least).0 (eqb-true (first_zero job.least) 0 (not-false (eqb (first_zero job.least) 0) h.1.1.1.1.0));
          }

      back : Passed job → AllPass (job_checks job)
      back passed = (
        rw ((between-true_iff 2 5 job.d).1 (subst (λ (n : ℕ). (2 ≤ n) × (n ≤ 5)) passed.extents_many (passed.range.d_low, passed.range.d_high))),
        (
          rw ((between-true_iff 1 4096 job.p).1 (passed.range.p_low, passed.range.p_high)),
          (
            rw (
              eq-eqb (length job.extents) job.d passed.extents_many,
              eq-eqb (length job.weights) job.d passed.weights_many,
              eq-eqb (length job.least) job.d passed.least_many,
            ),
            (
              rw (eq-eqb (first_outside job.extents) 0 ((extents_iff job.extents).1 (λ k l. (passed.range.extent_low k l, passed.range.extent_high k l)))),
              (rw (eq-eqb (first_zero job.least) 0 ((least_iff job.least).1 passed.least_low)), tt),
            ),
          ),
        ),
      )

  -- a job that passes is answered by the cheapest cuts
  pub plan_of_passed : Passed job → plan_answer job ≡ plan_with job (cheapest_for job)
  unfolding plan_answer
  plan_of_passed passed = checked_passed (job_checks job) (plan_with job (cheapest_for job)) (job_passes_iff.1 passed)

  -- "Refusal 5 is for the jobs with no even, fitting cuts and for those only."
  pub refused-five_iff : Passed job → (plan_answer job ≡ refused 5 0) ↔ ((cuts : List ℕ) → Fits job.extents job.least cuts → Even job.p cuts → ⊥)
  unfolding plan_with
  refused-five_iff passed = (there, back)
    where
      there : plan_answer job ≡ refused 5 0 → (cuts : List ℕ) → Fits job.extents job.least cuts → Even job.p cuts → ⊥
      there e cuts fits even = go (cheapest_for job) refl (sym (plan_of_passed passed) ∙ e)
        where
          go : (o : Option (List ℕ)) → cheapest_for job ≡ o → plan_with job o ≡ refused 5 0 → ⊥
          go none f e = none-chosen job passed cuts f fits even
          go (some u) f e = let clash : ◌≡◌ {A = ℕ} 0 1 = cc in omega arith

      back : ((cuts : List ℕ) → Fits job.extents job.least cuts → Even job.p cuts → ⊥) → plan_answer job ≡ refused 5 0
      back h = plan_of_passed passed ∙ go (cheapest_for job) refl
        where
          go : (o : Option (List ℕ)) → cheapest_for job ≡ o → plan_with job o ≡ refused 5 0
          go none f = refl
          go (some u) f = absurd (h u (chosen_fits job passed u f) (chosen_even job passed u f))

  -- a job that passes is answered with a plan or refused with 5
  pub accepted_or-five : Passed job → ((plan : Layout) × (plan_answer job ≡ answered plan)) ⊎ (plan_answer job ≡ refused 5 0)
  unfolding plan_with
  accepted_or-five passed = go (cheapest_for job) (plan_of_passed passed)
    where
      go : (o : Option (List ℕ)) → plan_answer job ≡ plan_with job o → ((plan : Layout) × (plan_answer job ≡ answered plan)) ⊎ (plan_answer job ≡ refused 5 0)
      go none e = inr e
      go (some cuts) e = inl (layout_with job cuts, e)

  -- a job that is refused with 5 passes
  pub passed_of-five : (place : ℕ) → plan_answer job ≡ refused 5 place → Passed job
  unfolding plan_answer
  passed_of-five place e =
      job_passes_iff.0
      (checked_refused_behind (job_checks job) (plan_with job (cheapest_for job)) 5 place
      ((λ q. omega arith), ((λ q. omega arith), ((λ q. omega arith), ((λ q. omega arith), ((λ q. omega arith), tt))))) e).0

  -- a refusal has a number from 1 on, and one of two digits; its place is 0 or that of an extent or a thickness
  pub plan_small : (most : ℕ) → first_outside job.extents ≤ most → first_zero job.least ≤ most → Small most (plan_answer job)
  unfolding plan_answer plan_with
  plan_small most extent thickness =
      checked_small most (job_checks job) (plan_with job (cheapest_for job)) (
        (omega arith, omega arith, omega arith),
        (
          (omega arith, omega arith, omega arith),
          ((omega arith, omega arith, omega arith), ((omega arith, omega arith, extent), ((omega arith, omega arith, thickness), tt))),
        ),
      )
      (go (cheapest_for job))
    where
      go : (o : Option (List ℕ)) → Small most (plan_with job o)
      go none = (omega arith, omega arith, omega arith)
      go (some cuts) = tt

  module _ (plan : Layout) where
    pub plan_answered : plan_answer job ≡ answered plan → PlanFor job plan
    unfolding plan_answer plan_with
    plan_answered e =
        let asked = (checked_answered (job_checks job) (plan_with job (cheapest_for job)) plan).0 e in
        let made = chosen (cheapest_for job) refl asked.1 in
        record { passed = job_passes_iff.0 asked.0; cuts_are = made.0; plan_is = made.1 }
      where
        chosen : (o : Option (List ℕ)) → cheapest_for job ≡ o → plan_with job o ≡ answered plan
            → (cheapest_for job ≡ some plan.cuts) × (plan ≡ layout_with job plan.cuts)
        chosen none f e = let clash : ◌≡◌ {A = ℕ} 0 1 = cc in absurd (omega arith)
        chosen (some cuts) f e =
            let is : plan ≡ layout_with job cuts = cc in
            let cuts-is : cuts ≡ plan.cuts = sym (ap (λ (l : Layout). l.cuts) is) in
            (f ∙ ap some cuts-is, is ∙ ap (layout_with job) cuts-is)

    -- a plan that is answered is in shape
    pub plan_in_shape : plan_answer job ≡ answered plan → in_shape plan ≡ true
    plan_in_shape e =
        let made = plan_answered e in
        subst⁻¹ (λ (l : Layout). in_shape l ≡ true) made.plan_is (layout-in_shape job plan.cuts made.passed made.cuts_are)

-- ---- thicknesses

-- "refusal 3 covers a thickness list that is neither empty nor d long"
pub least_many_iff : (d : ℕ) (given : List ℕ) → (length (least_of d given) ≡ d) ↔ ((length given ≡ 0) ⊎ (length given ≡ d))
least_many_iff d [] = ((λ e. inl refl), λ h. length-replicate {A = ℕ} d 1)
least_many_iff d (t ∷ given) = (inr, ⊎_elim (λ e. absurd (omega arith)) (λ e. e))

-- "1 where none is given": an empty list and a list of ones make the same job
pub job_of-ones : (p d : ℕ) (extents weights : List ℕ) → job_with p d extents weights (replicate d 1) ≡ job_with p d extents weights []
job_of-ones p zero extents weights = refl
job_of-ones p (suc d) extents weights = refl

-- and so get the same plan
pub plan_of-ones : (p d : ℕ) (extents weights : List ℕ) → plan_answer (job_with p d extents weights (replicate d 1)) ≡ plan_answer (job_with p d extents weights [])
plan_of-ones p d extents weights = ap plan_answer (job_of-ones p d extents weights)
