-- The lines of the table that turn a job down, one after the other, and what a job that passes them is.
use mathlib.Core.Path.{◌≡◌, refl, sym, ◌∙◌}
use mathlib.Core.Bool.{Bool, true, false, cond}
use mathlib.Core.List.{List, [], ◌∷◌}
use Prim.Native.Nat.{ℕ, ◌≤◌}
use native.Mathlib.Omega.{arith}
use borrow.Author.Tests.{eqb-true, not-false}
use lib.Dec.{eqb}
use lib.ListN.{length}
use Rattle.multipartition.specs.Answers.{Answer, answered, refused, Check, checked}
use Rattle.multipartition.specs.Plans.{Job, Layout, between}
use Rattle.multipartition.specs.Jobs.{Passed, first_zero, lengths_check, extents_check, least_check}
use Rattle.multipartition.proofs.Answers.{checked_answered}
use Rattle.multipartition.proofs.Jobs.{least_iff, lengths_of_check}
use Rattle.multipartition.proofs.Tests.{between-true_iff}
use Rattle.refusals.proofs.Laws.{turned_back-on, passed-on}
use Rattle.planner.specs.Asked.{Measured}
use Rattle.planner.specs.Planned.{planned_answer, size_checks, lists_answer}

-- a line that a call has passed
pub line_passed : (line : Check) → ◌≡◌ {A = Answer (Unit {0})} (answered tt) (checked (line ∷ []) (answered tt)) → line.fails ≡ false
line_passed line e = ((checked_answered (line ∷ []) (answered tt) tt).0 (sym e)).0.0

-- ---- the lines 1 and 2

pub sizes_passed : (job : Job) → ◌≡◌ {A = Answer (Unit {0})} (answered tt) (checked (size_checks job) (answered tt)) → (2 ≤ job.d) × (job.d ≤ 5) × (1 ≤ job.p) × (job.p ≤ 4096)
sizes_passed job e =
    let pass = ((checked_answered (size_checks job) (answered tt) tt).0 (sym e)).0 in
    let d = (between-true_iff 2 5 job.d).0 (not-false (between 2 5 job.d) pass.0) in
    let p = (between-true_iff 1 4096 job.p).0 (not-false (between 1 4096 job.p) pass.1.0) in
    (d.0, d.1, p.0, p.1)

-- ---- the lines 3, 4 and 13

module _ (job : Job) (lengths : ◌≡◌ {A = Answer (Unit {0})} (answered tt) (checked (lengths_check job ∷ []) (answered tt))) where
  pub many : (length job.extents ≡ job.d) × (length job.weights ≡ job.d) × (length job.least ≡ job.d)
  many = lengths_of_check job (line_passed (lengths_check job) lengths)

  past-3 : lists_answer job ≡ checked (extents_check job ∷ least_check job ∷ []) (answered job)
  past-3 = (passed-on (lengths_check job ∷ []) (extents_check job ∷ least_check job ∷ []) tt tt (answered job) lengths).1

  pub refuses_4 : {m k : ℕ} → ◌≡◌ {A = Answer (Unit {0})} (refused m k) (checked (extents_check job ∷ []) (answered tt)) → refused m k ≡ lists_answer job
  refuses_4 e = turned_back-on (extents_check job ∷ []) (least_check job ∷ []) tt (answered job) e ∙ sym past-3

  module _ (extents : ◌≡◌ {A = Answer (Unit {0})} (answered tt) (checked (extents_check job ∷ []) (answered tt))) where
    past-4 : lists_answer job ≡ checked (least_check job ∷ []) (answered job)
    past-4 = past-3 ∙ (passed-on (extents_check job ∷ []) (least_check job ∷ []) tt tt (answered job) extents).1

    pub refuses_13 : {m k : ℕ} → ◌≡◌ {A = Answer (Unit {0})} (refused m k) (checked (least_check job ∷ []) (answered tt)) → refused m k ≡ lists_answer job
    refuses_13 e = turned_back-on (least_check job ∷ []) [] tt (answered job) e ∙ sym past-4

    module _ (least : ◌≡◌ {A = Answer (Unit {0})} (answered tt) (checked (least_check job ∷ []) (answered tt))) where
      pub lists-pass : answered job ≡ lists_answer job
      lists-pass = sym (past-4 ∙ (passed-on (least_check job ∷ []) [] tt tt (answered job) least).1)

-- a job that passes 3 and 13 is measured
pub measured_of : (job : Job) → (2 ≤ job.d) × (job.d ≤ 5) × (1 ≤ job.p) × (job.p ≤ 4096)
    → ◌≡◌ {A = Answer (Unit {0})} (answered tt) (checked (lengths_check job ∷ []) (answered tt))
    → ◌≡◌ {A = Answer (Unit {0})} (answered tt) (checked (least_check job ∷ []) (answered tt)) → Measured job
measured_of job sizes lengths least = record {
  p_low = sizes.2;
  p_high = sizes.3;
  d_low = sizes.0;
  d_high = sizes.1;
  extents_many = (many job lengths).0;
  weights_many = (many job lengths).1;
  least_many = (many job lengths).2;
  least_low =
      (least_iff job.least).0 (eqb-true (first_zero job.least) 0 (not-false (eqb (first_zero job.least) 0) (line_passed (least_check job) least)));
}

pub measured_of-passed : (job : Job) → Passed job → Measured job
measured_of-passed job passed = record {
  p_low = passed.range.p_low;
  p_high = passed.range.p_high;
  d_low = omega (arith, passed.range.d_low, passed.extents_many);
  d_high = omega (arith, passed.range.d_high, passed.extents_many);
  extents_many = passed.extents_many;
  weights_many = passed.weights_many;
  least_many = passed.least_many;
  least_low = passed.least_low;
}

-- ---- an answer with its plan by value, behind checks

pub planned-checked : (cs : List Check) (a : Answer Layout) → planned_answer (checked cs a) ≡ checked cs (planned_answer a)
planned-checked [] a = refl
planned-checked (c ∷ cs) a = go c.fails (planned-checked cs a)
  where
    go : (f : Bool) → planned_answer (checked cs a) ≡ checked cs (planned_answer a)
        → planned_answer (cond f (refused c.number c.place) (checked cs a)) ≡ cond f (refused c.number c.place) (checked cs (planned_answer a))
    go true later = refl
    go false later = later
