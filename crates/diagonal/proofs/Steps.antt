-- The lines of the table that turn a job down, in the order of the call: 1 and 2, then 12, then 3, 4 and 13, then 5.
use mathlib.Core.Path.{◌≡◌, refl, sym, ap, ap₂, ◌∙◌}
use mathlib.Core.Bool.{Bool, true, false, not}
use mathlib.Core.List.{[], ◌∷◌, ◌++◌}
use Prim.Native.Nat.{ℕ, ◌≤◌}
use native.Mathlib.Omega.{arith}
use lib.ListN.{length}
use Rattle.std.specs.Prelude.{Option, None, Some, Result, Ok, Err}
use Rattle.std.specs.Option.{ok_or}
use Rattle.multipartition.specs.Answers.{Answer, answered, refused, Check, checked}
use Rattle.multipartition.specs.Plans.{Job}
use Rattle.multipartition.specs.Jobs.{suits_check}
use Rattle.multipartition.proofs.Tests.{by_cond}
use Rattle.refusals.specs.declared.Refusal.{Refusal}
use Rattle.refusals.specs.declared.Refusal.TheVariants.{Unsuited}
use Rattle.refusals.specs.Told.{turned_back, told}
use Rattle.refusals.proofs.Laws.{answered-ne-refused, answered-is, refused-as, turned_back-on, passed-on}
use Rattle.layout.specs.declared.Plan.{Plan}
use Rattle.layout.specs.Plans.{plan_of}
use Rattle.planner.specs.Asked.{Measured}
use Rattle.planner.specs.Planned.{planned_answer, size_checks, list_checks, lists_answer}
use Rattle.planner.proofs.Checks.{sizes_passed, planned-checked}
use Rattle.diagonal.proofs.Sides.{suits_facts, side_low}
use Rattle.diagonal.specs.Diagonal.{diagonal_plan, side_of, suits, suited_side, side_fits, diagonal_checks, diagonal_answer}

-- ---- what the side tells, with refusal 12 where there is none

abbrev pub Sided : ℕ → ℕ → Result ℕ Refusal → Type 0
Sided d p r = r ≡ ok_or (suited_side d p) Unsuited

pub no_side : (d p : ℕ) (r : Refusal) → Sided d p (Err r) → (suits d p ≡ false) × ◌≡◌ {A = Answer Plan} (turned_back r) (refused 12 0)
no_side d p r =
    by_cond (λ (m : Option ℕ). ◌≡◌ {A = Result ℕ Refusal} (Err r) (ok_or m Unsuited) → (suits d p ≡ false) × ◌≡◌ {A = Answer Plan} (turned_back r) (refused 12 0))
    (suits d p) (Some (side_of d p)) None
    (λ e h. absurd (answered-ne-refused (sym (ap told h)))) (λ e h. (e, refused-as (ap told h)))

pub some_side : (d p s : ℕ) → Sided d p (Ok s) → (suits d p ≡ true) × (s ≡ side_of d p)
some_side d p s =
    by_cond (λ (m : Option ℕ). ◌≡◌ {A = Result ℕ Refusal} (Ok s) (ok_or m Unsuited) → (suits d p ≡ true) × (s ≡ side_of d p))
    (suits d p) (Some (side_of d p)) None
    (λ e h. (e, answered-is (ap told h))) (λ e h. absurd (answered-ne-refused (ap told h)))

-- ---- the lines one after the other

module _ (job : Job) where
  abbrev end : Answer Plan
  end = answered (plan_of (diagonal_plan job (side_of job.d job.p)))

  abbrev fit : Check
  fit = record { fails = not (side_fits (side_of job.d job.p) job.extents job.least); number = 5; place = 0 }

  is : planned_answer (diagonal_answer job) ≡ checked (diagonal_checks job) end
  unfolding diagonal_answer
  is = planned-checked (diagonal_checks job) (answered (diagonal_plan job (side_of job.d job.p)))

  pub sizes_refuse : {m k : ℕ} → refused m k ≡ checked (size_checks job) (answered (tt {0})) → refused m k ≡ planned_answer (diagonal_answer job)
  sizes_refuse e =
      turned_back-on (size_checks job) (suits_check (suits job.d job.p) ∷ list_checks job ++ (fit ∷ [])) tt end e ∙ sym is

  module _ (sizes : answered (tt {0}) ≡ checked (size_checks job) (answered (tt {0}))) where
    on : checked (diagonal_checks job) end ≡ checked (suits_check (suits job.d job.p) ∷ list_checks job ++ (fit ∷ [])) end
    on = (passed-on (size_checks job) (suits_check (suits job.d job.p) ∷ list_checks job ++ (fit ∷ [])) tt tt end sizes).1

    pub suits_refuse : suits job.d job.p ≡ false → refused 12 0 ≡ planned_answer (diagonal_answer job)
    suits_refuse e = sym (is ∙ on ∙ rw e refl)

    module _ (suit : suits job.d job.p ≡ true) where
      past : planned_answer (diagonal_answer job) ≡ checked (list_checks job ++ (fit ∷ [])) end
      past = is ∙ on ∙ rw suit refl

      pub lists_refuse : {m k : ℕ} → refused m k ≡ lists_answer job → refused m k ≡ planned_answer (diagonal_answer job)
      lists_refuse e = turned_back-on (list_checks job) (fit ∷ []) job end e ∙ sym past

      module _ (passed : Job) (lists : answered passed ≡ lists_answer job) where
        pub is_asked : passed ≡ job
        is_asked = (passed-on (list_checks job) (fit ∷ []) job passed end lists).0

        last : planned_answer (diagonal_answer job) ≡ checked (fit ∷ []) end
        last = past ∙ (passed-on (list_checks job) (fit ∷ []) job passed end lists).1

        -- the job has as many extents as dimensions, and as many thicknesses
        module _ (holds : Measured passed) where
          pub extents_many : length job.extents ≡ job.d
          extents_many = ap (λ (j : Job). length j.extents) (sym is_asked) ∙ holds.extents_many ∙ ap (λ (j : Job). j.d) is_asked

          pub least_many : length job.least ≡ job.d
          least_many = ap (λ (j : Job). length j.least) (sym is_asked) ∙ holds.least_many ∙ ap (λ (j : Job). j.d) is_asked

        -- s cuts each way, of the job that passed
        module _ (s : ℕ) (s_is : s ≡ side_of job.d job.p) where
          pub bounds : (passed.d ≤ 3) × (1 ≤ s) × (s ≤ 4096)
          bounds =
              let suited = (suits_facts job.d job.p).0 suit in
              let d : passed.d ≡ job.d = ap (λ (j : Job). j.d) is_asked in
              let high = sizes_passed job sizes in
              let low = side_low job.d job.p in
              (omega (arith, suited.high), omega (arith, s_is), omega (arith, s_is, suited.side_high, high.3))

          module _ (r : Bool) (tested : r ≡ side_fits s job.extents job.least) where
            fit_is : side_fits (side_of job.d job.p) job.extents job.least ≡ r
            fit_is = ap (λ t. side_fits t job.extents job.least) (sym s_is) ∙ sym tested

            pub fit_refuses : r ≡ false → refused 5 0 ≡ planned_answer (diagonal_answer job)
            fit_refuses e = sym (last ∙ rw (fit_is, e) refl)

            pub answers : r ≡ true → (plan : Plan) → plan ≡ plan_of (diagonal_plan passed s) → answered plan ≡ planned_answer (diagonal_answer job)
            answers e plan made =
                ap answered (made ∙ ap₂ (λ (j : Job) t. plan_of (diagonal_plan j t)) is_asked s_is) ∙ sym (last ∙ rw (fit_is, e) refl)
