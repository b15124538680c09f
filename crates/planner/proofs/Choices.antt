-- From the cuts that the search finds to the planner's answer.
use mathlib.Core.Path.{◌≡◌, refl, sym, ap, ◌∙◌}
use mathlib.Core.List.{List, ◌++◌}
use mathlib.Core.Option.{Option, none, some}
use Prim.Native.Nat.{ℕ, ◌-◌, ◌≤◌}
use native.Mathlib.Omega.{arith}
use lib.ListN.{length, take, replicate, length-append, length-replicate}
use lib.Seq.{take_at}
use Rattle.std.specs.Prelude.{Result, Ok, Err}
use Rattle.std.specs.Option.{ok_or}
use Rattle.multipartition.specs.Answers.{answered}
use Rattle.multipartition.specs.Cuts.{cost_of, most_of}
use Rattle.multipartition.specs.Plans.{Job, layout_with}
use Rattle.multipartition.specs.Jobs.{cheapest_for, plan_with}
use Rattle.multipartition.proofs.Cheapest.{cheapest_within_lem}
use Rattle.multipartition.proofs.Fitting.{within-length}
use Rattle.refusals.specs.declared.Refusal.{Refusal}
use Rattle.refusals.specs.declared.Refusal.TheVariants.{NoCuts}
use Rattle.refusals.specs.Told.{turned_back, told}
use Rattle.refusals.proofs.Laws.{answered-ne-refused, answered-is, refused-as}
use Rattle.layout.specs.declared.Plan.{Plan}
use Rattle.layout.specs.Plans.{five, plan_of}
use Rattle.cuts.specs.declared.Found.{Found}
use Rattle.cuts.specs.Found.{found_of}
use Rattle.matrix.proofs.Padding.{at-padded, is_five_lem}
use Rattle.planner.specs.Asked.{Measured}
use Rattle.planner.proofs.Slabs.{bounds-length}
use Rattle.planner.specs.Planned.{planned_answer}

-- zeros up to five places
padded-is_five : (u : List ℕ) → length u ≤ 5 → u ++ replicate (5 - length u) 0 ≡ five u
padded-is_five u l =
    is_five_lem (u ++ replicate (5 - length u) 0) u
    (omega (arith, length-append u (replicate (5 - length u) 0), length-replicate {A = ℕ} (5 - length u) 0))
    (λ k h. at-padded u (5 - length u) k)

module _ (job : Job) where
  -- what the search told
  abbrev pub Told : Result Found Refusal → Type 0
  Told r = r ≡ ok_or (found_of job.weights (cheapest_for job)) NoCuts

  -- no cuts
  pub refused-5 : (e : Refusal) → Told (Err e) → turned_back e ≡ planned_answer (plan_with job (cheapest_for job))
  unfolding plan_with
  refused-5 e = go (cheapest_for job)
    where
      go : (o : Option (List ℕ)) → ◌≡◌ {A = Result Found Refusal} (Err e) (ok_or (found_of job.weights o) NoCuts) → turned_back e ≡ planned_answer (plan_with job o)
      go none h = refused-as (ap told h)
      go (some u) h = absurd (answered-ne-refused (sym (ap told h)))

  -- the cuts of d dimensions, with zeros after them
  pub record Cut (found : Found) : Type 0 where
    pub chosen : cheapest_for job ≡ some (take job.d found.cuts)
    pub zeros : found.cuts ≡ five (take job.d found.cuts)
    pub summed : found.cost ≡ cost_of job.weights (take job.d found.cuts)

  pub cut : Measured job → (found : Found) → Told (Ok found) → Cut found
  cut measured found = go (cheapest_for job) refl
    where
      go : (o : Option (List ℕ)) → cheapest_for job ≡ o → ◌≡◌ {A = Result Found Refusal} (Ok found) (ok_or (found_of job.weights o) NoCuts) → Cut found
      go none e h = absurd (answered-ne-refused (ap told h))
      go (some u) e h = record {
        chosen = e ∙ ap some (sym front);
        zeros = ap (λ (f : Found). f.cuts) is ∙ padded-is_five u (omega (arith, many, measured.d_high)) ∙ ap five (sym front);
        summed = ap (λ (f : Found). f.cost) is ∙ ap (cost_of job.weights) (sym front);
      }
        where
          is : found ≡ record { cost = cost_of job.weights u; cuts = u ++ replicate (5 - length u) 0 }
          is = answered-is (ap told h)

          many : length u ≡ job.d
          many =
              within-length (most_of job.extents job.least) u (cheapest_within_lem job.p (most_of job.extents job.least) job.weights u e)
              ∙ bounds-length job measured

          front : take job.d found.cuts ≡ u
          front = ap (λ (f : Found). take job.d f.cuts) is ∙ take_at u (replicate (5 - length u) 0) job.d many

  -- the answer with them
  pub answered_with : (u : List ℕ) (plan : Plan) → cheapest_for job ≡ some u → plan ≡ plan_of (layout_with job u)
      → answered plan ≡ planned_answer (plan_with job (cheapest_for job))
  unfolding plan_with
  answered_with u plan e f = ap answered f ∙ sym (ap (λ (o : Option (List ℕ)). planned_answer (plan_with job o)) e)
