-- The smallest refused divisor: what the definition answers, and that it is the first refused entry of the list of divisors. Cuts that are even for a
-- number are even for its divisors, so that every multiple of a refused divisor is refused.
use mathlib.Core.Path.{◌≡◌, refl, sym, ap, ◌∙◌, subst}
use mathlib.Core.Logic.{⊎_elim, ◌↔◌, ◌≢◌}
use mathlib.Core.Bool.{Bool, true, false, not}
use mathlib.Core.List.{List}
use mathlib.Core.Option.{Option, none, some, some-injective}
use Prim.Native.Nat.{ℕ, ◌+◌, ◌-◌, ◌%◌, ◌≤◌, ◌<◌, ◌∣◌}
use native.Mathlib.Nat.{le_of_dvd, pos_of_dvd_of_pos, dvd_of_mod-eq-zero, mod-eq-zero_of_dvd, dvd_trans, dvd_refl, eq-or-lt_of_le}
use native.Mathlib.Decide.{dec_lt}
use native.Mathlib.Omega.{arith}
use borrow.Author.Tests.{eq-eqb, ne_eqb, eqb-true}
use lib.Dec.{eqb}
use lib.ListN.{length, get_or, take}
use lib.Seq.{length-take-le, get_or-take}
use Rattle.numbers.specs.Divisors.{divisors_of, divisors_answer}
use Rattle.numbers.proofs.Divisors.{dvd_of_entry, entry_pos, entry-le, entry_of-dvd, divisors-rising, divisors_answer_inside}
use Rattle.multipartition.specs.Answers.{Answer, answered, refused}
use Rattle.multipartition.specs.Plans.{Job, Layout}
use Rattle.multipartition.specs.Jobs.{Passed, cheapest_for, plan_with, plan_answer}
use Rattle.multipartition.proofs.Answers.{answered_injective}
use Rattle.multipartition.proofs.Jobs.{plan_of_passed, refused-five_iff, accepted_or-five, passed_of-five}
use Rattle.multipartition.proofs.Searches.{first_such_passes, first_such_below, first_such-le, first_such_is}
use Rattle.multipartition.proofs.Tests.{false-not-true, and_iff, by_cond}
use Rattle.std.specs.Option.{is_some}
use Rattle.cuts.specs.Found.{found_of}
use Rattle.refused_share.specs.Shares.{job_for, is_five, is_refused_divisor, smallest_refused, share_of, share_answer, Smallest}

-- ---- refused with 5

pub five_iff : (job : Job) → (is_five (plan_answer job) ≡ true) ↔ (plan_answer job ≡ refused 5 0)
unfolding is_five
five_iff job = (there (plan_answer job) refl, λ e. ap is_five e)
  where
    there : (a : Answer Layout) → plan_answer job ≡ a → is_five a ≡ true → plan_answer job ≡ refused 5 0
    there (answered plan) e t = absurd (false-not-true t)
    there (refused number place) e t =
        let five : plan_answer job ≡ refused 5 place = e ∙ ap (λ (n : ℕ). refused n place) (eqb-true number 5 t) in
        ⊎_elim (λ h. let clash : ◌≡◌ {A = ℕ} 0 1 = cc in absurd (omega arith)) (λ h. h) (accepted_or-five job (passed_of-five job place five))

-- a job that passes the checks is refused with 5 just if no cuts are chosen
pub five_test : (job : Job) → Passed job → not (is_some (found_of job.weights (cheapest_for job))) ≡ is_five (plan_answer job)
unfolding is_five plan_with
five_test job passed = go (cheapest_for job) ∙ sym (ap is_five (plan_of_passed job passed))
  where
    go : (o : Option (List ℕ)) → not (is_some (found_of job.weights o)) ≡ is_five (plan_with job o)
    go none = refl
    go (some cuts) = refl

-- ---- the same job for the divisors of p

module _ (job : Job) (passed : Passed job) where
  passed_for : (x : ℕ) → x ∣ job.p → Passed (job_for x job)
  passed_for x d =
      let range = passed.range in
      record {
        range = record {
          p_low = pos_of_dvd_of_pos d range.p_low;
          p_high = omega (arith, le_of_dvd range.p_low d, range.p_high);
          d_low = range.d_low;
          d_high = range.d_high;
          extent_low = range.extent_low;
          extent_high = range.extent_high;
        };
        extents_many = passed.extents_many;
        weights_many = passed.weights_many;
        least_many = passed.least_many;
        least_low = passed.least_low;
      }

  -- every multiple is refused: its even cuts would be even for x
  five_of-dvd : (x y : ℕ) → x ∣ y → y ∣ job.p → plan_answer (job_for x job) ≡ refused 5 0 → plan_answer (job_for y job) ≡ refused 5 0
  five_of-dvd x y xy yp e =
      (refused-five_iff (job_for y job) (passed_for y yp)).1
      (λ cuts fits even. (refused-five_iff (job_for x job) (passed_for x (dvd_trans x xy yp))).0 e cuts fits (λ k l. dvd_trans x xy (even k l)))

  refused_divisor_iff : (x : ℕ) → (is_refused_divisor job x ≡ true) ↔ ((x ∣ job.p) × (plan_answer (job_for x job) ≡ refused 5 0))
  unfolding is_refused_divisor
  refused_divisor_iff x =
      and_iff (eqb (job.p % x) 0) (is_five (plan_answer (job_for x job)))
      ((λ t. dvd_of_mod-eq-zero x (eqb-true (job.p % x) 0 t)), λ d. eq-eqb (job.p % x) 0 (mod-eq-zero_of_dvd x d))
      (five_iff (job_for x job))

  -- a divisor that is not refused with 5 is accepted
  accepted : (y : ℕ) → y ∣ job.p → is_refused_divisor job y ≡ false → (plan : Layout) × (plan_answer (job_for y job) ≡ answered plan)
  accepted y d f =
      ⊎_elim (λ h. h) (λ e. absurd (false-not-true (sym f ∙ (refused_divisor_iff y).1 (d, e)))) (accepted_or-five (job_for y job) (passed_for y d))

  -- ---- the list of divisors, of which the first k are not refused

  abbrev entry : ℕ → ℕ
  entry i = get_or (divisors_of job.p) i 0

  module _ (k : ℕ) (inside : k < length (divisors_of job.p)) (before : (i : ℕ) → i < k → is_five (plan_answer (job_for (entry i) job)) ≡ false) where
    earlier : (i : ℕ) → i < length (divisors_of job.p) → entry i < entry k → i < k
    earlier i l h = go (dec_lt i k)
      where
        go : Dec (i < k) → i < k
        go (yes q) = q
        go (no q) =
            absurd (⊎_elim (λ (e : k ≡ i). omega (arith, ap entry e)) (λ r. omega (arith, divisors-rising job.p k i r l)) (eq-or-lt_of_le (omega arith)))

    none_below : (x : ℕ) → 1 ≤ x → x < entry k → is_refused_divisor job x ≡ false
    none_below x low high = go (is_refused_divisor job x) refl
      where
        go : (t : Bool) → is_refused_divisor job x ≡ t → t ≡ false
        go true e =
            let found = (refused_divisor_iff x).0 e in
            let (i, l, is) = entry_of-dvd job.p x passed.range.p_low found.0 in
            let five = (five_iff (job_for x job)).1 found.1 in
            sym five ∙ ap (λ (n : ℕ). is_five (plan_answer (job_for n job))) (sym is) ∙ before i (earlier i l (omega (arith, is)))
        go false e = refl

    pub smallest_entry : plan_answer (job_for (entry k) job) ≡ refused 5 0 → smallest_refused job ≡ entry k
    unfolding smallest_refused
    smallest_entry e =
        first_such_is (is_refused_divisor job) 1 job.p (entry k) (entry_pos job.p k inside) (omega (arith, entry-le job.p k inside))
        ((refused_divisor_iff (entry k)).1 (dvd_of_entry job.p k inside, e)) none_below

-- ---- the same by the list that `divisors` returns, of which the last is p

module _ (job : Job) (five : plan_answer job ≡ refused 5 0) (of : List ℕ) (listed : of ≡ divisors_answer job.p) where
  in-range : Passed job
  in-range = passed_of-five job 0 five

  are : of ≡ divisors_of job.p
  are = listed ∙ divisors_answer_inside job.p in-range.range.p_high

  -- p is one of them
  pub listed_some : 1 ≤ length of
  listed_some =
      let (j, inside, is) = entry_of-dvd job.p job.p in-range.range.p_low (dvd_refl job.p) in
      omega (arith, inside, ap length are)

  -- those before the last
  abbrev pub smaller : List ℕ
  smaller = take (length of - 1) of

  count : length smaller + 1 ≡ length (divisors_of job.p)
  count = omega (arith, length-take-le (length of - 1) of (omega arith), listed_some, ap length are)

  at : (i : ℕ) → i < length smaller → get_or smaller i 0 ≡ get_or (divisors_of job.p) i 0
  at i l =
      get_or-take (length of - 1) of i 0 (omega (arith, length-take-le (length of - 1) of (omega arith)))
      ∙ ap (λ (xs : List ℕ). get_or xs i 0) are

  -- each passes the checks
  pub listed_passed : (k : ℕ) → k < length smaller → Passed (job_for (get_or smaller k 0) job)
  listed_passed k l = subst (λ (x : ℕ). Passed (job_for x job)) (sym (at k l)) (passed_for job in-range _ (dvd_of_entry job.p k (omega (arith, count))))

  module _ (k : ℕ) (before : (i : ℕ) → i < k → is_five (plan_answer (job_for (get_or smaller i 0) job)) ≡ false) where
    before_entry : (j : ℕ) → j ≤ k → j ≤ length smaller → (i : ℕ) → i < j → is_five (plan_answer (job_for (get_or (divisors_of job.p) i 0) job)) ≡ false
    before_entry j low high i l = ap (λ (x : ℕ). is_five (plan_answer (job_for x job))) (sym (at i (omega arith))) ∙ before i (omega arith)

    -- the first that is refused
    pub smallest_listed : k < length smaller → is_five (plan_answer (job_for (get_or smaller k 0) job)) ≡ true → get_or smaller k 0 ≡ smallest_refused job
    smallest_listed l t =
        at k l
        ∙ sym (smallest_entry job in-range k (omega (arith, count)) (before_entry k (omega arith) (omega arith))
        ((five_iff (job_for (get_or (divisors_of job.p) k 0) job)).0 (ap (λ (x : ℕ). is_five (plan_answer (job_for x job))) (sym (at k l)) ∙ t)))

    -- p itself, where all are passed over
    pub smallest_last : length smaller ≤ k → job.p ≡ smallest_refused job
    smallest_last l =
        let (j, inside, is) = entry_of-dvd job.p job.p in-range.range.p_low (dvd_refl job.p) in
        sym is
        ∙ sym (smallest_entry job in-range j inside (before_entry j (omega (arith, count)) (omega (arith, count)))
        (ap (λ (x : ℕ). plan_answer (job_for x job)) is ∙ five))

-- ---- what the answer says

module _ (job : Job) where
  pub smallest_of-five : plan_answer job ≡ refused 5 0 → Smallest job (smallest_refused job)
  unfolding smallest_refused
  smallest_of-five e =
      let passed = passed_of-five job 0 e in
      let x = smallest_refused job in
      let itself : is_refused_divisor job job.p ≡ true = (refused_divisor_iff job passed job.p).1 (dvd_refl job.p, e) in
      let high : x ≤ job.p = first_such-le (is_refused_divisor job) 1 job.p job.p passed.range.p_low itself in
      let found = (refused_divisor_iff job passed x).0 (first_such_passes (is_refused_divisor job) 1 job.p (omega arith)) in
      record {
        divides = found.0;
        is_refused = found.1;
        smaller = λ y d l. accepted job passed y d (first_such_below (is_refused_divisor job) 1 job.p y (pos_of_dvd_of_pos d passed.range.p_low) l);
        multiples = λ y d xy. five_of-dvd job passed x y xy d found.1;
      }

  pub shown_of-five : plan_answer job ≡ refused 5 0 → share_answer job ≡ answered (some (smallest_refused job))
  unfolding share_answer share_of
  shown_of-five e = ap (share_of job) e

  five_of_number : (number place : ℕ) → plan_answer job ≡ refused number place → eqb number 5 ≡ true → plan_answer job ≡ refused 5 0
  unfolding is_five
  five_of_number number place e t = (five_iff job).0 (ap is_five e ∙ t)

  -- a divisor is shown for the jobs refused with 5 only, and is the smallest
  pub shown : (x : ℕ) → share_answer job ≡ answered (some x) → (plan_answer job ≡ refused 5 0) × Smallest job x
  unfolding share_answer share_of
  shown x e = go (plan_answer job) refl e
    where
      go : (a : Answer Layout) → plan_answer job ≡ a → share_of job a ≡ answered (some x) → (plan_answer job ≡ refused 5 0) × Smallest job x
      go (answered plan) f = λ h. let clash : ◌≡◌ {A = ℕ} 0 1 = cc in absurd (omega arith)
      go (refused number place) f =
          by_cond (λ (z : Answer (Option ℕ)). z ≡ answered (some x) → (plan_answer job ≡ refused 5 0) × Smallest job x)
          (eqb number 5) (answered (some (smallest_refused job))) (refused number place)
          (λ t h. let five = five_of_number number place f t in (five, subst (Smallest job) (some-injective _ _ (answered_injective _ _ h)) (smallest_of-five five)))
          (λ t h. let clash : ◌≡◌ {A = ℕ} 0 1 = cc in absurd (omega arith))

  pub nothing_iff : (share_answer job ≡ answered none) ↔ ((plan : Layout) × (plan_answer job ≡ answered plan))
  unfolding share_answer share_of
  nothing_iff = (go (plan_answer job) refl, λ h. ap (share_of job) h.1)
    where
      go : (a : Answer Layout) → plan_answer job ≡ a → share_of job a ≡ answered none → (plan : Layout) × (plan_answer job ≡ answered plan)
      go (answered plan) f = λ h. (plan, f)
      go (refused number place) f =
          by_cond (λ (z : Answer (Option ℕ)). z ≡ answered none → (plan : Layout) × (plan_answer job ≡ answered plan))
          (eqb number 5) (answered (some (smallest_refused job))) (refused number place)
          (λ t h. let clash : ◌≡◌ {A = ℕ} 0 1 = cc in absurd (omega arith))
          (λ t h. let clash : ◌≡◌ {A = ℕ} 0 1 = cc in absurd (omega arith))

  -- a job that passes the checks and is not refused with 5
  pub nothing_of_passed : Passed job → is_five (plan_answer job) ≡ false → share_answer job ≡ answered none
  nothing_of_passed passed f =
      nothing_iff.1 (⊎_elim (λ h. h) (λ e. absurd (false-not-true (sym f ∙ (five_iff job).1 e))) (accepted_or-five job passed))

  -- every other refusal comes back, and no other
  pub refused_iff : (number place : ℕ) → (share_answer job ≡ refused number place) ↔ ((plan_answer job ≡ refused number place) × (number ≢ 5))
  unfolding share_answer share_of
  refused_iff number place = (go (plan_answer job) refl, λ h. ap (share_of job) h.0 ∙ rw (ne_eqb number 5 h.1))
    where
      go : (a : Answer Layout) → plan_answer job ≡ a → share_of job a ≡ refused number place → (plan_answer job ≡ refused number place) × (number ≢ 5)
      go (answered plan) f = λ h. let clash : ◌≡◌ {A = ℕ} 0 1 = cc in absurd (omega arith)
      go (refused n k) f =
          by_cond (λ (z : Answer (Option ℕ)). z ≡ refused number place → (plan_answer job ≡ refused number place) × (number ≢ 5))
          (eqb n 5) (answered (some (smallest_refused job))) (refused n k)
          (λ t h. let clash : ◌≡◌ {A = ℕ} 0 1 = cc in absurd (omega arith))
          (λ t h.
          let same : n ≡ number = cc in
          let there : k ≡ place = cc in
          (f ∙ ap (λ (m : ℕ). refused m k) same ∙ ap (λ (m : ℕ). refused number m) there, λ e. false-not-true (sym t ∙ eq-eqb n 5 (same ∙ e))))
