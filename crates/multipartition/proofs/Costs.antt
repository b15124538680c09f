-- Request a of document 02: a lone processor costs nothing, and the cuts chosen for a job are those that the former cost chooses by the same order.
use mathlib.Core.Path.{◌≡◌, refl, sym, ◌∙◌, ap, subst, subst⁻¹}
use mathlib.Core.Logic.{◌↔◌}
use mathlib.Core.List.{List, [], ◌∷◌}
use mathlib.Core.Option.{Option, none, some}
use Prim.Native.Nat.{ℕ, zero, suc, ◌+◌, ◌-◌, ◌*◌, ◌∣◌, ◌≤◌, ◌<◌}
use native.Mathlib.Nat.{not-suc-le-zero, zero-lt-suc, le_refl, one-dvd, mul_comm, suc-mul}
use native.Mathlib.Omega.{arith}
use lib.ListN.{length, get_or}
use Rattle.numbers.specs.Products.{product, without}
use Rattle.multipartition.specs.Answers.{answered}
use Rattle.multipartition.specs.Cuts.{Even, Within, Fits, cut_cost, cost_of, Precedes}
use Rattle.multipartition.specs.Plans.{Job, Layout, layout_with}
use Rattle.multipartition.specs.Jobs.{Passed, cheapest_for, plan_with, plan_answer}
use Rattle.multipartition.proofs.Order.{PrecedesBy, precedes_iff_shifted}
use Rattle.multipartition.proofs.Fitting.{fits-length, fits_positive, fits-thickness, le-mul_of_pos}
use Rattle.multipartition.proofs.Cheapest.{Cheapest, cheapest_law, cheapest-le}
use Rattle.multipartition.proofs.Chosen.{most_for, chosen_is, fits_iff, none-chosen, chosen_fits}
use Rattle.multipartition.proofs.Minimal.{positive-at}
use Rattle.multipartition.proofs.Jobs.{plan_of_passed, plan_answered}

-- ---- a lone processor

-- one slab in each of as many dimensions
abbrev uncut : List ℕ → List ℕ
uncut [] = []
uncut (b ∷ cuts) = 1 ∷ uncut cuts

uncut_free : (weights cuts : List ℕ) → cost_of weights (uncut cuts) ≡ 0
unfolding cut_cost
uncut_free [] cuts = refl
uncut_free (w ∷ weights) [] = refl
uncut_free (w ∷ weights) (b ∷ cuts) = let later = uncut_free weights cuts in omega arith

even_of-lone : (p : ℕ) (cuts : List ℕ) → p ≡ 1 → Even p cuts
even_of-lone p cuts lone k l = subst⁻¹ (λ (n : ℕ). n ∣ product (without k cuts)) lone (one-dvd (product (without k cuts)))

-- the uncut grid fits if no least thickness is above its extent
uncut_fits : (extents least : List ℕ) → length least ≡ length extents → ((k : ℕ) → k < length extents → get_or least k 0 ≤ get_or extents k 0)
    → Fits extents least (uncut extents)
uncut_fits [] [] e h = tt
uncut_fits [] (t ∷ least) e h = absurd (omega arith)
uncut_fits (n ∷ extents) [] e h = absurd (omega arith)
uncut_fits (n ∷ extents) (t ∷ least) e h =
    let here : t ≤ n = h 0 (zero-lt-suc (length extents)) in
    (le_refl 1, omega arith, uncut_fits extents least (omega arith) (λ k l. h (suc k) (omega arith)))

-- A job in range for a lone processor is accepted just if no least thickness is above its extent.
pub lone_accepted_iff : (job : Job) → Passed job → job.p ≡ 1
    → ((plan : Layout) × (plan_answer job ≡ answered plan)) ↔ ((k : ℕ) → k < length job.extents → get_or job.least k 0 ≤ get_or job.extents k 0)
unfolding plan_with
lone_accepted_iff job passed lone = (there, back (cheapest_for job) refl)
  where
    there : (plan : Layout) × (plan_answer job ≡ answered plan) → (k : ℕ) → k < length job.extents → get_or job.least k 0 ≤ get_or job.extents k 0
    there (plan, e) k l =
        let made = plan_answered job plan e in
        let fits = chosen_fits job passed plan.cuts made.cuts_are in
        let here : k < length plan.cuts = subst⁻¹ (λ (n : ℕ). k < n) (fits-length job.extents job.least plan.cuts fits) l in
        let cut = positive-at plan.cuts (fits_positive job.extents job.least plan.cuts fits) k here in
        le-mul_of_pos (get_or job.least k 0) (get_or plan.cuts k 0) (get_or job.extents k 0) cut
        (subst (λ (n : ℕ). n ≤ get_or job.extents k 0) (mul_comm (get_or plan.cuts k 0) (get_or job.least k 0))
        (fits-thickness job.extents job.least plan.cuts fits k here))

    back : (o : Option (List ℕ)) → cheapest_for job ≡ o → ((k : ℕ) → k < length job.extents → get_or job.least k 0 ≤ get_or job.extents k 0)
        → (plan : Layout) × (plan_answer job ≡ answered plan)
    back none e h =
        absurd (none-chosen job passed (uncut job.extents) e (uncut_fits job.extents job.least (passed.least_many ∙ sym passed.extents_many) h)
        (even_of-lone job.p (uncut job.extents) lone))
    back (some cuts) e h = (layout_with job cuts, plan_of_passed job passed ∙ ap (plan_with job) e)

-- "A lone processor should cost nothing."
pub lone_costs_nothing : (job : Job) (plan : Layout) → job.p ≡ 1 → plan_answer job ≡ answered plan → plan.cost ≡ 0
lone_costs_nothing job plan lone e =
    let made = plan_answered job plan e in
    let passed = made.passed in
    let whole = uncut_fits job.extents job.least (passed.least_many ∙ sym passed.extents_many) ((lone_accepted_iff job passed lone).0 (plan, e)) in
    let low = cheapest-le job.p (most_for job) job.weights plan.cuts (uncut job.extents) (sym (chosen_is job) ∙ made.cuts_are)
    ((fits_iff job passed (uncut job.extents)).0 whole) (even_of-lone job.p (uncut job.extents) lone) in
    let free = uncut_free job.weights job.extents in
    ap (λ (l : Layout). l.cost) made.plan_is ∙ omega (arith, low, free)

-- ---- the former cost

-- document 01: "The cost is b1·w1 + ... + bd·wd."
abbrev pub former_cost : List ℕ → List ℕ → ℕ
former_cost [] cuts = 0
former_cost (w ∷ weights) [] = 0
former_cost (w ∷ weights) (b ∷ cuts) = b * w + former_cost weights cuts

-- the sum of the weights, one for each number of another list: of all weights, where there are as many
abbrev pub weights_over : List ℕ → List ℕ → ℕ
weights_over [] weights = 0
weights_over (n ∷ others) [] = 0
weights_over (n ∷ others) (w ∷ weights) = w + weights_over others weights

-- "the sum drops by the same amount for all of them"
pub cost_drops : (most weights cuts : List ℕ) → Within most cuts → former_cost weights cuts ≡ cost_of weights cuts + weights_over most weights
unfolding cut_cost
cost_drops [] [] [] f = refl
cost_drops [] (w ∷ weights) [] f = refl
cost_drops [] weights (b ∷ cuts) f = absurd f
cost_drops (n ∷ most) weights [] f = absurd f
cost_drops (n ∷ most) [] (b ∷ cuts) f = refl
cost_drops (n ∷ most) (w ∷ weights) (zero ∷ cuts) f = absurd (not-suc-le-zero f.0)
cost_drops (n ∷ most) (w ∷ weights) (suc b ∷ cuts) f =
    let later = cost_drops most weights cuts f.2 in
    let less_one : suc b - 1 ≡ b = omega arith in
    let here : suc b * w ≡ (suc b - 1) * w + w = suc-mul b w ∙ ap (λ (k : ℕ). k * w + w) (sym less_one) in
    omega arith

-- ---- the cuts chosen by the former cost

module _ (job : Job) (passed : Passed job) where
  -- What the former cost chooses: even, fitting cuts that precede all others by it, tiles and first cuts deciding among equals as they do now; or
  -- nothing, where no fitting cuts are even.
  abbrev pub FormerlyChosen : Option (List ℕ) → Type 0
  FormerlyChosen none = (v : List ℕ) → Fits job.extents job.least v → Even job.p v → ⊥
  FormerlyChosen (some u) =
      Fits job.extents job.least u × Even job.p u × ((v : List ℕ) → Fits job.extents job.least v → Even job.p v → PrecedesBy (former_cost job.weights) u v)

  precedes_iff_formerly : (u v : List ℕ) → Fits job.extents job.least u → Fits job.extents job.least v → Precedes job.weights u v ↔ PrecedesBy (former_cost job.weights) u v
  precedes_iff_formerly u v f g =
      precedes_iff_shifted (former_cost job.weights) job.weights u v (weights_over (most_for job) job.weights)
      (cost_drops (most_for job) job.weights u ((fits_iff job passed u).0 f)) (cost_drops (most_for job) job.weights v ((fits_iff job passed v).0 g))

  -- "The chosen cuts don't move": the same cuts are chosen by both costs.
  pub cuts_unmoved : (o : Option (List ℕ)) → (cheapest_for job ≡ o) ↔ FormerlyChosen o
  cuts_unmoved o = (
    (λ e. there o ((cheapest_law job.p (most_for job) job.weights o).0 (sym (chosen_is job) ∙ e))),
    λ h. chosen_is job ∙ (cheapest_law job.p (most_for job) job.weights o).1 (back o h),
  )
    where
      fits : (v : List ℕ) → Within (most_for job) v → Fits job.extents job.least v
      fits v = (fits_iff job passed v).1

      within : (v : List ℕ) → Fits job.extents job.least v → Within (most_for job) v
      within v = (fits_iff job passed v).0

      there : (o : Option (List ℕ)) → Cheapest job.p (most_for job) job.weights o → FormerlyChosen o
      there none h = λ v f even. h v (within v f) even
      there (some u) h = (fits u h.0, h.1, λ v f even. (precedes_iff_formerly u v (fits u h.0) f).0 (h.2 v (within v f) even))

      back : (o : Option (List ℕ)) → FormerlyChosen o → Cheapest job.p (most_for job) job.weights o
      back none h = λ v f even. h v (fits v f) even
      back (some u) h = (within u h.0, h.1, λ v f even. (precedes_iff_formerly u v h.0 (fits v f)).1 (h.2 v (fits v f) even))
