-- A plan in shape that fits, with equal shares and its cost summed, is an even plan, of what the owner and neighbour questions answer about it.
use mathlib.Core.Bool.{Bool, true}
use mathlib.Core.List.{List}
use mathlib.Core.Option.{some}
use mathlib.Core.Path.{◌≡◌, refl, sym, ap, ◌∙◌, subst, subst⁻¹}
use Prim.Native.Nat.{ℕ, ◌+◌, ◌-◌, ◌*◌, ◌/◌, ◌≤◌, ◌<◌}
use native.Mathlib.Omega.{arith}
use lib.ListN.{length, get_or}
use Rattle.numbers.specs.Products.{product}
use Rattle.numbers.specs.Sums.{same}
use Rattle.multipartition.specs.Answers.{answered}
use Rattle.multipartition.specs.Cuts.{Even, Fits, cost_of}
use Rattle.multipartition.specs.Neighbours.{neighbour_at}
use Rattle.multipartition.specs.Plans.{Job, job_of, in_shape}
use Rattle.multipartition.specs.Questions.{owner_by, owner_answer, neighbour_answer}
use Rattle.multipartition.specs.Rivals.{Rival, held, Balanced}
use Rattle.multipartition.specs.Tiles.{Inside, one_step_on}
use Rattle.multipartition.proofs.BothWays.{owner_answered, neighbour_answered, slab_no_thinner}
use Rattle.multipartition.proofs.Fitting.{fits_positive}
use Rattle.multipartition.proofs.GridSums.{total_ext, held_total}
use Rattle.multipartition.proofs.Owners.{owner_below-product, share_exact}
use Rattle.multipartition.proofs.Plans.{in_shape_moduli_positive, in_shape_neighbour_owns, moduli-checked}
use Rattle.multipartition.proofs.Rivals.{even_of_balanced}
use Rattle.multipartition.proofs.Tests.{between-true_iff}
use Rattle.multipartition.proofs.Tiles.{one_step_on_inside}
use Rattle.layout.specs.declared.Plan.{Plan}
use Rattle.layout.specs.Plans.{layout_of}
use Rattle.layout.proofs.Places.{cuts_length}
use Rattle.layout.proofs.Shaped.{shaped as shaped_of}
use Rattle.rivals.specs.Demand3.{cuts_of, processor_in, owner_in, EvenPlan}

-- owners that agree inside the grid hold equally many tiles
pub held-ext : (cuts : List ℕ) (own own' : List ℕ → ℕ) (k s q : ℕ) → ((x : List ℕ) → Inside cuts x → own x ≡ own' x)
    → held cuts own k s q ≡ held cuts own' k s q
held-ext cuts own own' k s q agree =
    held_total cuts own k s q
    ∙ total_ext cuts (λ x w. ap (λ (n : ℕ). same (get_or x k 0) s * same n q) (agree x w))
    ∙ sym (held_total cuts own' k s q)

module _ (job : Job) (plan : Plan) (held_job : job_of (layout_of plan) ≡ job) (shaped : in_shape (layout_of plan) ≡ true) where
  owner_answers : (x : List ℕ) → Inside (cuts_of plan) x → owner_answer (layout_of plan) x ≡ answered (owner_by (layout_of plan) x)
  owner_answers x w = (owner_answered (layout_of plan) x (owner_by (layout_of plan) x)).1 (shaped, w, refl)

  -- the owner that the question names is the definition's
  pub owner_by_lem : (x : List ℕ) → Inside (cuts_of plan) x → owner_in plan x ≡ owner_by (layout_of plan) x
  unfolding owner_in
  owner_by_lem x w = ap processor_in (owner_answers x w)

  p_is : (layout_of plan).p ≡ job.p
  p_is = ap (λ (j : Job). j.p) held_job

  pub owner_is_processor : (x : List ℕ) → Inside (cuts_of plan) x → owner_in plan x < job.p
  owner_is_processor x w =
      subst⁻¹ (λ (n : ℕ). n < job.p) (owner_by_lem x w)
      (subst⁻¹ (λ (n : ℕ). owner_by (layout_of plan) x < n) (sym p_is ∙ sym (moduli-checked (layout_of plan) shaped).1)
      (owner_below-product (layout_of plan).moduli (layout_of plan).matrix x (in_shape_moduli_positive (layout_of plan) shaped)))

  d_is : length (cuts_of plan) ≡ plan.d
  d_is = cuts_length plan (shaped_of plan shaped)

  neighbour_at_lem : (k : ℕ) (up : Bool) (x y : List ℕ) → k < length (cuts_of plan) → Inside (cuts_of plan) x → one_step_on (cuts_of plan) k up x ≡ some y
      → neighbour_at (cuts_of plan) (layout_of plan).moduli (layout_of plan).matrix k up (owner_in plan x) ≡ some (owner_in plan y)
  neighbour_at_lem k up x y l w step =
      ap (neighbour_at (cuts_of plan) (layout_of plan).moduli (layout_of plan).matrix k up) (owner_by_lem x w)
      ∙ in_shape_neighbour_owns (layout_of plan) shaped k up x y l w step
      ∙ ap some (sym (owner_by_lem y (one_step_on_inside (cuts_of plan) x y k up w step)))

  neighbour_is : (k : ℕ) (up : Bool) (x y : List ℕ) → 1 ≤ k → k ≤ plan.d → Inside (cuts_of plan) x → one_step_on (cuts_of plan) (k - 1) up x ≡ some y
      → neighbour_answer (layout_of plan) (owner_in plan x) k up ≡ answered (some (owner_in plan y))
  unfolding layout_of
  neighbour_is k up x y low high w step =
      let q-below : owner_in plan x < (layout_of plan).p = subst⁻¹ (λ (n : ℕ). owner_in plan x < n) p_is (owner_is_processor x w) in
      (neighbour_answered (layout_of plan) (owner_in plan x) k up (some (owner_in plan y))).1
      (shaped, (between-true_iff 1 plan.d k).1 (low, high), q-below, neighbour_at_lem (k - 1) up x y (omega (arith, d_is)) w step)

  one_owner_is : (k : ℕ) (up : Bool) (x y x' y' : List ℕ) → 1 ≤ k → k ≤ plan.d → Inside (cuts_of plan) x → Inside (cuts_of plan) x'
      → one_step_on (cuts_of plan) (k - 1) up x ≡ some y → one_step_on (cuts_of plan) (k - 1) up x' ≡ some y' → owner_in plan x ≡ owner_in plan x'
      → owner_in plan y ≡ owner_in plan y'
  one_owner_is k up x y x' y' low high w w' step step' same-owner =
      let named = neighbour_is k up x y low high w step in
      let named' = neighbour_is k up x' y' low high w' step' in
      cc

  -- as a rival
  abbrev pub rival_of : Fits job.extents job.least (cuts_of plan) → Rival job
  rival_of fits = record { cuts = cuts_of plan; member = fits; owner = owner_in plan; below = owner_is_processor }

  pub even-plan : Fits job.extents job.least (cuts_of plan)
      → ((k s q : ℕ) → k < length (cuts_of plan) → s < get_or (cuts_of plan) k 0 → q < job.p
      → held (cuts_of plan) (owner_by (layout_of plan)) k s q ≡ product (cuts_of plan) / (get_or (cuts_of plan) k 0 * job.p))
      → plan.cost ≡ cost_of job.weights (cuts_of plan) → EvenPlan job plan
  unfolding Balanced
  even-plan fits shares cost = record {
    holds_job = held_job;
    is_in_shape = shaped;
    fits = fits;
    no_thinner = λ k s ends e.
        subst (λ (j : Job). ends.0 + get_or j.least (k - 1) 0 ≤ ends.1) held_job (slab_no_thinner (layout_of plan) k s ends e);
    owner_answered = λ x w. owner_answers x w ∙ ap answered (sym (owner_by_lem x w));
    owner_below = owner_is_processor;
    cuts_even = even_cuts;
    balanced = balanced_are;
    shares = shares_are;
    share_exact = share_exact job.p (cuts_of plan) even_cuts;
    cost_summed = cost;
    one_neighbour = neighbour_is;
    one_owner = one_owner_is;
  }
    where
      shares_are : (k s q : ℕ) → k < length (cuts_of plan) → s < get_or (cuts_of plan) k 0 → q < job.p
          → held (cuts_of plan) (owner_in plan) k s q ≡ product (cuts_of plan) / (get_or (cuts_of plan) k 0 * job.p)
      shares_are k s q l m o = held-ext (cuts_of plan) (owner_in plan) (owner_by (layout_of plan)) k s q owner_by_lem ∙ shares k s q l m o

      balanced_are : Balanced job.p (cuts_of plan) (owner_in plan)
      balanced_are k s l m q r o o' = shares_are k s q l m o ∙ sym (shares_are k s r l m o')

      some_processor : 1 ≤ job.p
      some_processor = subst (λ (n : ℕ). 1 ≤ n) p_is (moduli-checked (layout_of plan) shaped).0

      even_cuts : Even job.p (cuts_of plan)
      even_cuts = even_of_balanced job.p some_processor (fits_positive job.extents job.least) (rival_of fits) balanced_are
