-- Diagonal plans: they are even, and so each is a rival of demand 3, which the planner's plan of the same job does not cost more than.
use mathlib.Core.Bool.{true}
use mathlib.Core.List.{List, [], ◌∷◌}
use mathlib.Core.Path.{◌≡◌, refl, sym, ap, ap₂, ◌∙◌, subst, subst⁻¹}
use Prim.Native.Nat.{ℕ, suc, ◌*◌, ◌/◌, ◌^◌, ◌≤◌, ◌<◌}
use native.Mathlib.Omega.{arith}
use lib.ListN.{length, get_or, length-replicate, get_or-replicate}
use Rattle.numbers.specs.Products.{product}
use Rattle.multipartition.specs.Answers.{Answer, answered, refused}
use Rattle.multipartition.specs.Cuts.{Fits, cost_of}
use Rattle.multipartition.specs.Jobs.{plan_answer}
use Rattle.multipartition.specs.Plans.{Job, Layout, job_of, in_shape}
use Rattle.multipartition.specs.Questions.{owner_by}
use Rattle.multipartition.specs.Rivals.{Rival, held}
use Rattle.multipartition.specs.Tiles.{Inside}
use Rattle.layout.specs.declared.Plan.{Plan}
use Rattle.layout.specs.Plans.{layout_of, plan_of}
use Rattle.layout.proofs.Plans.{layout_of-plan}
use Rattle.refusals.proofs.Laws.{answered-ne-refused, answered-is}
use Rattle.planner.specs.Planned.{planned_answer}
use Rattle.diagonal.specs.Diagonal.{diagonal_cuts, diagonal_moduli, diagonal_matrix, diagonal_owner, diagonal_answer, DiagonalFor}
use Rattle.diagonal.proofs.Answers.{diagonal-suits, diagonal_answered, diagonal_answer-in_shape, diagonal_answer_sized}
use Rattle.diagonal.proofs.Plans.{diagonal_shares, diagonal_owner-2, diagonal_owner-3}
use Rattle.diagonal.proofs.Places.{moduli_of-2, moduli_of-3, matrix_of-2, matrix_of-3}
use Rattle.diagonal.proofs.Sides.{power-one, square, pow_injective, suits_iff}
use Rattle.rivals.specs.Demand3.{cuts_of, owner_in, EvenPlan, Accepted, Demand3}
use Rattle.rivals.specs.DiagonalPlans.{Diagonal, DiagonalPlans}
use Rattle.rivals.proofs.EvenPlans.{owner_by_lem, rival_of, even-plan}
use Rattle.rivals.proofs.Demand3.{demand-3}

-- the shares of s cuts each way, for d = n + 2
module _ (job : Job) (n s : ℕ) (dimensions : job.d ≡ suc (suc n)) (processors : s ^ suc n ≡ job.p) where
  abbrev cuts : List ℕ
  cuts = diagonal_cuts job.d s

  shares : (k v q : ℕ) → k < length cuts → v < get_or cuts k 0 → q < job.p
      → held cuts (diagonal_owner job.d s) k v q ≡ product cuts / (get_or cuts k 0 * job.p)
  shares k v q l m o =
      let here : k < job.d = subst (λ (m : ℕ). k < m) (length-replicate job.d s) l in
      let inside : v < s = subst (λ (b : ℕ). v < b) (get_or-replicate job.d k s 0 here) m in
      subst (λ (p : ℕ). held cuts (diagonal_owner job.d s) k v q ≡ product cuts / (get_or cuts k 0 * p)) processors
      (subst⁻¹ (λ (d : ℕ). held (diagonal_cuts d s) (diagonal_owner d s) k v q ≡ product (diagonal_cuts d s) / (get_or (diagonal_cuts d s) k 0 * s ^ suc n)) dimensions
      (diagonal_shares (suc n) s k v q (subst (λ (d : ℕ). k < d) dimensions here) inside (subst⁻¹ (λ (p : ℕ). q < p) processors o)))

module _ (job : Job) (plan : Plan) (shaped : in_shape (layout_of plan) ≡ true) (made : DiagonalFor job (layout_of plan)) where
  cuts_are : cuts_of plan ≡ diagonal_cuts job.d made.s
  cuts_are = ap (λ (l : Layout). l.cuts) made.plan_is

  moduli_are : (layout_of plan).moduli ≡ diagonal_moduli job.d made.s
  moduli_are = ap (λ (l : Layout). l.moduli) made.plan_is

  matrix_is : (layout_of plan).matrix ≡ diagonal_matrix job.d made.s
  matrix_is = ap (λ (l : Layout). l.matrix) made.plan_is

  owners_are : owner_by (layout_of plan) ≡ diagonal_owner job.d made.s
  unfolding diagonal_owner
  owners_are = ap owner_by made.plan_is

  held_job : job_of (layout_of plan) ≡ job
  held_job = ap job_of made.plan_is

  cost_is : plan.cost ≡ cost_of job.weights (cuts_of plan)
  unfolding layout_of
  cost_is = ap (λ (l : Layout). l.cost) made.plan_is ∙ ap (cost_of job.weights) (sym cuts_are)

  even : EvenPlan job plan
  unfolding diagonal_owner
  even =
      even-plan job plan held_job shaped (subst⁻¹ (Fits job.extents job.least) cuts_are made.fits)
      (subst⁻¹ (λ (l : Layout). (k v q : ℕ) → k < length l.cuts → v < get_or l.cuts k 0 → q < job.p
      → held l.cuts (owner_by l) k v q ≡ product l.cuts / (get_or l.cuts k 0 * job.p)) made.plan_is
      (shares job made.n made.s made.dimensions made.processors))
      cost_is

  -- a diagonal plan is a balanced rival
  abbrev rival : Rival job
  rival = rival_of job plan held_job shaped even.fits

  against : Demand3 job (planned_answer (plan_answer job))
  against = demand-3 job made.passed

  accepted : Accepted (planned_answer (plan_answer job))
  accepted = against.accepts.1 (rival, even.balanced)

  no_cheaper : (ours : Plan) → planned_answer (plan_answer job) ≡ answered ours → ours.cost ≤ plan.cost
  no_cheaper ours answers =
      subst⁻¹ (λ (n : ℕ). ours.cost ≤ n) cost_is ((against.ours ours answers).cheapest_of_all rival even.balanced)

  owner_is : (x : List ℕ) → Inside (cuts_of plan) x → owner_in plan x ≡ diagonal_owner job.d made.s x
  owner_is x w = owner_by_lem job plan held_job shaped x w ∙ ap (λ (own : List ℕ → ℕ). own x) owners_are

  -- the side in two and in three dimensions
  side-2 : job.d ≡ 2 → made.s ≡ job.p
  side-2 two =
      let one : made.n ≡ 0 = omega (arith, made.dimensions, two) in
      sym (power-one made.s) ∙ ap (λ (n : ℕ). made.s ^ suc n) (sym one) ∙ made.processors

  side-3 : job.d ≡ 3 → (t : ℕ) → job.p ≡ t * t → made.s ≡ t
  side-3 three t square_is =
      let two : made.n ≡ 1 = omega (arith, made.dimensions, three) in
      pow_injective 1 made.s t (ap (λ (n : ℕ). made.s ^ suc n) (sym two) ∙ made.processors ∙ square_is ∙ sym (square t))

  diagonal : Diagonal job plan
  unfolding layout_of
  diagonal = record {
    kind_is = ap (λ (l : Layout). l.kind) made.plan_is;
    even = even;
    planned_too = accepted;
    never_cheaper = no_cheaper;
    suited = (suits_iff job.d job.p made.passed.range.p_low).0 (diagonal-suits job (layout_of plan) made);
    cuts_2 = λ two. cuts_are ∙ ap₂ diagonal_cuts two (side-2 two);
    moduli_2 = λ two. moduli_are ∙ ap₂ diagonal_moduli two (side-2 two) ∙ moduli_of-2 job.p;
    rows_2 = λ two. matrix_is ∙ ap₂ diagonal_matrix two (side-2 two) ∙ matrix_of-2 job.p;
    owner_2 = λ two i1 i2 w.
        owner_is (i1 ∷ i2 ∷ []) w
        ∙ ap₂ (λ (d m : ℕ). diagonal_owner d m (i1 ∷ i2 ∷ [])) two (side-2 two)
        ∙ diagonal_owner-2 job.p i1 i2 made.passed.range.p_low;
    cuts_3 = λ three t q. cuts_are ∙ ap₂ diagonal_cuts three (side-3 three t q);
    moduli_3 = λ three t q. moduli_are ∙ ap₂ diagonal_moduli three (side-3 three t q) ∙ moduli_of-3 t;
    rows_3 = λ three t q. matrix_is ∙ ap₂ diagonal_matrix three (side-3 three t q) ∙ matrix_of-3 t;
    owner_3 = λ three t q i1 i2 i3 w.
        owner_is (i1 ∷ i2 ∷ i3 ∷ []) w
        ∙ ap₂ (λ (d m : ℕ). diagonal_owner d m (i1 ∷ i2 ∷ i3 ∷ [])) three (side-3 three t q)
        ∙ diagonal_owner-3 t i1 i2 i3 (subst (λ (m : ℕ). 1 ≤ m) (side-3 three t q) made.positive);
  }

-- "Diagonal plans are shown even and never cheaper than the planner's", for all jobs.
pub diagonal_plans : (job : Job) → DiagonalPlans job (planned_answer (diagonal_answer job))
diagonal_plans job = go (diagonal_answer job) refl
  where
    go : (a : Answer Layout) → diagonal_answer job ≡ a → DiagonalPlans job (planned_answer a)
    go (answered l) e plan answers =
        let back : diagonal_answer job ≡ answered (layout_of (plan_of l)) = e ∙ ap answered (sym (layout_of-plan l (diagonal_answer_sized job l e))) in
        subst (Diagonal job) (answered-is answers)
        (diagonal job (plan_of l) (diagonal_answer-in_shape job (layout_of (plan_of l)) back) ((diagonal_answered job (layout_of (plan_of l))).0 back))
    go (refused number place) e plan answers = absurd (answered-ne-refused (sym answers))

-- so every plan that the diagonal call answers is even
pub diagonal_even : (job : Job) (layout : Layout) → diagonal_answer job ≡ answered layout → EvenPlan job (plan_of layout)
diagonal_even job layout made = (diagonal_plans job (plan_of layout) (ap planned_answer made)).even
