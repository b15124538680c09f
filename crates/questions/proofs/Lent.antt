-- The answers to the two questions for the lists of a plan, lent.
use mathlib.Core.Path.{◌≡◌, sym, ap, ◌∙◌}
use mathlib.Core.Bool.{Bool, true, false}
use mathlib.Core.List.{List}
use mathlib.Core.Option.{none, some}
use Prim.Native.Nat.{ℕ, ◌-◌, ◌≤◌, ◌<◌}
use native.Mathlib.Omega.{arith}
use lib.ListN.{length, get_or, take}
use Rattle.multipartition.specs.Answers.{answered, refused}
use Rattle.multipartition.specs.Owners.{owner_at}
use Rattle.multipartition.specs.Neighbours.{next_owner}
use Rattle.multipartition.specs.Plans.{between, in_shape}
use Rattle.multipartition.specs.Questions.{owner_answer, neighbour_answer}
use Rattle.multipartition.specs.Tiles.{is_inside}
use Rattle.layout.specs.declared.Plan.{Plan}
use Rattle.layout.specs.declared.PlanLists.{PlanLists}
use Rattle.layout.specs.Lent.{Lent, Lends, lent_plan, plan_lent}
use Rattle.layout.specs.Plans.{rows_from, layout_of}
use Rattle.layout.specs.Positions.{InGrid}
use Rattle.layout.specs.Shaped.{Shaped}
use Rattle.layout.proofs.Lent.{lent_of_shape, plan_over_lem}
use Rattle.layout.proofs.Places.{cut_at}
use Rattle.layout.proofs.Positions.{in_grid_lem}
use Rattle.layout.proofs.Shaped.{shaped}
use Rattle.questions.specs.Bounds.{Reduced, Small}
use Rattle.questions.proofs.Answers.{owner_of_outside, owner_of_inside, neighbour_no-dimension, neighbour_above-processors, no_neighbour, a_neighbour}
use Rattle.questions.proofs.Bounds.{reduced_of_shaped, small_of_in_grid}

-- the plan of lists that have a plan's places
abbrev plan_of : PlanLists → Plan
plan_of lists = lent_plan lists.d lists.p lists.kind lists.extents.now lists.cuts.now lists.moduli.now lists.matrix.now lists.least.now

module _ (lists : PlanLists) (shape : in_shape (layout_of (plan_lent lists)) ≡ true) where
  pub lent : Lent lists.extents.now lists.cuts.now lists.moduli.now lists.matrix.now lists.least.now
  lent = lent_of_shape _ _ _ _ _ lists.d lists.p lists.kind shape

  over : plan_lent lists ≡ plan_of lists
  over = plan_over_lem _ _ _ _ _ _ _ _ lent

  own : in_shape (layout_of (plan_of lists)) ≡ true
  own = rw over at shape

  pub shaped_lent : Shaped (plan_of lists)
  shaped_lent = shaped (plan_of lists) own

  pub reduced_lent : Reduced lists.d lists.moduli.now lists.matrix.now
  reduced_lent = reduced_of_shaped (plan_of lists) shaped_lent

  module _ (position : List ℕ) where
    pub outside_lent : is_inside (take lists.d lists.cuts.now) position ≡ false → owner_answer (layout_of (plan_lent lists)) position ≡ refused 8 0
    unfolding layout_of
    outside_lent o = rw over (owner_of_outside (layout_of (plan_of lists)) position own o)

    module _ (i : is_inside (take lists.d lists.cuts.now) position ≡ true) where
      in_grid : InGrid (plan_of lists) position
      unfolding layout_of
      in_grid = in_grid_lem (plan_of lists) shaped_lent position i

      pub small_lent : Small lists.d position × (length position ≡ lists.d)
      small_lent = (small_of_in_grid (plan_of lists) position shaped_lent in_grid, in_grid.coordinates)

      pub owner_lent : owner_answer (layout_of (plan_lent lists)) position
          ≡ answered (owner_at (take lists.d lists.moduli.now) (rows_from lists.d 0 lists.d lists.matrix.now) position)
      unfolding layout_of
      owner_lent = rw over (owner_of_inside (layout_of (plan_of lists)) position own i)

  module _ (q k : ℕ) (up : Bool) where
    pub no_such_dimension : between 1 lists.d k ≡ false → neighbour_answer (layout_of (plan_lent lists)) q k up ≡ refused 7 0
    unfolding layout_of
    no_such_dimension e = rw over (neighbour_no-dimension (layout_of (plan_of lists)) q k up own e)

    module _ (low : 1 ≤ k) (high : k ≤ lists.d) where
      cut_here : get_or (take lists.d lists.cuts.now) (k - 1) 0 ≡ get_or lists.cuts.now (k - 1) 0
      unfolding layout_of
      cut_here = cut_at (plan_of lists) (k - 1) (omega arith)

      pub no_such_processor : lists.p ≤ q → neighbour_answer (layout_of (plan_lent lists)) q k up ≡ refused 8 0
      unfolding layout_of
      no_such_processor l = rw over (neighbour_above-processors (layout_of (plan_of lists)) q k up own low high l)

      pub nobody_lent : q < lists.p → get_or lists.cuts.now (k - 1) 0 ≡ 1 → neighbour_answer (layout_of (plan_lent lists)) q k up ≡ answered none
      unfolding layout_of
      nobody_lent l e = rw over (no_neighbour (layout_of (plan_of lists)) q k up own low high l (cut_here ∙ e))

      pub neighbour_lent : q < lists.p → (get_or lists.cuts.now (k - 1) 0 ≡ 1 → ⊥)
          → neighbour_answer (layout_of (plan_lent lists)) q k up
          ≡ answered (some (next_owner (take lists.d lists.moduli.now) (rows_from lists.d 0 lists.d lists.matrix.now) (k - 1) up q))
      unfolding layout_of
      neighbour_lent l e = rw over (a_neighbour (layout_of (plan_of lists)) q k up own low high l (λ one. e (sym cut_here ∙ one)))

-- the lists of a plan by value: the questions read neither its weights nor its cost
module _ (plan : Plan) (lists : PlanLists) (lends : Lends plan lists) (places : Lent plan.extents plan.cuts plan.moduli plan.matrix plan.least) where
  lent_whole : plan_lent lists ≡ lent_plan plan.d plan.p plan.kind plan.extents plan.cuts plan.moduli plan.matrix plan.least
  lent_whole =
      rw (lends.d_is, lends.p_is, lends.kind_is, lends.extents_are, lends.cuts_are, lends.moduli_are, lends.matrix_are, lends.least_are)
      (plan_over_lem _ _ _ _ _ _ _ _ places)

  pub owner_of_whole : (position : List ℕ) → owner_answer (layout_of (plan_lent lists)) position ≡ owner_answer (layout_of plan) position
  unfolding owner_answer in_shape layout_of
  owner_of_whole position = ap (λ (p : Plan). owner_answer (layout_of p) position) lent_whole

  pub neighbour_of_whole : (q k : ℕ) (up : Bool) → neighbour_answer (layout_of (plan_lent lists)) q k up ≡ neighbour_answer (layout_of plan) q k up
  unfolding neighbour_answer in_shape layout_of
  neighbour_of_whole q k up = ap (λ (p : Plan). neighbour_answer (layout_of p) q k up) lent_whole
