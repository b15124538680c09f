-- A plan and its list: the list of a plan is read as that plan.
use mathlib.Core.Path.{◌≡◌, refl, sym, ap, ◌∙◌}
use mathlib.Core.Bool.{Bool}
use mathlib.Core.List.{List, [], ◌∷◌, ◌++◌}
use Prim.Native.Nat.{ℕ, ◌+◌, ◌*◌, ◌/◌, ◌%◌, ◌≤◌}
use native.Mathlib.Nat.{div-add-mod'}
use native.Mathlib.Omega.{arith}
use lib.Dec.{lit≤}
use lib.ListN.{length, get_or, take, drop, replicate, length-append, length-replicate, length-drop}
use lib.Seq.{sets, length-take-le, take_all, take_at, drop_at, drop-drop, get_or-drop}
use Rattle.multipartition.specs.Plans.{Layout, in_shape}
use Rattle.multipartition.specs.Questions.{owner_answer, neighbour_answer}
use Rattle.layout.specs.declared.Plan.{Plan}
use Rattle.layout.specs.declared.PlanLists.{PlanLists}
use Rattle.layout.specs.Plans.{flat, plan_of, layout_of}
use Rattle.layout.specs.Lent.{lent_plan, plan_lent, Lends}
use Rattle.layout.proofs.Lent.{plan_over_lem}
use Rattle.layout.proofs.Places.{Arrays}
use Rattle.link_lists.specs.Lists.{plan_places, plan_in, list_of_plan}
use Rattle.link_lists.proofs.Parts.{sets-append, sets_all}

-- the plan of a layout has the places of every plan by value
pub arrays_of_layout : (layout : Layout) → Arrays (plan_of layout)
unfolding plan_of
arrays_of_layout layout =
    record {
      extents_places = length_front 5 layout.extents;
      weights_places = length_front 5 layout.weights;
      cuts_places = length_front 5 layout.cuts;
      moduli_places = length_front 5 layout.moduli;
      matrix_places = length_front 25 (flat layout.matrix);
      least_places = length_front 5 layout.least;
    }
  where
    length_front : (n : ℕ) (xs : List ℕ) → length (take n (xs ++ replicate n 0)) ≡ n
    length_front n xs = length-take-le n (xs ++ replicate n 0) (omega (arith, length-append xs (replicate n 0), length-replicate {A = ℕ} n 0))

drop_part : (list part rest : List ℕ) (at n : ℕ) → drop at list ≡ part ++ rest → length part ≡ n → drop (at + n) list ≡ rest
drop_part list part rest at n e l = sym (drop-drop n at list) ∙ ap (drop n) e ∙ drop_at part rest n l

take_part : (list part rest : List ℕ) (at n : ℕ) → drop at list ≡ part ++ rest → length part ≡ n → take n (drop at list) ≡ part
take_part list part rest at n e l = ap (take n) e ∙ take_at part rest n l

module _ (plan : Plan) (arrays : Arrays plan) where
  abbrev from_moduli : List ℕ
  from_moduli = plan.moduli ++ (plan.matrix ++ (plan.kind ∷ plan.least))

  abbrev from_cost : List ℕ
  from_cost = plan.cost % 4294967296 ∷ plan.cost / 4294967296 ∷ from_moduli

  weights_on : drop 7 (list_of_plan plan) ≡ plan.weights ++ (plan.cuts ++ from_cost)
  unfolding list_of_plan
  weights_on = drop_part (list_of_plan plan) plan.extents (plan.weights ++ (plan.cuts ++ from_cost)) 2 5 refl arrays.extents_places

  cuts_on : drop 12 (list_of_plan plan) ≡ plan.cuts ++ from_cost
  cuts_on = drop_part (list_of_plan plan) plan.weights (plan.cuts ++ from_cost) 7 5 weights_on arrays.weights_places

  cost_on : drop 17 (list_of_plan plan) ≡ from_cost
  cost_on = drop_part (list_of_plan plan) plan.cuts from_cost 12 5 cuts_on arrays.cuts_places

  moduli_on : drop 19 (list_of_plan plan) ≡ from_moduli
  moduli_on = sym (drop-drop 2 17 (list_of_plan plan)) ∙ ap (drop 2) cost_on

  matrix_on : drop 24 (list_of_plan plan) ≡ plan.matrix ++ (plan.kind ∷ plan.least)
  matrix_on = drop_part (list_of_plan plan) plan.moduli (plan.matrix ++ (plan.kind ∷ plan.least)) 19 5 moduli_on arrays.moduli_places

  kind_on : drop 49 (list_of_plan plan) ≡ plan.kind ∷ plan.least
  kind_on = drop_part (list_of_plan plan) plan.matrix (plan.kind ∷ plan.least) 24 25 matrix_on arrays.matrix_places

  least_on : drop 50 (list_of_plan plan) ≡ plan.least
  least_on = sym (drop-drop 1 49 (list_of_plan plan)) ∙ ap (drop 1) kind_on

  pub extents_in : take 5 (drop 2 (list_of_plan plan)) ≡ plan.extents
  unfolding list_of_plan
  extents_in = take_part (list_of_plan plan) plan.extents (plan.weights ++ (plan.cuts ++ from_cost)) 2 5 refl arrays.extents_places

  pub weights_in : take 5 (drop 7 (list_of_plan plan)) ≡ plan.weights
  weights_in = take_part (list_of_plan plan) plan.weights (plan.cuts ++ from_cost) 7 5 weights_on arrays.weights_places

  pub cuts_in : take 5 (drop 12 (list_of_plan plan)) ≡ plan.cuts
  cuts_in = take_part (list_of_plan plan) plan.cuts from_cost 12 5 cuts_on arrays.cuts_places

  pub moduli_in : take 5 (drop 19 (list_of_plan plan)) ≡ plan.moduli
  moduli_in = take_part (list_of_plan plan) plan.moduli (plan.matrix ++ (plan.kind ∷ plan.least)) 19 5 moduli_on arrays.moduli_places

  pub matrix_in : take 25 (drop 24 (list_of_plan plan)) ≡ plan.matrix
  matrix_in = take_part (list_of_plan plan) plan.matrix (plan.kind ∷ plan.least) 24 25 matrix_on arrays.matrix_places

  pub cost_low_in : get_or (list_of_plan plan) 17 0 ≡ plan.cost % 4294967296
  cost_low_in = sym (get_or-drop 17 (list_of_plan plan) 0 0) ∙ ap (λ (l : List ℕ). get_or l 0 0) cost_on

  pub cost_high_in : get_or (list_of_plan plan) 18 0 ≡ plan.cost / 4294967296
  cost_high_in = sym (get_or-drop 17 (list_of_plan plan) 1 0) ∙ ap (λ (l : List ℕ). get_or l 1 0) cost_on

  pub kind_in : get_or (list_of_plan plan) 49 0 ≡ plan.kind
  kind_in = sym (get_or-drop 49 (list_of_plan plan) 0 0) ∙ ap (λ (l : List ℕ). get_or l 0 0) kind_on

  pub least_in : take 5 (drop 50 (list_of_plan plan)) ≡ plan.least
  least_in = ap (take 5) least_on ∙ take_all 5 plan.least (omega (arith, arrays.least_places))

  pub plan_in_list : plan_in (list_of_plan plan) ≡ plan
  unfolding plan_in list_of_plan
  plan_in_list =
      let whole : plan.cost % 4294967296 + 4294967296 * (plan.cost / 4294967296) ≡ plan.cost = omega (arith, div-add-mod' plan.cost 4294967296) in
      rw (extents_in, weights_in, cuts_in, cost_low_in, cost_high_in, whole, moduli_in, matrix_in, kind_in, least_in)

  pub length_list : length (list_of_plan plan) ≡ plan_places
  unfolding list_of_plan
  length_list = simp length-append (omega (arith, arrays))

  -- the parts stored one after the other
  pub stored_parts : (list : List ℕ) → length list ≡ plan_places
      → sets (sets (sets (sets (sets (sets (sets (sets (sets list 0 (plan.d ∷ plan.p ∷ [])) 2 plan.extents) 7 plan.weights) 12 plan.cuts) 17 (plan.cost % 4294967296 ∷ plan.cost / 4294967296 ∷ [])) 19 plan.moduli) 24 plan.matrix) 49 (plan.kind ∷ [])) 50 plan.least
      ≡ list_of_plan plan
  unfolding list_of_plan
  stored_parts list long =
      sym (simp (sets-append, arrays.extents_places, arrays.weights_places, arrays.cuts_places, arrays.moduli_places, arrays.matrix_places))
      ∙ sets_all list (list_of_plan plan) (long ∙ sym length_list)

-- ---- the lists of a plan, lent

module _ (plan : Plan) (lists : PlanLists) (arrays : Arrays plan) (lends : Lends plan lists) where
  over_lists : plan_lent lists ≡ lent_plan plan.d plan.p plan.kind plan.extents plan.cuts plan.moduli plan.matrix plan.least
  over_lists =
      rw (lends.d_is, lends.p_is, lends.kind_is, lends.extents_are, lends.cuts_are, lends.moduli_are, lends.matrix_are, lends.least_are)
      (plan_over_lem _ _ _ _ _ _ _ _
      (record {
        extents_places = arrays.extents_places;
        cuts_places = arrays.cuts_places;
        moduli_places = arrays.moduli_places;
        matrix_places = arrays.matrix_places;
        least_places = arrays.least_places;
      }))

  pub owner_over_lists : (position : List ℕ) → owner_answer (layout_of (plan_lent lists)) position ≡ owner_answer (layout_of plan) position
  unfolding owner_answer in_shape layout_of
  owner_over_lists position = rw over_lists

  pub neighbour_over_lists : (q k : ℕ) (up : Bool) → neighbour_answer (layout_of (plan_lent lists)) q k up ≡ neighbour_answer (layout_of plan) q k up
  unfolding neighbour_answer in_shape layout_of
  neighbour_over_lists q k up = rw over_lists

-- the plan of a plan list has these places
pub arrays_in : (list : List ℕ) → length list ≡ plan_places → Arrays (plan_in list)
unfolding plan_in
arrays_in list long =
    record {
      extents_places = places 2 5 (lit≤ tt);
      weights_places = places 7 5 (lit≤ tt);
      cuts_places = places 12 5 (lit≤ tt);
      moduli_places = places 19 5 (lit≤ tt);
      matrix_places = places 24 25 (lit≤ tt);
      least_places = places 50 5 (lit≤ tt);
    }
  where
    places : (at n : ℕ) → at + n ≤ plan_places → length (take n (drop at list)) ≡ n
    places at n room = length-take-le n (drop at list) (omega (arith, length-drop at list))
