-- A plan by its lists, lent to a call that copies none of them.
use Rattle.std.specs.Prelude.{Bool, ◌&&◌, cond, List, [], ◌≡◌, ℕ, eqb, length}
use Rattle.layout.specs.declared.Plan.{Plan}
use Rattle.layout.specs.declared.PlanLists.{PlanLists}
use Rattle.layout.specs.Plans.{no_plan}

-- the lists have the places that a plan's have
pub record Lent (extents cuts moduli matrix least : List ℕ) : Type 0 where
  pub extents_places : length extents ≡ 5
  pub cuts_places : length cuts ≡ 5
  pub moduli_places : length moduli ≡ 5
  pub matrix_places : length matrix ≡ 25
  pub least_places : length least ≡ 5

-- the same as a test
abbrev pub is_lent : List ℕ → List ℕ → List ℕ → List ℕ → List ℕ → Bool
is_lent extents cuts moduli matrix least =
    eqb (length extents) 5 && eqb (length cuts) 5 && eqb (length moduli) 5 && eqb (length matrix) 25 && eqb (length least) 5

-- the plan of lists that have these places; no question reads weights or cost
abbrev pub lent_plan : ℕ → ℕ → ℕ → List ℕ → List ℕ → List ℕ → List ℕ → List ℕ → Plan
lent_plan d p kind extents cuts moduli matrix least = record {
  d = d;
  p = p;
  extents = extents;
  weights = [];
  cuts = cuts;
  cost = 0;
  moduli = moduli;
  matrix = matrix;
  kind = kind;
  least = least;
}

-- the plan of any lists: those of other lengths make the empty plan, which is out of shape
unfoldable pub plan_over : ℕ → ℕ → ℕ → List ℕ → List ℕ → List ℕ → List ℕ → List ℕ → Plan
plan_over d p kind extents cuts moduli matrix least =
    cond (is_lent extents cuts moduli matrix least) (lent_plan d p kind extents cuts moduli matrix least) no_plan

-- the plan of a plan's lists, lent
abbrev pub plan_lent : PlanLists → Plan
plan_lent lists = plan_over lists.d lists.p lists.kind lists.extents.now lists.cuts.now lists.moduli.now lists.matrix.now lists.least.now

-- the lists of a plan, lent
pub record Lends (plan : Plan) (lists : PlanLists) : Type 0 where
  pub d_is : lists.d ≡ plan.d
  pub p_is : lists.p ≡ plan.p
  pub kind_is : lists.kind ≡ plan.kind
  pub extents_are : lists.extents.now ≡ plan.extents
  pub cuts_are : lists.cuts.now ≡ plan.cuts
  pub moduli_are : lists.moduli.now ≡ plan.moduli
  pub matrix_are : lists.matrix.now ≡ plan.matrix
  pub least_are : lists.least.now ≡ plan.least
