-- The plan by value and the layout that it stands for (document 01, "Quantities").
use Rattle.std.specs.Prelude.{List, [], ◌∷◌, ◌++◌, ℕ, zero, suc, ◌*◌, take, drop, replicate}
use Rattle.multipartition.specs.Plans.{Layout}
use Rattle.layout.specs.declared.Plan.{Plan}

-- n rows of d numbers, from row i on, counted from 0: the rows stand five places apart
unfoldable pub rows_from : ℕ → ℕ → ℕ → List ℕ → List (List ℕ)
rows_from d i zero matrix = []
rows_from d i (suc n) matrix = take d (drop (i * 5) matrix) ∷ rows_from d (suc i) n matrix

-- the layout of a plan: the first d places of each list
unfoldable pub layout_of : Plan → Layout
layout_of plan = record {
  d = plan.d;
  p = plan.p;
  extents = take plan.d plan.extents;
  weights = take plan.d plan.weights;
  cuts = take plan.d plan.cuts;
  cost = plan.cost;
  moduli = take plan.d plan.moduli;
  matrix = rows_from plan.d 0 plan.d plan.matrix;
  kind = plan.kind;
  least = take plan.d plan.least;
}

-- a list with zeros after it, of five places
abbrev pub five : List ℕ → List ℕ
five xs = take 5 (xs ++ replicate 5 0)

-- rows of five places, one after the other
unfoldable pub flat : List (List ℕ) → List ℕ
flat [] = []
flat (row ∷ rows) = five row ++ flat rows

-- the plan of a layout: "Places past d are zero in the planner's answer"
unfoldable pub plan_of : Layout → Plan
plan_of layout = record {
  d = layout.d;
  p = layout.p;
  extents = five layout.extents;
  weights = five layout.weights;
  cuts = five layout.cuts;
  cost = layout.cost;
  moduli = five layout.moduli;
  matrix = take 25 (flat layout.matrix ++ replicate 25 0);
  kind = layout.kind;
  least = five layout.least;
}

-- "every other part of the answer is zero"
unfoldable pub no_plan : Plan
no_plan = record {
  d = 0;
  p = 0;
  extents = replicate 5 0;
  weights = replicate 5 0;
  cuts = replicate 5 0;
  cost = 0;
  moduli = replicate 5 0;
  matrix = replicate 25 0;
  kind = 0;
  least = replicate 5 0;
}
