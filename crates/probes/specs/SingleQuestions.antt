-- What the call answers, beside the single question (document 02, request h). `probes_answer` and `slab_of_answer` are what the contracts of
-- `probes::slabs_of` and of the single question, `tiles::slabs::slab_of`, promise to answer.
use Rattle.std.specs.Prelude.{◌≡◌, true, List, ℕ, suc, ◌≤◌, ◌<◌, length, get_or}
use Rattle.multipartition.specs.Answers.{answered}
use Rattle.multipartition.specs.Plans.{Layout, between, in_shape}
use Rattle.multipartition.specs.Questions.{extent_of, slab_of_answer}
use Rattle.probes.specs.Edges.{RisingWithin}

-- "an element smaller than the one before": the element behind place i, counted from 0, is the first such
pub record FallsFirst (elements : List ℕ) (i : ℕ) : Type 0 where
  pub inside : suc i < length elements
  pub falls : get_or elements (suc i) 0 < get_or elements i 0
  pub rises : (j : ℕ) → j < i → get_or elements j 0 ≤ get_or elements (suc j) 0

-- a line that no check turns down, for a second list that holds `lent`
pub record Answerable (plan : Layout) (k : ℕ) (elements lent : List ℕ) : Type 0 where
  pub shape : in_shape plan ≡ true
  pub dimension : between 1 plan.d k ≡ true
  pub rising : RisingWithin (extent_of plan k) elements
  pub long : length elements ≤ length lent

-- "Each answer equals that of the single question"; "Places of the second list past the first one's length keep their contents."
pub record Singly (plan : Layout) (k : ℕ) (elements lent slabs : List ℕ) : Type 0 where
  pub many : length slabs ≡ length lent
  pub each : (i : ℕ) → i < length elements → slab_of_answer plan k (get_or elements i 0) ≡ answered (get_or slabs i 0)
  pub kept : (i : ℕ) → length elements ≤ i → get_or slabs i 0 ≡ get_or lent i 0
