-- A position inside the grid of a plan, as facts on its numbers, read by places, counted from 0.
use Rattle.std.specs.Prelude.{List, ◌≡◌, ℕ, ◌<◌, length, get_or}
use Rattle.layout.specs.declared.Plan.{Plan}

pub record InGrid (plan : Plan) (position : List ℕ) : Type 0 where
  pub coordinates : length position ≡ plan.d
  pub below : (k : ℕ) → k < plan.d → get_or position k 0 < get_or plan.cuts k 0
