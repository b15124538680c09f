-- The outcomes of the chain call as far as stage t, each from what its checks answer.
use Rattle.std.specs.Prelude.{◌≡◌, refl, List, [], ◌∷◌, ℕ, Ok, Err, eqb, length}
use borrow.Author.Tests.{eq-eqb, ne_eqb}
use Rattle.multipartition.specs.Answers.{answered, Check, checked}
use Rattle.multipartition.specs.Chains.{Stage, heads_at, nexts_at}
use Rattle.multipartition.specs.Plans.{tiles_of}
use Rattle.multipartition.specs.Questions.{shape_check, length_check, tile_owner, stage_answer}
use Rattle.refusals.specs.declared.Refusal.{Refusal}
use Rattle.refusals.specs.declared.Refusal.TheVariants as R
use Rattle.refusals.specs.Told.{turned_back, Answers}
use Rattle.refusals.proofs.Laws.{turned_back-on, passed-on}
use Rattle.layout.specs.declared.Plan.{Plan}
use Rattle.layout.specs.Plans.{layout_of}
use Rattle.layout.specs.Checked.{shape_answer}

module _ (plan : Plan) (t : ℕ) (heads nexts : List ℕ) where
  -- the checks of the two lists
  abbrev lengths : List Check
  lengths = length_check (eqb (length heads) (layout_of plan).p) ∷ length_check (eqb (length nexts) (tiles_of (layout_of plan))) ∷ []

  pub turned_down : (r : Refusal) → turned_back r ≡ shape_answer plan
      → Answers {U = Unit {0}} (stage_answer (layout_of plan) t (length heads) nexts) (Err r) (heads, nexts) (heads, nexts)
  unfolding stage_answer
  turned_down r e =
      let told = turned_back-on (shape_check (layout_of plan) ∷ []) lengths plan
      (answered (heads_at (tile_owner (layout_of plan)) (tiles_of (layout_of plan)) (layout_of plan).p t, nexts_at (tile_owner (layout_of plan)) (tiles_of (layout_of plan)) nexts t)) e in
      record { told = told; held = rw (← told) refl }

  module _ (shaped : Plan) (passed : answered shaped ≡ shape_answer plan) where
    same : shaped ≡ plan
    same = (passed-on (shape_check (layout_of plan) ∷ []) [] plan shaped (answered plan) passed).0

    on : stage_answer (layout_of plan) t (length heads) nexts
        ≡ checked lengths (answered (heads_at (tile_owner (layout_of plan)) (tiles_of (layout_of plan)) (layout_of plan).p t, nexts_at (tile_owner (layout_of plan)) (tiles_of (layout_of plan)) nexts t))
    unfolding stage_answer
    on = (passed-on (shape_check (layout_of plan) ∷ []) lengths plan shaped _ passed).1

    pub other_heads : (length heads ≡ shaped.p → ⊥)
        → Answers {U = Unit {0}} (stage_answer (layout_of plan) t (length heads) nexts) (Err R.Room) (heads, nexts) (heads, nexts)
    unfolding layout_of
    other_heads n = rw (on, ne_eqb (length heads) plan.p (rw same at n)) (record { told = refl; held = refl })

    module _ (long : length heads ≡ shaped.p) where
      pub other_nexts : (length nexts ≡ tiles_of (layout_of shaped) → ⊥)
          → Answers {U = Unit {0}} (stage_answer (layout_of plan) t (length heads) nexts) (Err R.Room) (heads, nexts) (heads, nexts)
      unfolding layout_of
      other_nexts n =
          rw (on, eq-eqb (length heads) plan.p (rw same at long), ne_eqb (length nexts) (tiles_of (layout_of plan)) (rw same at n)) (record { told = refl; held = refl })

      pub filled : (heads' nexts' : List ℕ) → length nexts ≡ tiles_of (layout_of shaped)
          → Stage (tile_owner (layout_of shaped)) (tiles_of (layout_of shaped)) shaped.p t nexts heads' nexts'
          → Answers (stage_answer (layout_of plan) t (length heads) nexts) (Ok (tt {0})) (heads, nexts) (heads', nexts')
      unfolding layout_of
      filled heads' nexts' all s =
          let now = rw same at s in
          rw (on, eq-eqb (length heads) plan.p (rw same at long), eq-eqb (length nexts) (tiles_of (layout_of plan)) (rw same at all), now.heads_are, now.nexts_are)
          (record { told = refl; held = refl })
