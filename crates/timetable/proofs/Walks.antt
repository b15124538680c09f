-- A walk of t steps from processor o along dimension c, one slab a step: it stands at the processor t steps on.
use mathlib.Core.Path.{◌≡◌, sym, ap, subst, subst⁻¹}
use mathlib.Core.Bool.{Bool}
use mathlib.Core.List.{List}
use Prim.Native.Nat.{ℕ, ◌+◌, ◌<◌}
use native.Mathlib.Nat.{le_trans}
use native.Mathlib.Numerals.{add-one}
use lib.ListN.{take}
use Rattle.multipartition.specs.Neighbours.{next_owner}
use Rattle.multipartition.specs.Owners.{owner_at}
use Rattle.layout.specs.declared.Plan.{Plan}
use Rattle.layout.specs.Plans.{rows_from, layout_of}
use Rattle.layout.specs.Shaped.{Shaped}
use Rattle.questions.specs.Asks.{Asks}
use Rattle.questions.specs.declared.reduced.Owners.{Owners}
use Rattle.walks.specs.declared.Coordinated.{Coordinated}
use Rattle.walks.specs.declared.Stride.{Stride}
use Rattle.walks.specs.Walks.{IsProcessor, Strides, Steps}
use Rattle.walks.proofs.Walking.{next_is_processor, next_below}
use Rattle.timetable.specs.Rows.{steps_on}

pub record Walk (plan : Plan) (c : ℕ) (up : Bool) (o t : ℕ) (at : Coordinated) : Type 0 where
  pub stands : IsProcessor plan (steps_on (layout_of plan).moduli (layout_of plan).matrix c up t o) at
  pub below : steps_on (layout_of plan).moduli (layout_of plan).matrix c up t o < plan.p

module _ (plan : Plan) (s : Shaped plan) (c : ℕ) (lc : c < plan.d) (up : Bool) (o : ℕ) where
  pub walk_none : (from : Coordinated) → o < plan.p → IsProcessor plan o from → Walk plan c up o 0 from
  unfolding steps_on
  walk_none from l stands = record { stands = stands; below = l }

  module _ (t : ℕ) (at : Coordinated) (w : Walk plan c up o t at) where
    pub walk_small : at.number < 4096
    walk_small = subst⁻¹ (λ (n : ℕ). n < 4096) w.stands.number_is (le_trans w.below s.p_high)

    pub walk_more : (stride : Stride) (to : Coordinated) → Strides plan c up stride → Steps stride at to → Walk plan c up o (t + 1) to
    unfolding steps_on
    walk_more stride to strides steps = record {
      stands = subst (λ (n : ℕ). IsProcessor plan n to) onward (next_is_processor plan s c lc up stride strides _ at w.stands to steps);
      below = subst (λ (n : ℕ). n < plan.p) onward (next_below plan s c lc up _);
    }
      where
        onward : next_owner (layout_of plan).moduli (layout_of plan).matrix c up (steps_on (layout_of plan).moduli (layout_of plan).matrix c up t o)
            ≡ steps_on (layout_of plan).moduli (layout_of plan).matrix c up (t + 1) o
        onward = ap (λ (n : ℕ). steps_on (layout_of plan).moduli (layout_of plan).matrix c up n o) (sym (add-one t))

-- ---- what the questions answer of a plan's moduli and matrix, lent

pub owner_asked : (plan : Plan) (owners : Owners) → Asks plan owners → (position : List ℕ)
    → owner_at (take owners.d owners.moduli.now) (rows_from owners.d 0 owners.d owners.matrix.now) position
    ≡ owner_at (layout_of plan).moduli (layout_of plan).matrix position
unfolding layout_of
owner_asked plan owners asks position = rw (asks.d_is, asks.moduli_are, asks.matrix_are)

pub neighbour_asked : (plan : Plan) (owners : Owners) → Asks plan owners → (k : ℕ) (up : Bool) (q : ℕ)
    → next_owner (take owners.d owners.moduli.now) (rows_from owners.d 0 owners.d owners.matrix.now) k up q
    ≡ next_owner (layout_of plan).moduli (layout_of plan).matrix k up q
unfolding layout_of
neighbour_asked plan owners asks k up q = rw (asks.d_is, asks.moduli_are, asks.matrix_are)
