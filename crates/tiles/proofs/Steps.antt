-- One step on: to the position with the next coordinate, or to the edge.
use Rattle.std.specs.Prelude.{Ok, Err, Some, None}
use mathlib.Core.Path.{◌≡◌, refl, subst}
use mathlib.Core.Bool.{Bool, true, false}
use mathlib.Core.List.{List}
use mathlib.Core.Option.{Option, none, some}
use Prim.Native.Nat.{ℕ, suc, ◌-◌, ◌<◌, ◌≤◌}
use native.Mathlib.Omega.{arith}
use lib.ListN.{length, get_or, set, length-set}
use borrow.Author.Tests.{lt-ltb, le-ltb, eq-eqb, ne_eqb}
use Rattle.multipartition.specs.Answers.{Answer, answered}
use Rattle.multipartition.specs.Tiles.{one_step_on}
use Rattle.refusals.specs.declared.Refusal.{Refusal}
use Rattle.refusals.specs.Told.{turned_back}
use Rattle.tiles.specs.Positions.{position_with}
use Rattle.tiles.specs.Answers.{Moves, Locates}
use Rattle.tiles.proofs.Coordinates.{coordinates_with}

moves_inside : (xs : List ℕ) → length xs ≤ 5 → Moves (answered (some xs)) (Ok (Some (position_with xs)))
moves_inside xs few = record { told = rw (coordinates_with xs few) refl; held = refl }

moves_edge : Moves (answered none) (Ok None)
moves_edge = record { told = refl; held = refl }

pub locates-found : (xs : List ℕ) → length xs ≤ 5 → Locates (answered xs) (Ok (position_with xs))
locates-found xs few = record { told = rw (coordinates_with xs few) refl; held = refl }

-- a refusal
pub moves_refused : (answer : Answer (Option (List ℕ))) (r : Refusal) → turned_back r ≡ answer → Moves answer (Err r)
moves_refused answer r e = subst (λ (a : Answer (Option (List ℕ))). Moves a (Err r)) e (record { told = refl; held = refl })

pub locates-refused : (answer : Answer (List ℕ)) (r : Refusal) → turned_back r ≡ answer → Locates answer (Err r)
locates-refused answer r e = subst (λ (a : Answer (List ℕ)). Locates a (Err r)) e (record { told = refl; held = refl })

-- the coordinate one step on from x
abbrev pub Next : Bool → ℕ → ℕ → Type 0
Next true x next = next ≡ suc x
Next false x next = suc next ≡ x

module _ (cuts xs : List ℕ) (k : ℕ) where
  -- down from slab 0
  pub edge_down : get_or xs k 0 ≡ 0 → (up : Bool) → up ≡ false → Moves (answered (one_step_on cuts k up xs)) (Ok None)
  unfolding one_step_on
  edge_down bottom up down = rw (down, eq-eqb (get_or xs k 0) 0 bottom) moves_edge

  module _ (next : ℕ) where
    pub step_inside : length xs ≤ 5 → (up : Bool) → Next up (get_or xs k 0) next → next < get_or cuts k 0
        → Moves (answered (one_step_on cuts k up xs)) (Ok (Some (position_with (set xs k next))))
    unfolding one_step_on
    step_inside few true e l =
        rw (e, lt-ltb (suc (get_or xs k 0)) (get_or cuts k 0) (omega (arith, e, l)))
        (moves_inside (set xs k (suc (get_or xs k 0))) (omega (arith, length-set xs k (suc (get_or xs k 0)))))
    step_inside few false e l =
        let back : next ≡ get_or xs k 0 - 1 = omega (arith, e) in
        rw (back, ne_eqb (get_or xs k 0) 0 (λ bottom. omega (arith, bottom, e)))
        (moves_inside (set xs k (get_or xs k 0 - 1)) (omega (arith, length-set xs k (get_or xs k 0 - 1))))

    -- up from the last slab
    pub step_outside : get_or xs k 0 < get_or cuts k 0 → (up : Bool) → Next up (get_or xs k 0) next → get_or cuts k 0 ≤ next
        → Moves (answered (one_step_on cuts k up xs)) (Ok None)
    unfolding one_step_on
    step_outside inside true e l = rw (le-ltb (suc (get_or xs k 0)) (get_or cuts k 0) (omega (arith, e, l))) moves_edge
    step_outside inside false e l = absurd (omega (arith, inside, e, l))
