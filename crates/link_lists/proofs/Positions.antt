-- Positions over the link. A list of more than five coordinates does not fit a position by value; it lies in no grid, so that the questions
-- turn it down all the same.
use mathlib.Core.Path.{◌≡◌, refl, sym, ap, ◌∙◌}
use mathlib.Core.Bool.{Bool, true, false}
use mathlib.Core.List.{List}
use mathlib.Core.Option.{Option, some}
use Prim.Native.Nat.{ℕ, ◌-◌, ◌≤◌}
use native.Mathlib.Decide.{dec_le}
use native.Mathlib.Omega.{arith}
use lib.ListN.{length, get_or, take, replicate}
use lib.Seq.{take_at, take-append-le}
use denote.Param.Members.{Mut}
use Rattle.std.specs.Fn.{Called}
use Rattle.std.specs.Array.{IsFromFnResult}
use Rattle.multipartition.specs.Answers.{Answer, answered}
use Rattle.multipartition.specs.Plans.{in_shape}
use Rattle.multipartition.specs.Tiles.{Inside, is_inside}
use Rattle.multipartition.specs.Questions.{number_answer, position_answer, step_answer}
use Rattle.multipartition.proofs.BothWays.{position_answered, step_answered}
use Rattle.multipartition.proofs.Tiles.{inside-length, length_position, one_step_on_inside}
use Rattle.layout.specs.declared.Plan.{Plan}
use Rattle.layout.specs.Plans.{layout_of, five}
use Rattle.layout.proofs.Places.{cuts_length}
use Rattle.layout.proofs.Positions.{outside_by-length}
use Rattle.layout.proofs.Shaped.{shaped}
use Rattle.tiles.specs.declared.positions.Position.{Position}
use Rattle.tiles.specs.Positions.{coordinates, position_with}
use Rattle.tiles.proofs.Coordinates.{length-coordinates, coordinates_with, five_numbers}

-- five numbers that are asked for one after the other
pub five_asked : {F : Type 0} (g : Mut F (ℕ × Unit {0}) ℕ) (f : F) (xs ys : List ℕ)
    → ((p : F) (k y : ℕ) (q : F) → p ≡ f → Called g p (k, tt) y q → (q ≡ f) × (y ≡ get_or xs k 0))
    → IsFromFnResult g f ys 5 → ys ≡ five xs
five_asked g f xs ys asked made =
    let m0 = made.each in
    let a0 = asked f 0 m0.1 m0.0 refl m0.3 in
    let m1 = m0.4 in
    let a1 = asked m0.0 1 m1.1 m1.0 a0.0 m1.3 in
    let m2 = m1.4 in
    let a2 = asked m1.0 2 m2.1 m2.0 a1.0 m2.3 in
    let m3 = m2.4 in
    let a3 = asked m2.0 3 m3.1 m3.0 a2.0 m3.3 in
    let m4 = m3.4 in
    let a4 = asked m3.0 4 m4.1 m4.0 a3.0 m4.3 in
    sym (take_at ys (replicate 5 0) 5 made.long)
    ∙ sym (five_numbers ys)
    ∙ rw (m0.2.1 0 ∙ a0.1, m1.2.1 0 ∙ a1.1, m2.2.1 0 ∙ a2.1, m3.2.1 0 ∙ a3.1, m4.2.1 0 ∙ a4.1) (five_numbers xs)

-- the coordinates of a position by value
pub coordinates_front : (position : Position) → position.d ≤ length position.at → coordinates position ≡ take position.d position.at
unfolding coordinates
coordinates_front position few = take-append-le position.d position.at (replicate position.d 0) few

module _ (plan : Plan) (xs : List ℕ) where
  abbrev in_grid : List ℕ → Bool
  in_grid position = is_inside (layout_of plan).cuts position

  -- a question asked of the position by value is asked of the list
  asked_with : {A : Type 0} (asked : List ℕ → Answer A)
      → (in_shape (layout_of plan) ≡ false → (ys zs : List ℕ) → asked ys ≡ asked zs)
      → ((ys zs : List ℕ) → in_grid ys ≡ false → in_grid zs ≡ false → asked ys ≡ asked zs)
      → asked (coordinates (position_with xs)) ≡ asked xs
  asked_with asked misshapen outside = by_length (dec_le (length xs) 5)
    where
      by_shape : (length xs ≤ 5 → ⊥) → (b : Bool) → in_shape (layout_of plan) ≡ b → asked (coordinates (position_with xs)) ≡ asked xs
      by_shape many false e = misshapen e (coordinates (position_with xs)) xs
      by_shape many true e =
          let s = shaped plan e in
          outside (coordinates (position_with xs)) xs
          (outside_by-length plan s (coordinates (position_with xs)) (λ same. many (omega (arith, length-coordinates (position_with xs), s.d_high))))
          (outside_by-length plan s xs (λ same. many (omega (arith, s.d_high))))

      by_length : Dec (length xs ≤ 5) → asked (coordinates (position_with xs)) ≡ asked xs
      by_length (yes few) = ap asked (coordinates_with xs few)
      by_length (no many) = by_shape many (in_shape (layout_of plan)) refl

  pub number_with : number_answer (layout_of plan) (coordinates (position_with xs)) ≡ number_answer (layout_of plan) xs
  unfolding number_answer
  number_with = asked_with (number_answer (layout_of plan)) (λ e ys zs. rw e) (λ ys zs e f. rw (e, f))

  pub step_with : (k : ℕ) (up : Bool) → step_answer (layout_of plan) (coordinates (position_with xs)) k up ≡ step_answer (layout_of plan) xs k up
  unfolding step_answer
  step_with k up = asked_with (λ ys. step_answer (layout_of plan) ys k up) (λ e ys zs. rw e) (λ ys zs e f. rw (e, f))

-- an answered position has d coordinates, at most five
pub position_few : (plan : Plan) (tile : ℕ) (xs : List ℕ) → position_answer (layout_of plan) tile ≡ answered xs → length xs ≤ 5
position_few plan tile xs e =
    let found = (position_answered (layout_of plan) tile xs).0 e in
    let s = shaped plan found.0 in
    omega (arith, ap length found.2, length_position (layout_of plan).cuts tile, cuts_length plan s, s.d_high)

-- so has a position from which a step is answered, and the one that it leads to has as many
module _ (plan : Plan) (xs : List ℕ) (k : ℕ) (up : Bool) (next : Option (List ℕ)) (e : step_answer (layout_of plan) xs k up ≡ answered next) where
  few_inside : (ys : List ℕ) → Inside (layout_of plan).cuts ys → length ys ≤ 5
  few_inside ys inside =
      let s = shaped plan ((step_answered (layout_of plan) xs k up next).0 e).0 in
      omega (arith, inside-length (layout_of plan).cuts ys inside, cuts_length plan s, s.d_high)

  pub step_few : length xs ≤ 5
  step_few = few_inside xs ((step_answered (layout_of plan) xs k up next).0 e).2

  pub step-next_length : (ys : List ℕ) → next ≡ some ys → length ys ≡ length xs
  step-next_length ys is_some =
      let h = (step_answered (layout_of plan) xs k up next).0 e in
      inside-length (layout_of plan).cuts ys (one_step_on_inside (layout_of plan).cuts xs ys (k - 1) up h.2 (h.3 ∙ is_some))
      ∙ sym (inside-length (layout_of plan).cuts xs h.2)
