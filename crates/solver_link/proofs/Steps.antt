-- The numbers of a step over the link: 1 and the coordinates, or as many zeros, at the front of six places.
use mathlib.Core.Path.{◌≡◌, refl, sym, ap, ◌∙◌}
use mathlib.Core.Bool.{Bool}
use mathlib.Core.List.{List, ◌∷◌}
use Prim.Native.Nat.{ℕ, zero, suc, ◌+◌, ◌≤◌}
use native.Mathlib.Omega.{arith}
use native.Mathlib.Numerals.{add-one}
use lib.ListN.{length, take, replicate}
use Rattle.std.specs.Prelude.{Option, None, Some}
use Rattle.std.proofs.Math.Option as maths
use Rattle.multipartition.specs.Answers.{answered}
use Rattle.multipartition.specs.Questions.{step_answer}
use Rattle.layout.specs.declared.Plan.{Plan}
use Rattle.layout.specs.Plans.{layout_of}
use Rattle.tiles.specs.declared.positions.Position.{Position}
use Rattle.tiles.specs.Positions.{coordinates, position_with}
use Rattle.tiles.specs.Answers.{moved_to}
use Rattle.tiles.proofs.Coordinates.{length-coordinates}
use Rattle.link_lists.proofs.Positions.{step_with, step_few, step-next_length, coordinates_front}
use Rattle.solver_link.specs.Link.{step_places, step_numbers}

module _ (plan : Plan) (xs : List ℕ) (position : Position) (is : position ≡ position_with xs) (k : ℕ) (up : Bool) (next : Option Position)
    (told : answered (moved_to next) ≡ step_answer (layout_of plan) (coordinates position) k up) where
  pub stepped : step_answer (layout_of plan) xs k up ≡ answered (moved_to next)
  stepped = sym (told ∙ ap (λ (p : Position). step_answer (layout_of plan) (coordinates p) k up) is ∙ step_with plan xs k up)

  pub few : length xs ≤ 5
  few = step_few plan xs k up (moved_to next) stepped

  pub front : length (step_places next) ≡ 6 → take (length xs + 1) (step_places next) ≡ step_numbers (length xs) (moved_to next)
  front long = rw (add-one (length xs)) (go next long (λ ys e. step-next_length plan xs k up (moved_to next) stepped ys e))
    where
      zeros : (n m : ℕ) → n ≤ m → take {A = ℕ} n (replicate m 0) ≡ replicate n 0
      zeros zero m l = refl
      zeros (suc n) zero l = absurd (omega arith)
      zeros (suc n) (suc m) l = ap (λ (rest : List ℕ). 0 ∷ rest) (zeros n m (omega arith))

      go : (to : Option Position) → length (step_places to) ≡ 6 → ((ys : List ℕ) → moved_to to ≡ maths.some ys → length ys ≡ length xs)
          → take (suc (length xs)) (step_places to) ≡ step_numbers (length xs) (moved_to to)
      go None long same = ap (λ (rest : List ℕ). 0 ∷ rest) (zeros (length xs) 5 few)
      go (Some p) long same =
          let d : p.d ≡ length xs = sym (length-coordinates p) ∙ same (coordinates p) refl in
          ap (λ (rest : List ℕ). 1 ∷ rest) (ap (λ (n : ℕ). take n p.at) (sym d) ∙ sym (coordinates_front p (omega (arith, few))))
