-- The answers to the two questions, by the checks that a call passes or fails.
use mathlib.Core.Path.{◌≡◌, refl}
use mathlib.Core.Bool.{Bool, true, false, not, cond, ◌&&◌}
use mathlib.Core.List.{List}
use mathlib.Core.Option.{Option, none, some}
use lib.Dec.{leb, ltb}
use Prim.Native.Nat.{ℕ, ◌-◌, ◌≤◌, ◌<◌}
use borrow.Author.Tests.{le-leb, lt-ltb, le-ltb, eq-eqb, ne_eqb}
use Rattle.multipartition.specs.Answers.{Answer, answered, refused}
use Rattle.multipartition.specs.Owners.{owner_at}
use Rattle.multipartition.specs.Neighbours.{next_owner, neighbour_at}
use Rattle.multipartition.specs.Tiles.{is_inside}
use Rattle.multipartition.specs.Plans.{Layout, between, in_shape}
use Rattle.questions.specs.Told.{in_32_bits}
use Rattle.multipartition.specs.Questions.{cut_of, owner_answer, neighbour_answer}

module _ (plan : Layout) (position : List ℕ) where
  pub owner_of_misshapen : in_shape plan ≡ false → owner_answer plan position ≡ refused 6 0
  unfolding owner_answer
  owner_of_misshapen e = rw e

  pub owner_of_outside : in_shape plan ≡ true → is_inside plan.cuts position ≡ false → owner_answer plan position ≡ refused 8 0
  unfolding owner_answer
  owner_of_outside e o = rw (e, o)

  pub owner_of_inside : in_shape plan ≡ true → is_inside plan.cuts position ≡ true
      → owner_answer plan position ≡ answered (owner_at plan.moduli plan.matrix position)
  unfolding owner_answer
  owner_of_inside e i = rw (e, i)

module _ (plan : Layout) (q k : ℕ) (up : Bool) where
  pub neighbour_of_misshapen : in_shape plan ≡ false → neighbour_answer plan q k up ≡ refused 6 0
  unfolding neighbour_answer
  neighbour_of_misshapen e = rw e

  module _ (shape : in_shape plan ≡ true) where
    pub neighbour_no-dimension : between 1 plan.d k ≡ false → neighbour_answer plan q k up ≡ refused 7 0
    unfolding neighbour_answer
    neighbour_no-dimension e = rw (shape, e)

    module _ (low : 1 ≤ k) (high : k ≤ plan.d) where
      pub neighbour_above-processors : plan.p ≤ q → neighbour_answer plan q k up ≡ refused 8 0
      unfolding neighbour_answer
      neighbour_above-processors l = rw (shape, le-leb 1 k low, le-leb k plan.d high, le-ltb q plan.p l)

      pub no_neighbour : q < plan.p → cut_of plan k ≡ 1 → neighbour_answer plan q k up ≡ answered none
      unfolding neighbour_answer neighbour_at
      no_neighbour l e = rw (shape, le-leb 1 k low, le-leb k plan.d high, lt-ltb q plan.p l, eq-eqb (cut_of plan k) 1 e)

      pub a_neighbour : q < plan.p → (cut_of plan k ≡ 1 → ⊥)
          → neighbour_answer plan q k up ≡ answered (some (next_owner plan.moduli plan.matrix (k - 1) up q))
      unfolding neighbour_answer neighbour_at
      a_neighbour l e = rw (shape, le-leb 1 k low, le-leb k plan.d high, lt-ltb q plan.p l, ne_eqb (cut_of plan k) 1 e)

-- every refusal of the question has the place 0
pub neighbour_in_32_bits : (plan : Layout) (q k : ℕ) (up : Bool) → in_32_bits (neighbour_answer plan q k up) ≡ neighbour_answer plan q k up
unfolding neighbour_answer
neighbour_in_32_bits plan q k up = go (not (in_shape plan)) (not (leb 1 k && leb k plan.d)) (not (ltb q plan.p)) _
  where
    go : (a b c : Bool) (found : Option ℕ) → let answer : Answer (Option ℕ) = cond a (refused 6 0) (cond b (refused 7 0) (cond c (refused 8 0) (answered found))) in
        in_32_bits answer ≡ answer
    go true b c found = refl
    go false true c found = refl
    go false false true found = refl
    go false false false found = refl
