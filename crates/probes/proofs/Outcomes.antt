-- How the call comes out, once the plan has the dimension: its checks, and what it answers.
use mathlib.Core.Path.{◌≡◌, refl, ap}
use mathlib.Core.Bool.{Bool, true, false, cond}
use mathlib.Core.List.{List, [], ◌∷◌}
use Prim.Native.Nat.{ℕ, suc}
use native.Mathlib.Omega.{arith}
use borrow.Author.Tests.{eqb-true}
use lib.Dec.{leb, eqb}
use lib.ListN.{length}
use Rattle.std.specs.Prelude.{Option, None, Some}
use Rattle.multipartition.specs.Answers.{answered, refused, Check, checked}
use Rattle.multipartition.specs.Questions.{extent_of, cut_of, range_check, length_check}
use Rattle.layout.specs.declared.Plan.{Plan}
use Rattle.layout.specs.Plans.{layout_of}
use Rattle.layout.specs.Checked.{axis_checks}
use Rattle.refusals.proofs.Laws.{turned_back-on, passed-on}
use Rattle.tiles.specs.Answers.{slabs_answer}
use Rattle.probes.specs.Probes.{all_within, first_fall, fall_in, rising_check, slabs_into, probes_answer}

-- the checks of a dimension of n elements
abbrev pub line_checks : ℕ → List ℕ → List ℕ → List Check
line_checks n elements lent =
    range_check (all_within n elements) ∷ length_check (leb (length elements) (length lent)) ∷ rising_check elements ∷ []

module _ (plan : Plan) (k : ℕ) (elements lent : List ℕ) where
  abbrev n : ℕ
  n = extent_of (layout_of plan) k

  abbrev b : ℕ
  b = cut_of (layout_of plan) k

  pub turned_back : {number place : ℕ} → refused number place ≡ slabs_answer plan k → refused number place ≡ probes_answer (layout_of plan) k elements lent
  unfolding probes_answer
  turned_back e = turned_back-on (axis_checks plan k) (line_checks n elements lent) (n, b) (answered (slabs_into n b elements lent)) e

  pub passed : (extent cut : ℕ) → answered (extent, cut) ≡ slabs_answer plan k
      → probes_answer (layout_of plan) k elements lent ≡ checked (line_checks extent elements lent) (answered (slabs_into extent cut elements lent))
  unfolding probes_answer
  passed extent cut e =
      let h = passed-on (axis_checks plan k) (line_checks n elements lent) (n, b) (extent, cut) (answered (slabs_into n b elements lent)) e in
      let extent_is : extent ≡ n = ap (λ (ends : ℕ × ℕ). ends.0) h.0 in
      let cut_is : cut ≡ b = ap (λ (ends : ℕ × ℕ). ends.1) h.0 in
      rw (extent_is, cut_is) h.1

-- ---- what the look for a fall says

place_or : Option ℕ → ℕ
place_or None = 0
place_or (Some place) = suc place

module _ (elements : List ℕ) where
  pub fall_none : None ≡ fall_in elements → first_fall elements ≡ 0
  unfolding place_or
  fall_none = go (eqb (first_fall elements) 0) refl
    where
      go : (t : Bool) → eqb (first_fall elements) 0 ≡ t → None ≡ cond t None (Some (first_fall elements)) → first_fall elements ≡ 0
      go true f e = eqb-true _ _ f
      go false f e = let clash : 0 ≡ suc (first_fall elements) = ap place_or e in absurd (omega (arith, clash))

  pub fall_some : (place : ℕ) → Some place ≡ fall_in elements → (first_fall elements ≡ place) × (eqb (first_fall elements) 0 ≡ false)
  unfolding place_or
  fall_some place = go (eqb (first_fall elements) 0) refl
    where
      go : (t : Bool) → eqb (first_fall elements) 0 ≡ t → Some place ≡ cond t None (Some (first_fall elements))
          → (first_fall elements ≡ place) × (eqb (first_fall elements) 0 ≡ false)
      go true f e = let clash : suc place ≡ 0 = ap place_or e in absurd (omega (arith, clash))
      go false f e = let same : suc place ≡ suc (first_fall elements) = ap place_or e in (omega (arith, same), f)
