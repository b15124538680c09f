-- How long a printed plan is: no number of it but the cost has more than four digits.
use mathlib.Core.Path.{◌≡◌, refl, ◌∙◌}
use mathlib.Core.Bool.{Bool, true, false}
use mathlib.Core.List.{List, ◌∷◌}
use Prim.Native.Nat.{ℕ, zero, suc, ◌+◌, ◌*◌, ◌^◌, ◌≤◌, ◌<◌}
use native.Mathlib.Omega.{arith}
use lib.Dec.{eqb}
use lib.ListN.{length, take, drop, get_or, length-append, length-take}
use lib.Seq.{get_or-take, get_or-drop}
use borrow.Author.Tests.{eqb-true, eqb-false}
use Rattle.numerals.specs.Words.{bytes_of}
use Rattle.numerals.specs.Decimal.{decimal}
use Rattle.numerals.specs.Lines.{line_of}
use Rattle.numerals.proofs.Decimal.{length-decimal}
use Rattle.numerals.proofs.Lines.{length_line}
use Rattle.multipartition.specs.Lists.{list_of}
use Rattle.multipartition.specs.Neighbours.{next_owner}
use Rattle.multipartition.proofs.Chains.{length-list_of, get_d-list_of}
use Rattle.multipartition.proofs.Neighbours.{next_owner_below}
use Rattle.multipartition.proofs.Plans.{in_shape_moduli_positive}
use Rattle.layout.specs.declared.Plan.{Plan}
use Rattle.layout.specs.Plans.{layout_of}
use Rattle.layout.specs.Shaped.{entry_of, Shaped}
use Rattle.layout.proofs.Places.{row_at, cuts_length, moduli_length, cut_at, modulus-at}
use Rattle.layout.proofs.Shaped.{in_shape_of_shaped}
use Rattle.plan_text.specs.PlanText.{joined, row_line, up_line, plan_text, refused_text}
use Rattle.plan_text.proofs.Lines.{up_none, up-processors}

-- n texts of at most c bytes each
length-joined : (n c : ℕ) (f : ℕ → List ℕ) → ((i : ℕ) → i < n → length (f i) ≤ c) → length (joined n f) ≤ n * c
unfolding joined
length-joined zero c f h = omega arith
length-joined (suc n) c f h =
    omega (arith, length-append (joined n f) (f n), length-joined n c f (λ i l. h i (omega arith)), h n (omega arith))

-- at most five numbers of at most four digits
length_short : (ns : List ℕ) → length ns ≤ 5 → ((i : ℕ) → i < length ns → get_or ns i 0 ≤ 4096) → length (line_of ns) ≤ 25
length_short ns few small = omega (arith, length_line 3 ns (λ i l. omega (arith, small i l)))

module _ (plan : Plan) (s : Shaped plan) where
  length_cuts : length (line_of (layout_of plan).cuts) ≤ 25
  length_cuts =
      let long = cuts_length plan s in
      length_short (layout_of plan).cuts (omega (arith, s.d_high))
      (λ i l. omega (arith, cut_at plan i (omega arith), s.cut_high i (omega arith)))

  length_moduli : length (line_of (layout_of plan).moduli) ≤ 25
  length_moduli =
      let long = moduli_length plan s in
      length_short (layout_of plan).moduli (omega (arith, s.d_high))
      (λ i l. omega (arith, modulus-at plan i (omega arith), s.modulus_high i (omega arith), s.p_high))

  length_row : (i : ℕ) → i < plan.d → length (row_line (layout_of plan).matrix i) ≤ 29
  unfolding layout_of
  length_row i l =
      let row : List ℕ = take plan.d (drop (i * 5) plan.matrix) in
      let long : length row ≤ plan.d = omega (arith, length-take plan.d (drop (i * 5) plan.matrix)) in
      let entry : (j : ℕ) → j < plan.d → get_or row j 0 ≡ entry_of plan.matrix i j =
      λ j m. get_or-take plan.d (drop (i * 5) plan.matrix) j 0 m ∙ get_or-drop (i * 5) plan.matrix j 0 in
      let short : length (line_of row) ≤ 25 =
      length_short row (omega (arith, s.d_high))
      (λ j m. omega (arith, entry j (omega arith), s.entry_below i j l (omega arith), s.modulus_high i l, s.p_high)) in
      rw (row_at plan.d plan.matrix i l) (omega arith)

  -- the number of the dimension has one digit, and a neighbour is a processor
  length_up : (k : ℕ) → k < plan.d → length (up_line (layout_of plan) (suc k)) ≤ 20485
  unfolding layout_of
  length_up k l = go (eqb (get_or (layout_of plan).cuts k 0) 1) refl
    where
      one : length (decimal (suc k)) ≤ 1
      one = length-decimal 0 (suc k) (omega (arith, s.d_high))

      next : ℕ → ℕ
      next = next_owner (layout_of plan).moduli (layout_of plan).matrix k true

      short : length (line_of (list_of 0 (layout_of plan).p next)) ≤ 20480
      short =
          let long = length-list_of 0 (layout_of plan).p next in
          omega (
            arith,
            s.p_high,
            length_line 3 (list_of 0 (layout_of plan).p next)
                (λ q m. omega (arith, get_d-list_of 0 (layout_of plan).p next q (omega arith), next_owner_below (layout_of plan).moduli (layout_of plan).matrix (in_shape_moduli_positive (layout_of plan) (in_shape_of_shaped plan s)) k true (0 + q), s.moduli_product, s.p_high)),
          )

      go : (t : Bool) → eqb (get_or (layout_of plan).cuts k 0) 1 ≡ t → length (up_line (layout_of plan) (suc k)) ≤ 20485
      go true e =
          rw (up_none (layout_of plan) k (eqb-true _ _ e))
          (omega (arith, one, length-append (decimal (suc k)) (32 ∷ bytes_of "none\n")))
      go false e =
          rw (up-processors (layout_of plan) k s.p_low (eqb-false _ _ e))
          (omega (arith, one, short, length-append (decimal (suc k)) (32 ∷ line_of (list_of 0 (layout_of plan).p next))))

-- so many bytes hold every plan whose cost has at most twenty digits
abbrev pub longest_plan : ℕ
longest_plan = 102667

pub length-plan_text : (plan : Plan) → Shaped plan → plan.cost < 10 ^ 20 → length (plan_text (layout_of plan)) ≤ longest_plan
unfolding plan_text layout_of
length-plan_text plan s h =
    let few = s.d_high in
    let p = length-decimal 3 plan.p (omega (arith, s.p_high)) in
    let d = length-decimal 0 plan.d (omega arith) in
    let cuts = length_cuts plan s in
    let cost = length-decimal 19 plan.cost h in
    let moduli = length_moduli plan s in
    let rows = length-joined plan.d 29 (row_line (layout_of plan).matrix) (length_row plan s) in
    let ups = length-joined plan.d 20485 (λ i. up_line (layout_of plan) (suc i)) (length_up plan s) in
    simp length-append (omega arith)

-- ---- a refusal

pub length-refused_text : (k number place : ℕ) → number < 10 ^ suc k → place < 10 ^ suc k → length (refused_text number place) ≤ 10 + 2 * suc k
length-refused_text k number place h l =
    let n = length-decimal k number h in
    let p = length-decimal k place l in
    simp length-append (omega arith)
