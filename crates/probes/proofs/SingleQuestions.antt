-- What the call answers, beside what the single question answers about each element: for any plan, any list of elements and any second list.
use mathlib.Core.Path.{◌≡◌, refl, sym, ap, ◌∙◌}
use mathlib.Core.Bool.{Bool, true, false, not, cond}
use mathlib.Core.List.{List, [], ◌∷◌, ◌++◌, map}
use mathlib.Core.Logic.{◌↔◌}
use Prim.Native.Nat.{ℕ, ◌+◌, ◌-◌, ◌≤◌, ◌<◌}
use native.Mathlib.Decide.{dec_le}
use native.Mathlib.Omega.{arith}
use borrow.Author.Tests.{leb-true, le-leb, ltb-false, eqb-true, eq-eqb, ne_eqb, not-false}
use lib.Dec.{leb, ltb, eqb}
use lib.ListN.{length, get_or, drop, length-append, length-drop, length-map, get_or-append}
use lib.Seq.{ext_get_or, get_or-append-add, get_or-drop}
use Rattle.multipartition.specs.Answers.{Answer, answered, refused, Check}
use Rattle.multipartition.specs.Lists.{all_below}
use Rattle.multipartition.specs.Plans.{Layout, between, in_shape}
use Rattle.multipartition.specs.Slabs.{slab_of}
use Rattle.multipartition.specs.Questions.{extent_of, cut_of, shape_check, dimension_check, range_check, length_check, slab_of_answer}
use Rattle.multipartition.proofs.Answers.{answers_iff}
use Rattle.multipartition.proofs.Tiles.{get_d_map}
use Rattle.multipartition.proofs.BothWays.{slab_of_answered}
use Rattle.probes.specs.Probes.{all_within, first_fall, rising_check, slabs_into, probes_answer}
use Rattle.probes.specs.SingleQuestions.{FallsFirst, Answerable, Singly}
use Rattle.probes.proofs.Falls.{first_fall_iff, no_fall_iff}
use Rattle.probes.proofs.Ranges.{all_within_iff}

-- a refusal as one of another answer
abbrev refusal : Answer ℕ → Answer (List ℕ)
refusal (answered a) = answered []
refusal (refused number place) = refused number place

-- ---- the second list, place by place

module _ (n b : ℕ) (elements lent : List ℕ) where
  pub slabs_front : (i : ℕ) → i < length elements → get_or (slabs_into n b elements lent) i 0 ≡ slab_of n b (get_or elements i 0)
  unfolding slabs_into
  slabs_front i l =
      get_or-append (map (slab_of n b) elements) (drop (length elements) lent) 0 i (rw (length-map elements (slab_of n b)) l)
      ∙ get_d_map (slab_of n b) 0 0 elements i l

  pub slabs_behind : (i : ℕ) → length elements ≤ i → get_or (slabs_into n b elements lent) i 0 ≡ get_or lent i 0
  unfolding slabs_into
  slabs_behind i l =
      let front = map (slab_of n b) elements in
      let back = drop (length elements) lent in
      let past = i - length elements in
      let here : i ≡ length front + past = omega (arith, length-map elements (slab_of n b)) in
      let there : length elements + past ≡ i = omega arith in
      ap (λ (j : ℕ). get_or (front ++ back) j 0) here
      ∙ get_or-append-add front back past 0
      ∙ get_or-drop (length elements) lent past 0
      ∙ ap (λ (j : ℕ). get_or lent j 0) there

  pub slabs_many : length elements ≤ length lent → length (slabs_into n b elements lent) ≡ length lent
  unfolding slabs_into
  slabs_many l =
      length-append (map (slab_of n b) elements) (drop (length elements) lent)
      ∙ omega (arith, length-map elements (slab_of n b), length-drop (length elements) lent)

-- ---- what it takes for a list to be answered

module _ (plan : Layout) (k : ℕ) (elements lent : List ℕ) where
  abbrev n : ℕ
  n = extent_of plan k

  abbrev b : ℕ
  b = cut_of plan k

  pub probes_answered : (slabs : List ℕ) → (probes_answer plan k elements lent ≡ answered slabs)
      ↔ (Answerable plan k elements lent × (slabs_into (extent_of plan k) (cut_of plan k) elements lent ≡ slabs))
  unfolding probes_answer
  probes_answered slabs = (there, back)
    where
      checks : List Check
      checks =
          shape_check plan
          ∷ dimension_check plan k
          ∷ range_check (all_within n elements)
          ∷ length_check (leb (length elements) (length lent))
          ∷ rising_check elements
          ∷ []

      there : probes_answer plan k elements lent ≡ answered slabs → Answerable plan k elements lent × (slabs_into n b elements lent ≡ slabs)
      there e =
          let h = (answers_iff checks (slabs_into n b elements lent) slabs).0 e in (
            record {
              shape = not-false (in_shape plan) h.0.0;
              dimension = not-false (between 1 plan.d k) h.0.1.0;
              rising = record {
                within = (all_within_iff n elements).0 (not-false (all_within n elements) h.0.1.1.0);
                rises = (no_fall_iff elements).0 (eqb-true _ _ (not-false (eqb (first_fall elements) 0) h.0.1.1.1.1.0));
              };
              long = leb-true _ _ (not-false (leb (length elements) (length lent)) h.0.1.1.1.0);
            },
            h.1,
          )

      back : Answerable plan k elements lent × (slabs_into n b elements lent ≡ slabs) → probes_answer plan k elements lent ≡ answered slabs
      back (asked, e) =
          rw (
            asked.shape,
            asked.dimension,
            (all_within_iff n elements).1 asked.rising.within,
            le-leb _ _ asked.long,
            eq-eqb _ _ ((no_fall_iff elements).1 asked.rising.rises),
          )
          (ap answered e)

  -- "Each answer equals that of the single question": the call answers with these slabs exactly if no check turns the line down and each place has
  -- what the single question answers about its element, or, past the elements, what was lent
  pub answered_iff_singly : (slabs : List ℕ)
      → (probes_answer plan k elements lent ≡ answered slabs) ↔ (Answerable plan k elements lent × Singly plan k elements lent slabs)
  answered_iff_singly slabs = (there, back)
    where
      there : probes_answer plan k elements lent ≡ answered slabs → Answerable plan k elements lent × Singly plan k elements lent slabs
      there e =
          let h = (probes_answered slabs).0 e in
          let asked = h.0 in (
            asked,
            record {
              many = rw (← h.1) (slabs_many n b elements lent asked.long);
              each = λ i l. (slab_of_answered plan k (get_or elements i 0) (get_or slabs i 0)).1
                  (asked.shape, asked.dimension, asked.rising.within i l, rw (← h.1) (sym (slabs_front n b elements lent i l)));
              kept = λ i l. rw (← h.1) (slabs_behind n b elements lent i l);
            },
          )

      back : Answerable plan k elements lent × Singly plan k elements lent slabs → probes_answer plan k elements lent ≡ answered slabs
      back (asked, h) = (probes_answered slabs).1 (asked, same)
        where
          at : (i : ℕ) → Dec (length elements ≤ i) → get_or (slabs_into n b elements lent) i 0 ≡ get_or slabs i 0
          at i (yes l) = slabs_behind n b elements lent i l ∙ sym (h.kept i l)
          at i (no m) =
              let l : i < length elements = omega arith in
              slabs_front n b elements lent i l ∙ ((slab_of_answered plan k (get_or elements i 0) (get_or slabs i 0)).0 (h.each i l)).3

          same : slabs_into n b elements lent ≡ slabs
          same = ext_get_or 0 _ _ (slabs_many n b elements lent asked.long ∙ sym h.many) (λ i l. at i (dec_le (length elements) i))

  -- an element that the single question refuses, the call refuses with the same number and place
  pub refused_as_singly : (i number place : ℕ) → i < length elements → slab_of_answer plan k (get_or elements i 0) ≡ refused number place
      → probes_answer plan k elements lent ≡ refused number place
  unfolding slab_of_answer probes_answer
  refused_as_singly i number place l e = go (in_shape plan) (between 1 plan.d k) (ltb (get_or elements i 0) n) refl (all_within n elements) refl _ _ e
    where
      go : (shape dimension here : Bool) → ltb (get_or elements i 0) n ≡ here → (all : Bool) → all_within n elements ≡ all
          → (slab : ℕ) (later : Answer (List ℕ))
          → cond (not shape) (refused 6 0) (cond (not dimension) (refused 7 0) (cond (not here) (refused 8 0) (answered slab))) ≡ refused number place
          → cond (not shape) (refused 6 0) (cond (not dimension) (refused 7 0) (cond (not all) (refused 8 0) later)) ≡ refused number place
      go false dimension here f all g slab later e = ap refusal e
      go true false here f all g slab later e = ap refusal e
      go true true false f false g slab later e = ap refusal e
      go true true false f true g slab later e = absurd (omega (arith, ltb-false (get_or elements i 0) n f, (all_within_iff n elements).0 g i l))
      go true true true f all g slab later e = let clash : ◌≡◌ {A = ℕ} 0 1 = cc in absurd (omega arith)

-- "an empty list is accepted"
pub empty_answered : (plan : Layout) (k : ℕ) (lent : List ℕ) → in_shape plan ≡ true → between 1 plan.d k ≡ true
    → probes_answer plan k [] lent ≡ answered lent
unfolding probes_answer all_below all_within first_fall slabs_into
empty_answered plan k lent shape dimension = rw (shape, dimension, le-leb 0 (length lent) (omega arith)) refl

-- "with the place of the first such counted from 1": where nothing comes before it, a fall is refused with its place
pub fall_refused : (plan : Layout) (k : ℕ) (elements lent : List ℕ) (i : ℕ) → in_shape plan ≡ true → between 1 plan.d k ≡ true
    → ((j : ℕ) → j < length elements → get_or elements j 0 < extent_of plan k) → length elements ≤ length lent → FallsFirst elements i
    → probes_answer plan k elements lent ≡ refused 14 (i + 2)
unfolding probes_answer
fall_refused plan k elements lent i shape dimension within long falls =
    let place = (first_fall_iff elements i).1 falls in
    rw (
      shape,
      dimension,
      (all_within_iff (extent_of plan k) elements).1 within,
      le-leb _ _ long,
      place,
      ne_eqb (i + 2) 0 (λ e. absurd (omega arith)),
    )
    refl
