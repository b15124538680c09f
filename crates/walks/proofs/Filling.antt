-- How the walks' loops fill their five places, one place more at a time. Places are counted from 0.
use mathlib.Core.Path.{◌≡◌, refl, sym, ap, ◌∙◌}
use mathlib.Core.Bool.{Bool}
use mathlib.Core.List.{List}
use mathlib.Core.Logic.{◌≢◌}
use Prim.Native.Nat.{ℕ, suc, ◌+◌, ◌*◌, ◌/◌, ◌%◌, ◌≤◌, ◌<◌}
use native.Mathlib.Nat.{le_trans, mod-lt, div-one, div-div-eq-div-mul}
use native.Mathlib.Decide.{dec_le}
use native.Mathlib.Omega.{arith}
use lib.ListN.{length, get_or, set, take, replicate, length-set, get_or-replicate, get_or-eq_default}
use lib.Seq.{get_or-take, length-take-le, get_or-set_same, get_or-set_other}
use Rattle.multipartition.specs.MixedRadix.{number_from, digits_of}
use Rattle.multipartition.proofs.MixedRadix.{length_digits, digit_at, number-ext}
use Rattle.layout.specs.declared.Plan.{Plan}
use Rattle.layout.specs.Plans.{layout_of}
use Rattle.layout.specs.Shaped.{entry_of, Shaped}
use Rattle.layout.proofs.Lists.{le-length, product_front, factor-le}
use Rattle.layout.proofs.Owners.{number_none, number-add-one, number_front_below}
use Rattle.layout.proofs.Places.{moduli_length}
use Rattle.walks.specs.declared.Coordinated.{Coordinated}
use Rattle.walks.specs.declared.Stride.{Stride}
use Rattle.walks.specs.Walks.{stride_of, Walkable}
use Rattle.questions.proofs.Bounds.{reduced_of_shaped}
use Rattle.questions.proofs.Neighbours.{radix_at, radix_last, radix-suc}

-- a place holds f that did so before or is the place i that f i is stored at
pub set_at : (f : ℕ → ℕ) (at : List ℕ) (i x : ℕ) → i < length at → x ≡ f i → (j : ℕ) → (j ≢ i → get_or at j 0 ≡ f j) → get_or (set at i x) j 0 ≡ f j
set_at f at i x l e j h = go (dec_le i j) (dec_le j i)
  where
    other : j ≢ i → get_or (set at i x) j 0 ≡ f j
    other differ = get_or-set_other at i j x 0 differ ∙ h differ

    go : Dec (i ≤ j) → Dec (j ≤ i) → get_or (set at i x) j 0 ≡ f j
    go (yes low) (yes high) = let same : i ≡ j = omega arith in rw (← same) (get_or-set_same at i x 0 l ∙ e)
    go (yes low) (no high) = other (λ same. absurd (omega arith))
    go (no low) high = other (λ same. absurd (omega arith))

-- ---- the coordinates of a processor, from the last to the first

-- those from place i on stand, and `left` is what is left of the processor
pub record Standing (plan : Plan) (processor i left : ℕ) (at : List ℕ) : Type 0 where
  pub places : length at ≡ 5
  pub left_is : left ≡ processor / radix_at plan.d plan.moduli i
  pub coordinate_is : (j : ℕ) → i ≤ j → j < 5 → get_or at j 0 ≡ get_or (digits_of (layout_of plan).moduli processor) j 0

module _ (plan : Plan) (s : Shaped plan) (q : ℕ) where
  pub standing_none : Standing plan q plan.d q (replicate 5 0)
  standing_none =
      record {
        places = refl;
        left_is = rw (radix_last plan.d plan.moduli plan.matrix (reduced_of_shaped plan s)) (sym (div-one q));
        coordinate_is = λ j low high. get_or-replicate 5 j 0 0 high
            ∙ sym (get_or-eq_default (digits_of (layout_of plan).moduli q) 0 (omega (arith, length_digits (layout_of plan).moduli q, moduli_length plan s)));
      }

  digit : (i left : ℕ) → i < plan.d → left ≡ q / radix_at plan.d plan.moduli (suc i)
      → left % get_or plan.moduli i 0 ≡ get_or (digits_of (layout_of plan).moduli q) i 0
  unfolding radix_at layout_of
  digit i left l e =
      sym (digit_at (take plan.d plan.moduli) q i (omega (arith, moduli_length plan s)) ∙ rw (get_or-take plan.d plan.moduli i 0 l, e))

  -- the coordinate of dimension i, whose modulus is m
  pub standing-next : (n i m left : ℕ) (at : List ℕ) → n ≡ i + 1 → i < plan.d → m ≡ get_or plan.moduli i 0 → Standing plan q n left at
      → Standing plan q i (left / m) (set at i (left % m))
  standing-next n i m left at next l here w =
      let to : n ≡ suc i = omega arith in
      let was : Standing plan q (suc i) left at = rw to at w in
      rw here
      (record {
        places = length-set at i _ ∙ was.places;
        left_is = rw was.left_is (div-div-eq-div-mul q (radix_at plan.d plan.moduli (suc i)) (get_or plan.moduli i 0)
            ∙ ap (λ (r : ℕ). q / r) (sym (radix-suc plan.d plan.moduli plan.matrix (reduced_of_shaped plan s) i l)));
        coordinate_is = λ j from to. set_at (λ j. get_or (digits_of (layout_of plan).moduli q) j 0) at i _ (omega (arith, was.places, s.d_high))
            (digit i left l was.left_is) j (λ differ. was.coordinate_is j (omega arith) to);
      })

-- ---- the stride

-- the first i places stand, the others add 0 modulo 1
pub record Striding (plan : Plan) (k : ℕ) (up : Bool) (i : ℕ) (moduli added : List ℕ) : Type 0 where
  pub moduli_places : length moduli ≡ 5
  pub added_places : length added ≡ 5
  pub modulus_is : (j : ℕ) → j < i → get_or moduli j 0 ≡ get_or plan.moduli j 0
  pub modulus_past : (j : ℕ) → i ≤ j → j < 5 → get_or moduli j 0 ≡ 1
  pub added_is : (j : ℕ) → j < i → get_or added j 0 ≡ stride_of up (get_or plan.moduli j 0) (entry_of plan.matrix j k)
  pub added_past : (j : ℕ) → i ≤ j → j < 5 → get_or added j 0 ≡ 0

module _ (plan : Plan) (k : ℕ) (up : Bool) where
  pub striding_none : Striding plan k up 0 (replicate 5 1) (replicate 5 0)
  striding_none =
      record {
        moduli_places = refl;
        added_places = refl;
        modulus_is = λ j l. absurd (omega arith);
        modulus_past = λ j low high. get_or-replicate 5 j 1 0 high;
        added_is = λ j l. absurd (omega arith);
        added_past = λ j low high. get_or-replicate 5 j 0 0 high;
      }

  pub striding-next : (i x : ℕ) (moduli added : List ℕ) → i < 5 → x ≡ stride_of up (get_or plan.moduli i 0) (entry_of plan.matrix i k)
      → Striding plan k up i moduli added → Striding plan k up (i + 1) (set moduli i (get_or plan.moduli i 0)) (set added i x)
  striding-next i x moduli added l e w =
      record {
        moduli_places = length-set moduli i _ ∙ w.moduli_places;
        added_places = length-set added i x ∙ w.added_places;
        modulus_is = λ j m. set_at (λ j. get_or plan.moduli j 0) moduli i _ (omega (arith, w.moduli_places)) refl j
            (λ differ. w.modulus_is j (omega arith));
        modulus_past = λ j low high. get_or-set_other moduli i j _ 0 (λ same. absurd (omega arith)) ∙ w.modulus_past j (omega arith) high;
        added_is = λ j m. set_at (λ j. stride_of up (get_or plan.moduli j 0) (entry_of plan.matrix j k)) added i x (omega (arith, w.added_places)) e j
            (λ differ. w.added_is j (omega arith));
        added_past = λ j low high. get_or-set_other added i j x 0 (λ same. absurd (omega arith)) ∙ w.added_past j (omega arith) high;
      }

-- ---- one stride on

-- coordinate i, one stride on
abbrev pub onward : Stride → Coordinated → ℕ → ℕ
onward stride from i = (get_or from.coordinates i 0 + get_or stride.added i 0) % get_or stride.moduli i 0

-- the first i of them stand, and the number that they make
pub record Stepping (stride : Stride) (from : Coordinated) (i number : ℕ) (at : List ℕ) : Type 0 where
  pub places : length at ≡ 5
  pub number_is : number ≡ number_from 0 (take i stride.moduli) at
  pub coordinate_is : (j : ℕ) → j < i → get_or at j 0 ≡ onward stride from j

module _ (stride : Stride) (from : Coordinated) (w : Walkable stride from) where
  modulus_low : (i : ℕ) → i < 5 → 1 ≤ get_or stride.moduli i 0
  modulus_low i l = omega (arith, w.added_below i l)

  moduli_long : 5 ≤ length stride.moduli
  moduli_long = le-length 5 stride.moduli modulus_low

  pub stride_modulus_high : (i : ℕ) → i < 5 → get_or stride.moduli i 0 ≤ 4096
  stride_modulus_high i l = le_trans (factor-le stride.moduli 5 moduli_long modulus_low i l) w.product_high

  pub stepping_none : Stepping stride from 0 0 (replicate 5 0)
  stepping_none =
      record { places = refl; number_is = sym (number_none 0 stride.moduli (replicate 5 0)); coordinate_is = λ j l. absurd (omega arith) }

  pub stepping-next : (i number x : ℕ) (at : List ℕ) → i < 5 → x ≡ onward stride from i → Stepping stride from i number at
      → Stepping stride from (i + 1) (number * get_or stride.moduli i 0 + x) (set at i x)
  stepping-next i number x at l e t =
      record {
        places = length-set at i x ∙ t.places;
        number_is = rw (number-add-one 0 stride.moduli (set at i x) i (omega (arith, moduli_long)), get_or-set_same at i x 0 (omega (arith, t.places)), t.number_is, before);
        coordinate_is = λ j m. set_at (onward stride from) at i x (omega (arith, t.places)) e j (λ differ. t.coordinate_is j (omega arith));
      }
    where
      -- the number before does not rest on place i
      before : number_from 0 (take i stride.moduli) at ≡ number_from 0 (take i stride.moduli) (set at i x)
      before =
          number-ext 0 (take i stride.moduli) at (set at i x)
          (λ j m. sym (get_or-set_other at i j x 0 (λ same. absurd (omega (arith, length-take-le i stride.moduli (omega (arith, moduli_long)))))))

  pub stepping_high : (i number : ℕ) (at : List ℕ) → i ≤ 5 → Stepping stride from i number at → number < 4096
  stepping_high i number at l t =
      omega (
        arith,
        t.number_is,
        number_front_below stride.moduli at i (omega (arith, moduli_long)) (λ j m. rw (t.coordinate_is j m) (mod-lt _ (modulus_low j (omega arith)))),
        product_front stride.moduli 5 moduli_long modulus_low i l,
        w.product_high,
      )
