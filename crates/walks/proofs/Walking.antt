-- Walks from neighbour to neighbour: a step of `next` leads from a processor with its coordinates to its neighbour with its coordinates. Places
-- are counted from 0; those past d add 0 modulo 1, which changes neither a product nor a number.
use mathlib.Core.Path.{◌≡◌, refl, sym, ap, ◌∙◌}
use mathlib.Core.Bool.{Bool, true, false}
use mathlib.Core.List.{List}
use mathlib.Core.Logic.{⊎_elim}
use Prim.Native.Nat.{ℕ, zero, suc, ◌+◌, ◌-◌, ◌%◌, ◌≤◌, ◌<◌}
use native.Mathlib.Nat.{mod-lt, mod-one, add-mod-mod, eq-or-lt_of_le}
use native.Mathlib.Decide.{dec_le}
use native.Mathlib.Numerals.{add-one}
use native.Mathlib.Omega.{arith}
use lib.ListN.{length, get_or, take, get_or-eq_default}
use lib.Seq.{get_or-take, length-take-le, ext_get_or}
use Rattle.numbers.specs.Products.{product}
use Rattle.multipartition.specs.MixedRadix.{number_from, digits_of}
use Rattle.multipartition.specs.Neighbours.{column_of, turn, turned, next_owner}
use Rattle.multipartition.proofs.MixedRadix.{Positive, positive_of_places, digits_inside, digits_of_number, number_of_digits, length_digits, number-ext}
use Rattle.multipartition.proofs.Neighbours.{next_owner_below, turned_inside, column-at, turned-at}
use Rattle.multipartition.proofs.Tiles.{inside_below}
use Rattle.layout.specs.declared.Plan.{Plan}
use Rattle.layout.specs.Plans.{rows_from, layout_of}
use Rattle.layout.specs.Shaped.{entry_of, Shaped}
use Rattle.layout.proofs.Lists.{le-length, product-add-one}
use Rattle.layout.proofs.Owners.{number-add-one}
use Rattle.layout.proofs.Places.{moduli_length, modulus-at, entry_at_lem}
use Rattle.walks.specs.declared.Coordinated.{Coordinated}
use Rattle.walks.specs.declared.Stride.{Stride}
use Rattle.walks.specs.Walks.{IsProcessor, stride_of, Strides, Walkable, Steps}
use Rattle.questions.proofs.Neighbours.{turn_down}

-- ---- places of 1 and 0

-- the same first n numbers
take_ext : (n : ℕ) (xs ys : List ℕ) → n ≤ length xs → n ≤ length ys → ((i : ℕ) → i < n → get_or xs i 0 ≡ get_or ys i 0) → take n xs ≡ take n ys
take_ext n xs ys lx ly h =
    ext_get_or 0 (take n xs) (take n ys) (length-take-le n xs lx ∙ sym (length-take-le n ys ly))
    (λ i l. let m : i < n = omega (arith, length-take-le n xs lx) in get_or-take n xs i 0 m ∙ h i m ∙ sym (get_or-take n ys i 0 m))

module _ (d : ℕ) (bases : List ℕ) where
  -- factors of 1 from place d on change no product
  product_past : (n : ℕ) → n ≤ length bases → d ≤ n → ((i : ℕ) → d ≤ i → i < n → get_or bases i 0 ≡ 1) → product (take n bases) ≡ product (take d bases)
  product_past zero long l h = let e : d ≡ 0 = omega arith in rw e
  product_past (suc n) long l h =
      ⊎_elim (λ e. rw e)
      (λ m. let one : get_or bases n 0 ≡ 1 = h n (omega arith) (omega arith) in
      rw (← add-one n, product-add-one bases n (omega arith), one)
      (omega (arith, product_past n (omega arith) (omega arith) (λ i a b. h i a (omega arith)))))
      (eq-or-lt_of_le l)

  -- and digits of 0 to the base 1 change no number
  number_past : (digits : List ℕ) (n : ℕ) → n ≤ length bases → d ≤ n → ((i : ℕ) → d ≤ i → i < n → get_or bases i 0 ≡ 1)
      → ((i : ℕ) → d ≤ i → i < n → get_or digits i 0 ≡ 0)
      → number_from 0 (take n bases) digits ≡ number_from 0 (take d bases) digits
  number_past digits zero long l h z = let e : d ≡ 0 = omega arith in rw e
  number_past digits (suc n) long l h z =
      ⊎_elim (λ e. rw e)
      (λ m. let one : get_or bases n 0 ≡ 1 = h n (omega arith) (omega arith) in
      let none : get_or digits n 0 ≡ 0 = z n (omega arith) (omega arith) in
      rw (← add-one n, number-add-one 0 bases digits n (omega arith), one, none)
      (omega (arith, number_past digits n (omega arith) (omega arith) (λ i a b. h i a (omega arith)) (λ i a b. z i a (omega arith)))))
      (eq-or-lt_of_le l)

-- ---- the neighbour's coordinates

-- an entry is added or taken off by adding its stride
turn_by_stride : (up : Bool) (m c a : ℕ) → a < m → turn up m c a ≡ (c + stride_of up m a) % m
unfolding turn
turn_by_stride true m c a l = refl
turn_by_stride false m c a l = turn_down m c a l ∙ sym (add-mod-mod c (m - a) m)

stride_below : (up : Bool) (m a : ℕ) → a < m → stride_of up m a < m
stride_below true m a l = l
stride_below false m a l = mod-lt (m - a) (omega arith)

-- ---- walks of a plan

module _ (plan : Plan) (s : Shaped plan) where
  positive_moduli : Positive (layout_of plan).moduli
  positive_moduli = positive_of_places (layout_of plan).moduli
      (λ i l. let m : i < plan.d = omega (arith, moduli_length plan s) in rw (modulus-at plan i m) (s.modulus_low i m))

  product_moduli : product (layout_of plan).moduli ≡ plan.p
  unfolding layout_of
  product_moduli = s.moduli_product

  digit_below : (q i : ℕ) → i < plan.d → get_or (digits_of (layout_of plan).moduli q) i 0 < get_or plan.moduli i 0
  digit_below q i l =
      rw (modulus-at plan i l) at
      (inside_below (layout_of plan).moduli (digits_of (layout_of plan).moduli q) (digits_inside (layout_of plan).moduli q positive_moduli) i (omega (arith, moduli_length plan s)))

  digit_past : (q i : ℕ) → plan.d ≤ i → get_or (digits_of (layout_of plan).moduli q) i 0 ≡ 0
  digit_past q i l =
      get_or-eq_default (digits_of (layout_of plan).moduli q) 0 (omega (arith, length_digits (layout_of plan).moduli q, moduli_length plan s))

  module _ (k : ℕ) (l : k < plan.d) (up : Bool) where
    -- a neighbour is a processor
    pub next_below : (q : ℕ) → next_owner (layout_of plan).moduli (layout_of plan).matrix k up q < plan.p
    next_below q = rw product_moduli at (next_owner_below (layout_of plan).moduli (layout_of plan).matrix positive_moduli k up q)

    next-digit : (q i : ℕ) → i < plan.d
        → get_or (digits_of (layout_of plan).moduli (next_owner (layout_of plan).moduli (layout_of plan).matrix k up q)) i 0
        ≡ (get_or (digits_of (layout_of plan).moduli q) i 0 + stride_of up (get_or plan.moduli i 0) (entry_of plan.matrix i k)) % get_or plan.moduli i 0
    unfolding layout_of next_owner
    next-digit q i m =
        let moduli = take plan.d plan.moduli in
        let column = column_of k moduli (rows_from plan.d 0 plan.d plan.matrix) in
        let within : i < length moduli = omega (arith, moduli_length plan s) in
        rw (
          digits_of_number moduli (turned up moduli (digits_of moduli q) column) positive_moduli (turned_inside up moduli (digits_of moduli q) column positive_moduli),
          turned-at up moduli (digits_of moduli q) column i within,
          column-at k moduli (rows_from plan.d 0 plan.d plan.matrix) i within,
          entry_at_lem plan.d plan.matrix i k m l,
          get_or-take plan.d plan.moduli i 0 m,
        )
        (turn_by_stride up _ _ _ (s.entry_below i k m l))

    module _ (stride : Stride) (strides : Strides plan k up stride) where
      added_below : (i : ℕ) → i < 5 → get_or stride.added i 0 < get_or stride.moduli i 0
      added_below i m = go (dec_le plan.d i)
        where
          go : Dec (plan.d ≤ i) → get_or stride.added i 0 < get_or stride.moduli i 0
          go (yes past) = rw (strides.added_past i past m, strides.modulus_past i past m) (omega arith)
          go (no before) =
              let b : i < plan.d = omega arith in
              rw (strides.added_is i b, strides.modulus_is i b) (stride_below up _ _ (s.entry_below i k b l))

      moduli_long : 5 ≤ length stride.moduli
      moduli_long = le-length 5 stride.moduli (λ i m. omega (arith, added_below i m))

      -- the first d moduli are the plan's
      moduli_front : take plan.d stride.moduli ≡ (layout_of plan).moduli
      unfolding layout_of
      moduli_front = take_ext plan.d stride.moduli plan.moduli (omega (arith, moduli_long, s.d_high)) s.moduli_long strides.modulus_is

      product_is : product (take 5 stride.moduli) ≡ plan.p
      product_is =
          product_past plan.d stride.moduli 5 moduli_long s.d_high strides.modulus_past
          ∙ ap product moduli_front
          ∙ product_moduli

      module _ (q : ℕ) (from : Coordinated) (stands : IsProcessor plan q from) where
        -- what `next` asks
        pub next_asked : Walkable stride from
        next_asked =
            record {
              product_high = rw product_is s.p_high;
              added_below = added_below;
              coordinate_below = λ i m. go i m (dec_le plan.d i);
            }
          where
            go : (i : ℕ) → i < 5 → Dec (plan.d ≤ i) → get_or from.coordinates i 0 < get_or stride.moduli i 0
            go i m (yes past) = rw (stands.coordinate_is i m, digit_past q i past, strides.modulus_past i past m) (omega arith)
            go i m (no before) =
                let b : i < plan.d = omega arith in
                rw (stands.coordinate_is i m, strides.modulus_is i b) (digit_below q i b)

        -- what it answers is the neighbour
        pub next_is_processor : (to : Coordinated) → Steps stride from to
            → IsProcessor plan (next_owner (layout_of plan).moduli (layout_of plan).matrix k up q) to
        next_is_processor to steps = record { number_is = number; coordinate_is = λ i m. go i m (dec_le plan.d i) }
          where
            next : ℕ
            next = next_owner (layout_of plan).moduli (layout_of plan).matrix k up q

            go : (i : ℕ) → i < 5 → Dec (plan.d ≤ i) → get_or to.coordinates i 0 ≡ get_or (digits_of (layout_of plan).moduli next) i 0
            go i m (yes past) =
                rw (steps.coordinate_is i m, strides.modulus_past i past m, digit_past next i past) (mod-one _)
            go i m (no before) =
                let b : i < plan.d = omega arith in
                rw (steps.coordinate_is i m, stands.coordinate_is i m, strides.modulus_is i b, strides.added_is i b)
                (sym (next-digit q i b))

            number : to.number ≡ next
            number =
                steps.number_is
                ∙ number_past plan.d stride.moduli to.coordinates 5 moduli_long s.d_high strides.modulus_past
                (λ i past m. go i m (yes past) ∙ digit_past next i past)
                ∙ ap (λ (bases : List ℕ). number_from 0 bases to.coordinates) moduli_front
                ∙ number-ext 0 (layout_of plan).moduli to.coordinates (digits_of (layout_of plan).moduli next)
                (λ i m. go i (omega (arith, s.d_high, moduli_length plan s)) (dec_le plan.d i))
                ∙ number_of_digits (layout_of plan).moduli next positive_moduli
                (next_owner_below (layout_of plan).moduli (layout_of plan).matrix positive_moduli k up q)
