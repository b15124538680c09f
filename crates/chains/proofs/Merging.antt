-- A dimension that goes on where a group of dimensions ends: a step along it is as many steps along the group as the group has tiles. So the first
-- tile of a line along the group is one step up from the last tile of the line before.
use mathlib.Core.Path.{◌≡◌, refl, sym, ap, ◌∙◌}
use mathlib.Core.Bool.{true, false}
use mathlib.Core.List.{List}
use mathlib.Core.Logic.{⊎_elim}
use Prim.Native.Nat.{ℕ, zero, suc, ◌+◌, ◌-◌, ◌*◌, ◌/◌, ◌%◌, ◌<◌, ◌≤◌}
use native.Mathlib.Nat.{mod-lt, mod-le, mod-mod, mod-eq_of_lt, mod-add-mod, div-add-mod, div-add-mod', div-div-eq-div-mul, eq-or-lt_of_le, mul_comm, add-zero}
use native.Mathlib.Omega.{arith}
use lib.Arith.{digits_div, digits_mod, mod-mul}
use lib.ListN.{length, get_or}
use Rattle.numbers.specs.Products.{product}
use Rattle.numbers.proofs.Congruence.{Congruent, add_multiple, congruent-add}
use Rattle.multipartition.specs.MixedRadix.{digits_of}
use Rattle.multipartition.specs.Neighbours.{column_of, turn, turned, next_owner}
use Rattle.multipartition.specs.Plans.{entry_at}
use Rattle.multipartition.proofs.MixedRadix.{Positive, digits_inside, digits_of_number, number_of_digits, number-ext}
use Rattle.multipartition.proofs.Tiles.{inside_below}
use Rattle.multipartition.proofs.WholeNumbers.{remainder_difference}
use Rattle.multipartition.proofs.Neighbours.{turn_down, turn_below, turned_inside, next_owner_below, next_owner_back, column-at, turned-at}

-- n steps
unfoldable pub repeated : (ℕ → ℕ) → ℕ → ℕ → ℕ
repeated f zero q = q
repeated f (suc n) q = f (repeated f n q)

pub repeated_below : (f : ℕ → ℕ) (p : ℕ) → ((q : ℕ) → f q < p) → (n q : ℕ) → q < p → repeated f n q < p
unfolding repeated
repeated_below f p h zero q l = l
repeated_below f p h (suc n) q l = h (repeated f n q)

-- ---- the tiles of a line along a group of g, each S after the one before

-- the coordinate along the group of the tile j steps below the first tile of a line, with e + j tiles in a line
digit_before : (z g S r tile e j : ℕ) → r < S → tile ≡ (z * g + g) * S + r + 1 → e + j ≡ g → 1 ≤ j
    → (tile - j * S - 1) / S % g ≡ e
digit_before z g S r tile e j low is sum some =
    ap (λ (n : ℕ). n % g) (ap (λ (n : ℕ). n / S) whole ∙ digits_div (z * g + e) low) ∙ digits_mod z (let l : e < g = omega arith in l)
  where
    wide : (z * g + g) * S ≡ (z * g + e) * S + j * S
    wide = ap (λ (n : ℕ). (z * g + n) * S) (sym sum) ∙ omega arith

    whole : tile - j * S - 1 ≡ (z * g + e) * S + r
    whole = omega (arith, wide)

module _ (own f : ℕ → ℕ) (p S g tile : ℕ) (some : 1 ≤ S)
    (owners : (t : ℕ) → own t < p)
    (steps : (q : ℕ) → f q < p)
    (injective : (q r : ℕ) → q < p → r < p → f q ≡ f r → q ≡ r)
    (old : (t : ℕ) → 1 ≤ t → t ≤ tile → 1 ≤ (t - 1) / S % g → own (t - S) ≡ f (own t))
    (z r : ℕ) (low : r < S) (is : tile ≡ (z * g + g) * S + r + 1)
    (whole : own (tile - g * S) ≡ repeated f g (own tile)) where
  -- j steps below the first tile of a line
  below_start : (e j : ℕ) → e + j ≡ g → 1 ≤ j → own (tile - j * S) ≡ repeated f j (own tile)
  unfolding repeated
  below_start zero j sum l = let all : j ≡ g = omega arith in rw all whole
  below_start (suc e) j sum l =
      injective (own (tile - j * S)) (repeated f j (own tile)) (owners (tile - j * S)) (repeated_below f p steps j (own tile) (owners tile))
      (sym (old (tile - j * S) (omega (arith, wide)) (omega arith) (rw (digit_before z g S r tile (suc e) j low is sum l) (omega arith)))
      ∙ ap own next
      ∙ below_start e (suc j) (omega arith) (omega arith))
    where
      wide : (z * g + g) * S ≡ (z * g + suc e) * S + j * S
      wide = ap (λ (n : ℕ). (z * g + n) * S) (sym sum) ∙ omega arith

      next : tile - j * S - S ≡ tile - suc j * S
      next = let more : suc j * S ≡ j * S + S = omega arith in omega (arith, more)

  pub one_below_start : 1 ≤ g → own (tile - S) ≡ f (own tile)
  unfolding repeated
  one_below_start l =
      let once : 1 * S ≡ S = omega arith in
      rw once at (below_start (g - 1) 1 (omega arith) (omega arith))

-- a group of g tiles, and b of them in a row
pub one_below : (own f : ℕ → ℕ) (p S g b tile : ℕ) → 1 ≤ S → 1 ≤ g → 1 ≤ b → 1 ≤ tile
    → ((t : ℕ) → own t < p) → ((q : ℕ) → f q < p) → ((q r : ℕ) → q < p → r < p → f q ≡ f r → q ≡ r)
    → ((t : ℕ) → 1 ≤ t → t ≤ tile → 1 ≤ (t - 1) / S % g → own (t - S) ≡ f (own t))
    → (1 ≤ (tile - 1) / (S * g) % b → own (tile - S * g) ≡ repeated f g (own tile))
    → 1 ≤ (tile - 1) / S % (g * b) → own (tile - S) ≡ f (own tile)
one_below own f p S g b tile some many rows low owners steps injective old next within =
    ⊎_elim first (λ (inner : 1 ≤ x % g). old tile low (omega arith) inner) (eq-or-lt_of_le (let l : 0 ≤ x % g = omega arith in l))
  where
    x : ℕ
    x = (tile - 1) / S

    first : 0 ≡ (tile - 1) / S % g → own (tile - S) ≡ f (own tile)
    first none =
        let steady : tile - g * S ≡ tile - S * g = ap (λ (n : ℕ). tile - n) (mul_comm g S) in
        one_below_start own f p S g tile some owners steps injective old (y - 1) ((tile - 1) % S) (mod-lt (tile - 1) some) is
        (ap own steady ∙ next (rw (div-div-eq-div-mul (tile - 1) S g) at above)) many
      where
        y : ℕ
        y = (tile - 1) / S / g

        above : 1 ≤ (tile - 1) / S / g % b
        above = go ((tile - 1) / S / g % b) (mod-mul ((tile - 1) / S) rows many)
          where
            go : (n : ℕ) → (tile - 1) / S % (b * g) ≡ n * g + (tile - 1) / S % g → 1 ≤ n
            go zero e = absurd (omega (arith, none, within, ap (λ (n : ℕ). (tile - 1) / S % n) (mul_comm g b), e))
            go (suc n) e = omega arith

        is : tile ≡ ((y - 1) * g + g) * S + (tile - 1) % S + 1
        is =
            let high : 1 ≤ y = omega (arith, above, mod-le ((tile - 1) / S / g) b) in
            let line : (y - 1) * g + g ≡ y * g = (let last : y ≡ (y - 1) + 1 = omega arith in sym (ap (λ (n : ℕ). n * g) last ∙ omega arith)) in
            let tiles : y * g ≡ (tile - 1) / S = omega (arith, none, div-add-mod' ((tile - 1) / S) g) in
            rw (line, tiles) (omega (arith, low, div-add-mod' (tile - 1) S))

-- ---- a step that is several steps

turn-sum : (m c a : ℕ) → zero < m → Congruent m (turn false m c a + a) c
turn-sum m c a l =
    ap (λ (n : ℕ). (n + a) % m) (turn_down m c a l)
    ∙ mod-add-mod (c + (m - a % m)) m a
    ∙ ap (λ (n : ℕ). n % m) whole
    ∙ add_multiple m c (suc (a / m))
  where
    whole : c + (m - a % m) + a ≡ c + m * suc (a / m)
    whole = omega (arith, div-add-mod a m, mod-lt a l)

turn_none : (m c : ℕ) → c < m → turn false m c 0 ≡ c
unfolding turn
turn_none m c l = remainder_difference m c 0 c (omega arith) (ap (λ (n : ℕ). n % m) (add-zero c)) ∙ mod-eq_of_lt l

turn_again : (m c x a : ℕ) → zero < m → turn false m (turn false m c x) a ≡ turn false m c (x + a)
unfolding turn
turn_again m c x a l =
    sym (remainder_difference m c (x + a) y l
    (ap (λ (n : ℕ). n % m) regroup ∙ congruent-add m (y + a) (turn false m c x) x x (turn-sum m (turn false m c x) a l) refl ∙ turn-sum m c x l)
    ∙ mod-eq_of_lt (turn_below false m (turn false m c x) a l))
  where
    y : ℕ
    y = turn false m (turn false m c x) a

    regroup : y + (x + a) ≡ y + a + x
    regroup = omega arith

turn-remainder : (m c x : ℕ) → zero < m → turn false m c (x % m) ≡ turn false m c x
turn-remainder m c x l =
    turn_down m c (x % m) l ∙ ap (λ (n : ℕ). (c + (m - n)) % m) (mod-mod x m) ∙ sym (turn_down m c x l)

module _ (moduli : List ℕ) (matrix : List (List ℕ)) (positive : Positive moduli) where
  modulus_low : (i : ℕ) → i < length moduli → zero < get_or moduli i 0
  modulus_low i l = omega (arith, inside_below moduli (digits_of moduli 0) (digits_inside moduli 0 positive) i l)

  next-digit : (k q i : ℕ) → i < length moduli
      → get_or (digits_of moduli (next_owner moduli matrix k false q)) i 0 ≡ turn false (get_or moduli i 0) (get_or (digits_of moduli q) i 0) (entry_at matrix i k)
  unfolding next_owner
  next-digit k q i l =
      rw (
        digits_of_number moduli (turned false moduli (digits_of moduli q) (column_of k moduli matrix)) positive (turned_inside false moduli (digits_of moduli q) (column_of k moduli matrix) positive),
        turned-at false moduli (digits_of moduli q) (column_of k moduli matrix) i l,
        column-at k moduli matrix i l,
      )

  repeated-digit : (k n q i : ℕ) → i < length moduli
      → get_or (digits_of moduli (repeated (next_owner moduli matrix k false) n q)) i 0 ≡ turn false (get_or moduli i 0) (get_or (digits_of moduli q) i 0) (n * entry_at matrix i k)
  unfolding repeated
  repeated-digit k zero q i l =
      let none : 0 * entry_at matrix i k ≡ 0 = omega arith in
      rw none (sym (turn_none (get_or moduli i 0) (get_or (digits_of moduli q) i 0) (inside_below moduli (digits_of moduli q) (digits_inside moduli q positive) i l)))
  repeated-digit k (suc n) q i l =
      let more : n * entry_at matrix i k + entry_at matrix i k ≡ suc n * entry_at matrix i k = omega arith in
      next-digit k (repeated (next_owner moduli matrix k false) n q) i l
      ∙ ap (λ (c : ℕ). turn false (get_or moduli i 0) c (entry_at matrix i k)) (repeated-digit k n q i l)
      ∙ turn_again (get_or moduli i 0) (get_or (digits_of moduli q) i 0) (n * entry_at matrix i k) (entry_at matrix i k) (modulus_low i l)
      ∙ ap (turn false (get_or moduli i 0) (get_or (digits_of moduli q) i 0)) more

  -- column k is g times column j
  pub step_of_steps : (g j k : ℕ) → ((i : ℕ) → i < length moduli → (g * entry_at matrix i j) % get_or moduli i 0 ≡ entry_at matrix i k)
      → (q : ℕ) → q < product moduli → next_owner moduli matrix k false q ≡ repeated (next_owner moduli matrix j false) g q
  step_of_steps g j k columns q l =
      sym (number_of_digits moduli (next_owner moduli matrix k false q) positive (next_owner_below moduli matrix positive k false q))
      ∙ number-ext 0 moduli _ _ digit
      ∙ number_of_digits moduli (repeated (next_owner moduli matrix j false) g q) positive
      (repeated_below (next_owner moduli matrix j false) (product moduli) (next_owner_below moduli matrix positive j false) g q l)
    where
      digit : (i : ℕ) → i < length moduli
          → get_or (digits_of moduli (next_owner moduli matrix k false q)) i 0 ≡ get_or (digits_of moduli (repeated (next_owner moduli matrix j false) g q)) i 0
      digit i m =
          next-digit k q i m
          ∙ ap (turn false (get_or moduli i 0) (get_or (digits_of moduli q) i 0)) (sym (columns i m))
          ∙ turn-remainder (get_or moduli i 0) (get_or (digits_of moduli q) i 0) (g * entry_at matrix i j) (modulus_low i m)
          ∙ sym (repeated-digit j g q i m)

  -- different processors have different neighbours
  pub step_injective : (k q r : ℕ) → q < product moduli → r < product moduli → next_owner moduli matrix k false q ≡ next_owner moduli matrix k false r → q ≡ r
  step_injective k q r lq lr e =
      sym (next_owner_back moduli matrix positive k false q lq) ∙ ap (next_owner moduli matrix k true) e ∙ next_owner_back moduli matrix positive k false r lr
