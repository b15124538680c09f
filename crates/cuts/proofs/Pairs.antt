-- The table of what two divisors share: each pair has a place of its own, and the table is right once every pair is set. An empty list has none of it.
use mathlib.Core.Path.{◌≡◌, refl, sym, ◌∙◌, ap, ap₂, subst⁻¹}
use mathlib.Core.Logic.{⊎_elim}
use mathlib.Core.List.{List, []}
use Prim.Native.Nat.{ℕ, zero, suc, ◌+◌, ◌*◌, ◌/◌, ◌∣◌, ◌≤◌, ◌<◌}
use native.Mathlib.Nat.{not-suc-le-zero, le_of_suc-le-suc, eq-or-lt_of_le, mul-le-mul}
use native.Mathlib.Decide.{dec_le}
use native.Mathlib.Numerals.{add-one}
use native.Mathlib.Omega.{arith}
use lib.ListN.{length, get_or, set, length-set}
use lib.Seq.{get_or-set_same, get_or-set_other}
use Rattle.numbers.specs.Gcd.{gcd}
use Rattle.numbers.proofs.Gcd.{gcd-dvd_left, gcd_comm}
use Rattle.cuts.specs.Questions.{Among, Divisors}
use Rattle.cuts.specs.Memory.{Placed}
use Rattle.cuts.specs.Pairs.{rows, pair_at, PairAt, SharedAt, Shares}
use Rattle.cuts.proofs.Memory.{place_is}

-- ---- the places of the pairs

rows_double : (i : ℕ) → 2 * rows i ≡ i * (i + 1)
unfolding rows
rows_double zero = refl
rows_double (suc i) = omega (arith, rows_double i)

pub rows_half : (i : ℕ) → i * (i + 1) / 2 ≡ rows i
rows_half i = omega (arith, rows_double i)

-- the number of pairs of few divisors
pub square_small : (i : ℕ) → i < 256 → i * (i + 1) ≤ 65280
square_small i h =
    let low : i ≤ 255 = omega arith in
    let high : i + 1 ≤ 256 = omega arith in
    let most : i * (i + 1) ≤ 255 * 256 = mul-le-mul low high in
    omega arith

pub rows_next : (i : ℕ) → rows (i + 1) ≡ rows i + i + 1
unfolding rows
rows_next i = rw add-one (omega arith)

-- a row ends before the next begins
row_before : (a i : ℕ) → a < i → rows a + a < rows i
unfolding rows
row_before a zero h = absurd (not-suc-le-zero h)
row_before a (suc i) h =
    ⊎_elim (λ (q : a ≡ i). let same = ap rows q in omega arith) (λ l. let before = row_before a i l in omega arith) (eq-or-lt_of_le (le_of_suc-le-suc h))

pub pair_before : (a b i j : ℕ) → b ≤ a → a < i → pair_at a b < pair_at i j
pair_before a b i j h l = let before = row_before a i l in omega arith

-- each pair has a place of its own
row_at_most : (a b i j : ℕ) → j ≤ i → pair_at a b ≡ pair_at i j → a ≤ i
row_at_most a b i j k e = go (dec_le a i)
  where
    go : Dec (a ≤ i) → a ≤ i
    go (yes m) = m
    go (no m) = let before = row_before i a (omega arith) in absurd (omega arith)

pair_unique : (a b i j : ℕ) → b ≤ a → j ≤ i → pair_at a b ≡ pair_at i j → (a ≡ i) × (b ≡ j)
pair_unique a b i j h k e =
    let low = row_at_most i j a b h (sym e) in
    let high = row_at_most a b i j k e in
    let same : a ≡ i = omega arith in
    let row = ap rows same in
    (same, omega arith)

-- ---- what is looked up

module _ (divisors places : List ℕ) (shares : Shares divisors places) where
  -- what stands at the place of the pair of x and y, in either order
  pub found_at : (x y i j at : ℕ) → Among divisors (length divisors) x → Among divisors (length divisors) y → i ≡ get_or places x 0 → j ≡ get_or places y 0 →
      PairAt i j at → at < length places → (get_or places at 0 < length divisors) × (get_or divisors (get_or places at 0) 0 ≡ gcd x y)
  found_at x y i j at h k i-is j-is pair inside = ⊎_elim straight turned pair
    where
      long : 4097 < length places
      long = ⊎_elim (λ p. omega (arith, p.1, inside)) (λ p. omega (arith, p.1, inside)) pair

      x_is : i ≡ h.0
      x_is = i-is ∙ place_is divisors places (shares.placed long) x h

      y_is : j ≡ k.0
      y_is = j-is ∙ place_is divisors places (shares.placed long) y k

      x-at : get_or divisors i 0 ≡ x
      x-at = ap (λ (n : ℕ). get_or divisors n 0) x_is ∙ h.2

      y-at : get_or divisors j 0 ≡ y
      y-at = ap (λ (n : ℕ). get_or divisors n 0) y_is ∙ k.2

      straight : (j ≤ i) × (at ≡ pair_at i j) → (get_or places at 0 < length divisors) × (get_or divisors (get_or places at 0) 0 ≡ gcd x y)
      straight p =
          let right = shares.right i j p.0 (omega (arith, x_is, h.1)) (omega (arith, p.1, inside)) in
          subst⁻¹ (λ (n : ℕ). (get_or places n 0 < length divisors) × (get_or divisors (get_or places n 0) 0 ≡ gcd x y)) p.1
          (right.0, right.1 ∙ ap₂ gcd x-at y-at)

      turned : (i < j) × (at ≡ pair_at j i) → (get_or places at 0 < length divisors) × (get_or divisors (get_or places at 0) 0 ≡ gcd x y)
      turned p =
          let right = shares.right j i (omega (arith, p.0)) (omega (arith, y_is, k.1)) (omega (arith, p.1, inside)) in
          subst⁻¹ (λ (n : ℕ). (get_or places n 0 < length divisors) × (get_or divisors (get_or places n 0) 0 ≡ gcd x y)) p.1
          (right.0, right.1 ∙ ap₂ gcd y-at x-at ∙ gcd_comm y x)

-- without a table there is nothing to be right
pub shares_none : (divisors : List ℕ) → Shares divisors []
shares_none divisors = record { placed = λ long. absurd (not-suc-le-zero long); right = λ i j h l inside. absurd (not-suc-le-zero inside) }

-- ---- the table is set pair after pair

-- the pairs before (i, j), whose place is `at`, are set
pub record Filling (divisors lent places : List ℕ) (i j at : ℕ) : Type 0 where
  pub row : j ≤ i + 1
  pub here : at ≡ pair_at i j
  pub long : length places ≡ length lent
  pub placed : Placed divisors places
  pub before : (a b : ℕ) → b ≤ a → a < length divisors → pair_at a b < at → SharedAt divisors places a b

pub filling_start : (divisors places : List ℕ) → Placed divisors places → Filling divisors places places 0 0 4097
unfolding rows
filling_start divisors places placed =
    record { row = omega arith; here = refl; long = refl; placed = placed; before = λ a b h l k. absurd (omega arith) }

-- as far as the list goes
pub filling_end : (divisors lent places : List ℕ) (i j at : ℕ) → Filling divisors lent places i j at → ((a b : ℕ) → b ≤ a → a < length divisors → pair_at a b < length places → pair_at a b < at) →
    Placed divisors places × Shares divisors places
filling_end divisors lent places i j at f all =
    (f.placed, record { placed = λ long. f.placed; right = λ a b h l inside. f.before a b h l (all a b h l inside) })

module _ (divisors lent places : List ℕ) (i j at g v : ℕ) (d : Divisors divisors) (f : Filling divisors lent places i j at) (within : i < length divisors) (in-row : j ≤ i)
    (inside : at < length places) (g-is : g ≡ gcd (get_or divisors i 0) (get_or divisors j 0)) (v-is : v ≡ get_or places g 0) where
  abbrev after : List ℕ
  after = set places at v

  g_among : Among divisors (length divisors) g
  g_among = d.closed (get_or divisors i 0) g (i, within, refl) (subst⁻¹ (λ (n : ℕ). n ∣ get_or divisors i 0) g-is (gcd-dvd_left (get_or divisors i 0) (get_or divisors j 0)))

  -- the place of a divisor stands before the table
  placed_after : Placed divisors after
  placed_after k l = get_or-set_other places at (get_or divisors k 0) v 0 (λ q. omega (arith, q, d.small k l, f.here)) ∙ f.placed k l

  here_after : SharedAt divisors after i j
  here_after =
      let value : get_or after (pair_at i j) 0 ≡ g_among.0 =
      ap (λ (n : ℕ). get_or after n 0) (sym f.here) ∙ get_or-set_same places at v 0 inside ∙ v-is ∙ place_is divisors places f.placed g g_among in
      (subst⁻¹ (λ (n : ℕ). n < length divisors) value g_among.1, ap (λ (n : ℕ). get_or divisors n 0) value ∙ g_among.2 ∙ g-is)

  before_after : (a b : ℕ) → b ≤ a → a < length divisors → pair_at a b < at + 1 → SharedAt divisors after a b
  before_after a b h l k = ⊎_elim same older (eq-or-lt_of_le (le_of_suc-le-suc (rw add-one at k)))
    where
      same : pair_at a b ≡ at → SharedAt divisors after a b
      same q =
          let is = pair_unique a b i j h in-row (q ∙ f.here) in
          subst⁻¹ (λ (n : ℕ). SharedAt divisors after n b) is.0 (subst⁻¹ (λ (n : ℕ). SharedAt divisors after i n) is.1 here_after)

      older : pair_at a b < at → SharedAt divisors after a b
      older m =
          subst⁻¹ (λ (n : ℕ). (n < length divisors) × (get_or divisors n 0 ≡ gcd (get_or divisors a 0) (get_or divisors b 0)))
          (get_or-set_other places at (pair_at a b) v 0 (λ q. omega (arith, q, m))) (f.before a b h l m)

  -- the next pair of the row
  pub filling_on : Filling divisors lent (set places at v) i (j + 1) (at + 1)
  filling_on =
      record { row = omega arith; here = omega (arith, f.here); long = length-set places at v ∙ f.long; placed = placed_after; before = before_after }

-- the first pair of the next row
pub filling_row : (divisors lent places : List ℕ) (i at : ℕ) → Filling divisors lent places i (i + 1) at → Filling divisors lent places (i + 1) 0 at
filling_row divisors lent places i at f =
    record { row = omega arith; here = omega (arith, f.here, rows_next i); long = f.long; placed = f.placed; before = f.before }
