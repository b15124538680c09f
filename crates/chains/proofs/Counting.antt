-- How far a table, and the counts of a plan with their tables, have come.
use mathlib.Core.Path.{◌≡◌, refl, sym, ap, ap₂, ◌∙◌}
use mathlib.Core.Bool.{false}
use mathlib.Core.List.{List}
use mathlib.Core.Logic.{◌≢◌, ⊎_elim}
use Prim.Native.Nat.{ℕ, zero, suc, ◌+◌, ◌-◌, ◌*◌, ◌/◌, ◌%◌, ◌<◌, ◌≤◌}
use native.Mathlib.Nat.{eq-or-lt_of_le, le_trans, mod-one, mul-one, mul-le-mul, mul-le-mul_right, add-zero}
use native.Mathlib.Decide.{dec_lt}
use native.Mathlib.Omega.{arith}
use lib.ListN.{length, get_or, set, take, replicate, length-set, length-replicate, get_or-replicate}
use lib.Seq.{get_or-set_same, get_or-set_other, take-set-le, take_all}
use Rattle.numbers.specs.Products.{product}
use Rattle.multipartition.specs.Neighbours.{next_owner}
use Rattle.multipartition.specs.Plans.{tiles_of}
use Rattle.multipartition.specs.Tiles.{position_of}
use Rattle.multipartition.specs.Questions.{tile_owner}
use Rattle.multipartition.proofs.MixedRadix.{Positive, positive_of_places}
use Rattle.multipartition.proofs.Owners.{owner_below-product}
use Rattle.multipartition.proofs.Neighbours.{next_owner_below, owner-one_down}
use Rattle.layout.specs.declared.Plan.{Plan}
use Rattle.layout.specs.Plans.{layout_of}
use Rattle.layout.specs.Shaped.{entry_of, Shaped}
use Rattle.layout.proofs.Lists.{product-add-one, product_pos, product_front}
use Rattle.layout.proofs.Places.{cut_at, cuts_length, modulus-at, moduli_length, entry_at_lem}
use borrow.Rule.Slice.PartMut.{put_mid}
use Rattle.std.proofs.lemmas.Grind.{elements}
use Rattle.chains.proofs.Filling.{put_inside, put_before, put_after}
use Rattle.chains.proofs.Merging.{repeated, one_below, step_of_steps, step_injective}
use Rattle.chains.specs.Walks.{block_size, lower, Tables, Led, Tabled, Continues, Collected, Grouped, Counted}

-- ---- processors

module _ (plan : Plan) (s : Shaped plan) where
  positive_moduli : Positive (layout_of plan).moduli
  positive_moduli = positive_of_places (layout_of plan).moduli
      (λ i l. let m : i < plan.d = omega (arith, moduli_length plan s) in rw (modulus-at plan i m) (s.modulus_low i m))

  product_moduli : product (layout_of plan).moduli ≡ plan.p
  unfolding layout_of
  product_moduli = s.moduli_product

  pub next_below : (k q : ℕ) → next_owner (layout_of plan).moduli (layout_of plan).matrix k false q < plan.p
  next_below k q = rw product_moduli at (next_owner_below (layout_of plan).moduli (layout_of plan).matrix positive_moduli k false q)

  pub owner_below_p : (tile : ℕ) → tile_owner (layout_of plan) tile < plan.p
  owner_below_p tile = rw product_moduli at (owner_below-product (layout_of plan).moduli (layout_of plan).matrix (position_of (layout_of plan).cuts tile) positive_moduli)

  pub down_injective : (k q r : ℕ) → q < plan.p → r < plan.p
      → next_owner (layout_of plan).moduli (layout_of plan).matrix k false q ≡ next_owner (layout_of plan).moduli (layout_of plan).matrix k false r → q ≡ r
  down_injective k q r lq lr e =
      step_injective (layout_of plan).moduli (layout_of plan).matrix positive_moduli k q r (omega (arith, product_moduli)) (omega (arith, product_moduli)) e

  -- a step along k is g steps along j
  pub continued : (g j k : ℕ) → k < plan.d → j < plan.d
      → ((i : ℕ) → i < plan.d → (g * entry_of plan.matrix i j) % get_or plan.moduli i 0 ≡ entry_of plan.matrix i k)
      → (q : ℕ) → q < plan.p
      → next_owner (layout_of plan).moduli (layout_of plan).matrix k false q ≡ repeated (next_owner (layout_of plan).moduli (layout_of plan).matrix j false) g q
  unfolding layout_of
  continued g j k lk lj columns q l =
      step_of_steps (layout_of plan).moduli (layout_of plan).matrix positive_moduli g j k
      (λ i m.
      let inside : i < plan.d = omega (arith, moduli_length plan s) in
      rw (entry_at_lem plan.d plan.matrix i j inside lj, entry_at_lem plan.d plan.matrix i k inside lk, modulus-at plan i inside) (columns i inside))
      q (omega (arith, product_moduli))

-- ---- a table

-- two places
by_places : {X : Type 0} (j c : ℕ) → (j < c → X) → (j ≡ c → X) → (c < j → X) → X
by_places {X} j c below same above = go (dec_lt j c)
  where
    go : Dec (j < c) → X
    go (yes l) = below l
    go (no n) = ⊎_elim (λ e. same (sym e)) above (eq-or-lt_of_le (let upto : c ≤ j = omega (arith, n) in upto))

-- table c gets the neighbours of all p processors
pub tabled_made : (plan : Plan) (k c n : ℕ) (downs below : List ℕ) → c < 5 → plan.p ≤ 4096 → length downs ≡ 20480 → n ≡ plan.p → length below ≡ plan.p
    → ((r : ℕ) → r < plan.p → get_or below r 0 ≡ next_owner (layout_of plan).moduli (layout_of plan).matrix k false r)
    → Tabled plan k c downs (put_mid (c * 4096) n downs below)
tabled_made plan k c n downs below lc few long all many each =
    record {
      long = grind (arith, elements);
      there = λ q l. put_inside (c * 4096) n downs below q (omega arith) (omega arith) ∙ each q l;
      others = λ j q other l.
          by_places j c
          (λ before. put_before (c * 4096) n downs below (j * 4096 + q) (omega arith) (omega arith))
          (λ same. absurd (other same))
          (λ after. put_after (c * 4096) n downs below (j * 4096 + q) (omega arith) (omega arith) (omega arith));
    }

-- ---- counts with their tables

-- along a place with one tile no step is taken
no_step : (x n : ℕ) → n ≡ 1 → 1 ≤ x % n → ⊥
no_step x n one some = absurd (omega (arith, mod-one x, rw one at some))

zeros-at : (n i : ℕ) → get_or {A = ℕ} (replicate n 0) i 0 ≡ 0
zeros-at zero i = refl
zeros-at (suc n) zero = refl
zeros-at (suc n) (suc i) = zeros-at n i

pub collected_none : (plan : Plan) → Shaped plan → (n : ℕ) → n ≡ 20480 → Collected plan 0 0 (replicate 5 1) (replicate n 0)
collected_none plan s n long =
    record {
      few = omega arith;
      long = length-replicate {A = ℕ} n 0 ∙ long;
      tables = record {
        few = s.p_high;
        five = refl;
        low = λ j l. omega (arith, get_or-replicate {A = ℕ} 5 j 1 0 l);
        below = λ j q l m. omega (arith, zeros-at n (j * 4096 + q), s.p_low);
      };
      ones = λ j l m. get_or-replicate {A = ℕ} 5 j 1 0 m;
      front = refl;
      led = record { down = λ j tile l low high some. absurd (no_step _ _ (get_or-replicate {A = ℕ} 5 j 1 0 l) some) };
    }

-- a last place with one tile may be used again
collected_less : (plan : Plan) (k c : ℕ) (counts downs : List ℕ) → Collected plan k (c + 1) counts downs → c < 5 → get_or counts c 0 ≡ 1
    → Collected plan k c counts downs
collected_less plan k c counts downs a l one =
    record {
      few = omega (arith, a.few);
      long = a.long;
      tables = a.tables;
      ones = λ j m n.
          ⊎_elim (λ (same : c ≡ j). rw (← same) one) (λ (above : c < j). a.ones j (omega arith) n) (eq-or-lt_of_le m);
      front = sym (product-add-one counts c (omega (arith, a.tables.five)) ∙ rw one (mul-one _)) ∙ a.front;
      led = a.led;
    }

-- Dimension k is counted at place c, the last one, which gets another count, n; its table may become another. The tables of the places before stay.
module _ (plan : Plan) (s : Shaped plan) (k c n : ℕ) (counts downs downs' : List ℕ) (lk : k < plan.d) (few : c ≤ k) (low : 1 ≤ n)
    (old : Tables plan.p counts downs)
    (ones : (j : ℕ) → c < j → j < 5 → get_or counts j 0 ≡ 1)
    (below : (q : ℕ) → q < plan.p → lower downs' c q < plan.p)
    (others : (j q : ℕ) → j ≢ c → q < plan.p → lower downs' j q ≡ lower downs j q) where
  within : c < length counts
  within = omega (arith, s.d_high, old.five)

  count_there : get_or (set counts c n) c 0 ≡ n
  count_there = get_or-set_same counts c n 0 within

  count_other : (j : ℕ) → j ≢ c → get_or (set counts c n) j 0 ≡ get_or counts j 0
  count_other j m = get_or-set_other counts c j n 0 m

  size_upto : (j : ℕ) → j ≤ c → block_size (set counts c n) j ≡ block_size counts j
  size_upto j l = ap product (take-set-le j counts c n l)

  placed_tables : Tables plan.p (set counts c n) downs'
  placed_tables =
      record {
        few = s.p_high;
        five = length-set counts c n ∙ old.five;
        low = λ j l.
            by_places j c
            (λ before. rw (count_other j (λ same. absurd (omega arith))) (old.low j l))
            (λ same. rw (same, count_there) low)
            (λ after. rw (count_other j (λ same. absurd (omega arith))) (old.low j l));
        below = λ j q l m.
            by_places j c
            (λ before. rw (others j q (λ same. absurd (omega arith)) m) (old.below j q l m))
            (λ same. rw same (below q m))
            (λ after. rw (others j q (λ same. absurd (omega arith)) m) (old.below j q l m));
      }

  module _ (led : Led (tiles_of (layout_of plan)) counts downs (tile_owner (layout_of plan)))
      (there : (tile : ℕ) → 1 ≤ tile → tile ≤ tiles_of (layout_of plan) → 1 ≤ (tile - 1) / block_size counts c % n
      → tile_owner (layout_of plan) (tile - block_size counts c) ≡ lower downs' c (tile_owner (layout_of plan) tile)) where
    placed_led : Led (tiles_of (layout_of plan)) (set counts c n) downs' (tile_owner (layout_of plan))
    placed_led =
        record {
          down = λ j tile l from upto some.
              by_places j c
              (λ before.
              let size : block_size (set counts c n) j ≡ block_size counts j = size_upto j (omega arith) in
              let other : j ≢ c = λ same. absurd (omega arith) in
              ap (λ (m : ℕ). tile_owner (layout_of plan) (tile - m)) size
              ∙ led.down j tile l from upto (rw (size, count_other j other) at some)
              ∙ sym (others j (tile_owner (layout_of plan) tile) other (owner_below_p plan s tile)))
              (λ same.
              let size : block_size (set counts c n) j ≡ block_size counts c = ap (block_size (set counts c n)) same ∙ size_upto c (omega arith) in
              let count : get_or (set counts c n) j 0 ≡ n = ap (λ (i : ℕ). get_or (set counts c n) i 0) same ∙ count_there in
              ap (λ (m : ℕ). tile_owner (layout_of plan) (tile - m)) size
              ∙ there tile from upto (rw (size, count) at some)
              ∙ ap (λ (i : ℕ). lower downs' i (tile_owner (layout_of plan) tile)) (sym same))
              (λ after. absurd (no_step _ _ (count_other j (λ same. absurd (omega arith)) ∙ ones j (omega arith) l) some));
        }

    collected_placed : length downs' ≡ 20480 → block_size counts c * n ≡ product (take k (layout_of plan).cuts) * get_or plan.cuts k 0
        → Collected plan (k + 1) (c + 1) (set counts c n) downs'
    collected_placed long size =
        record {
          few = omega arith;
          long = long;
          tables = placed_tables;
          ones = λ j l m. count_other j (λ same. absurd (omega arith)) ∙ ones j (omega arith) m;
          front =
              product-add-one (set counts c n) c (omega (arith, within, length-set counts c n))
              ∙ ap₂ ◌*◌ (size_upto c (omega arith)) count_there
              ∙ size
              ∙ ap (λ (m : ℕ). product (take k (layout_of plan).cuts) * m) (sym (cut_at plan k lk))
              ∙ sym (product-add-one (layout_of plan).cuts k (omega (arith, cuts_length plan s)));
          led = placed_led;
        }

-- the owner one step down along dimension k
down_along : (plan : Plan) → Shaped plan → (k S tile : ℕ) → k < plan.d → S ≡ product (take k (layout_of plan).cuts) → 1 ≤ tile → tile ≤ tiles_of (layout_of plan)
    → 1 ≤ (tile - 1) / S % get_or plan.cuts k 0
    → tile_owner (layout_of plan) (tile - S) ≡ next_owner (layout_of plan).moduli (layout_of plan).matrix k false (tile_owner (layout_of plan) tile)
down_along plan s k S tile lk size from upto some =
    ap (λ (m : ℕ). tile_owner (layout_of plan) (tile - m)) size
    ∙ owner-one_down (layout_of plan).cuts (layout_of plan).moduli (layout_of plan).matrix (positive_moduli plan s) tile k from upto
    (omega (arith, cuts_length plan s)) (rw (size, ← cut_at plan k lk) at some)

-- a dimension at a place of its own
collected_more : (plan : Plan) → Shaped plan → (k c : ℕ) (counts downs downs' : List ℕ) → k < plan.d → Collected plan k c counts downs
    → Tabled plan k c downs downs' → Collected plan (k + 1) (c + 1) (set counts c (get_or plan.cuts k 0)) downs'
collected_more plan s k c counts downs downs' lk a t =
    collected_placed plan s k c (get_or plan.cuts k 0) counts downs downs' lk a.few (s.cut_low k lk) a.tables
    (λ j l m. a.ones j (omega arith) m)
    (λ q l. rw (t.there q l) (next_below plan s k q))
    t.others a.led
    (λ tile from upto some.
    down_along plan s k (block_size counts c) tile lk a.front from upto some
    ∙ sym (t.there (tile_owner (layout_of plan) tile) (owner_below_p plan s tile)))
    t.long (ap (λ (m : ℕ). m * get_or plan.cuts k 0) a.front)

-- ---- groups

-- the first dimension
pub grouped-first : (plan : Plan) → Shaped plan → (downs : List ℕ) → Tabled plan 0 0 (replicate 20480 0) downs
    → Grouped plan 1 0 0 (set (replicate 5 1) 0 (get_or plan.cuts 0 0)) downs
grouped-first plan s downs t = record {
  collected = collected_more plan s 0 0 (replicate 5 1) (replicate 20480 0) downs (omega (arith, s.d_low)) (collected_none plan s 20480 refl) t;
  early = omega arith;
  table = t.there;
}

module _ (plan : Plan) (s : Shaped plan) (k at first : ℕ) (counts downs : List ℕ) (lk : k < plan.d) (a : Grouped plan k at first counts downs) where
  -- a group more, at the next place, or at the last one if that has one tile
  pub grouped_more : (r : ℕ) (downs' : List ℕ) → r ≤ 1 → (r ≡ 0 → get_or counts at 0 ≡ 1) → Tabled plan k (at + r) downs downs'
      → Grouped plan (k + 1) (at + r) k (set counts (at + r) (get_or plan.cuts k 0)) downs'
  grouped_more r downs' few one t =
      record { collected = collected_more plan s k (at + r) counts downs downs' lk there t; early = omega arith; table = t.there }
    where
      there : Collected plan k (at + r) counts downs
      there =
          by_places r 1
          (λ none.
          let no : r ≡ 0 = omega arith in
          rw (no, add-zero at) (collected_less plan k at counts downs a.collected (omega (arith, a.collected.few, s.d_high)) (one no)))
          (λ same. rw same a.collected)
          (λ above. absurd (omega arith))

  abbrev S : ℕ
  S = block_size counts at

  abbrev g : ℕ
  g = get_or counts at 0

  abbrev b : ℕ
  b = get_or plan.cuts k 0

  inside : at < 5
  inside = omega (arith, a.collected.few, s.d_high)

  -- the tiles below the next dimension
  line : block_size counts at * get_or counts at 0 ≡ product (take k (layout_of plan).cuts)
  line = sym (product-add-one counts at (omega (arith, inside, a.collected.tables.five))) ∙ a.collected.front

  some_tiles : 1 ≤ block_size counts at
  some_tiles =
      product_pos counts at (omega (arith, inside, a.collected.tables.five)) (λ j l. a.collected.tables.low j (omega (arith, inside)))

  -- a group has no more tiles than the plan
  pub group_high : get_or counts at 0 * get_or plan.cuts k 0 ≤ 16777216
  unfolding layout_of
  group_high =
      let cuts : List ℕ = take plan.d plan.cuts in
      let long : length cuts ≡ plan.d = cuts_length plan s in
      let upto : product (take (k + 1) cuts) ≤ product (take plan.d cuts)
      = product_front cuts plan.d (omega (arith, long)) (λ i l. rw (cut_at plan i l) (s.cut_low i l)) (k + 1) (omega arith) in
      let whole : product (take plan.d cuts) ≡ product cuts = ap product (take_all plan.d cuts (omega (arith, long))) in
      let front : product (take (k + 1) cuts) ≡ S * g * b = product-add-one cuts k (omega (arith, long)) ∙ ap₂ ◌*◌ (sym line) (cut_at plan k lk) in
      let least : 1 * (g * b) ≤ S * (g * b) = mul-le-mul_right (g * b) some_tiles in
      omega (arith, upto, whole, front, least, s.tiles_high)

  -- the dimension goes on in the last group
  pub grouped_on : Continues plan (get_or counts at 0) first k
      → Grouped plan (k + 1) at first (set counts at (get_or counts at 0 * get_or plan.cuts k 0)) downs
  grouped_on e =
      record {
        collected =
            collected_placed plan s k at (g * b) counts downs downs lk (omega (arith, a.collected.few))
            (mul-le-mul (a.collected.tables.low at inside) (s.cut_low k lk))
            a.collected.tables (λ j l m. a.collected.ones j (omega arith) m) (λ q l. a.collected.tables.below at q inside l) (λ j q n l. refl)
            a.collected.led there a.collected.long (omega (arith, ap (λ (m : ℕ). m * b) line));
        early = omega (arith, a.early);
        table = a.table;
      }
    where
      own : ℕ → ℕ
      own = tile_owner (layout_of plan)

      down : ℕ → ℕ
      down = next_owner (layout_of plan).moduli (layout_of plan).matrix first false

      old : (tile : ℕ) → 1 ≤ tile → tile ≤ tiles_of (layout_of plan) → 1 ≤ (tile - 1) / S % g → own (tile - S) ≡ down (own tile)
      old tile from upto some = a.collected.led.down at tile inside from upto some ∙ a.table (own tile) (owner_below_p plan s tile)

      there : (tile : ℕ) → 1 ≤ tile → tile ≤ tiles_of (layout_of plan) → 1 ≤ (tile - 1) / S % (g * b) → own (tile - S) ≡ lower downs at (own tile)
      there tile from upto some =
          by_places b 1
          (λ none. absurd (omega (arith, s.cut_low k lk)))
          (λ uncut. a.collected.led.down at tile inside from upto (rw (uncut, mul-one g) at some))
          (λ cut.
          one_below own down plan.p S g b tile some_tiles (a.collected.tables.low at inside) (s.cut_low k lk) from
          (owner_below_p plan s) (next_below plan s first) (down_injective plan s first)
          (λ t low high inner. old t low (le_trans high upto) inner)
          (λ outer. down_along plan s k (S * g) tile lk line from upto outer ∙ continued plan s g first k lk (omega (arith, a.early)) (e.step (λ uncut. absurd (omega arith))) (own tile) (owner_below_p plan s tile))
          some
          ∙ sym (a.table (own tile) (owner_below_p plan s tile)))

pub collected_end : (plan : Plan) → Shaped plan → (c : ℕ) (counts downs : List ℕ) → Collected plan plan.d c counts downs → Counted plan counts downs
collected_end plan s c counts downs a = record { tables = a.tables; whole = whole; led = a.led }
  where
    long : length (layout_of plan).cuts ≡ plan.d
    long = cuts_length plan s

    ones_after : (n : ℕ) → c + n ≤ 5 → block_size counts (c + n) ≡ block_size counts c
    ones_after zero l = ap (block_size counts) (add-zero c)
    ones_after (suc n) l =
        let next : c + suc n ≡ (c + n) + 1 = omega arith in
        ap (block_size counts) next
        ∙ product-add-one counts (c + n) (omega (arith, a.tables.five))
        ∙ ap (λ (m : ℕ). block_size counts (c + n) * m) (a.ones (c + n) (omega arith) (omega arith))
        ∙ mul-one (block_size counts (c + n))
        ∙ ones_after n (omega arith)

    whole : block_size counts 5 ≡ tiles_of (layout_of plan)
    whole =
        let places : c + (5 - c) ≡ 5 = omega (arith, a.few, s.d_high) in
        ap (block_size counts) (sym places) ∙ ones_after (5 - c) (omega arith) ∙ a.front ∙ ap product (take_all plan.d (layout_of plan).cuts (omega (arith, long)))
