-- How far the walk has come along place k of a block: from the top of one block of level k to the top of the next one down is one step down along k.
use mathlib.Core.Path.{◌≡◌, refl, ap, ◌∙◌, subst, subst⁻¹}
use mathlib.Core.List.{List}
use Prim.Native.Nat.{ℕ, suc, ◌+◌, ◌-◌, ◌*◌, ◌/◌, ◌%◌, ◌<◌, ◌≤◌, max}
use native.Mathlib.Nat.{mul-le-mul_right, mul-add-mod_self_right, mod-eq_of_lt}
use native.Mathlib.Omega.{arith}
use lib.Arith.{digits_div}
use lib.ListN.{length, get_or}
use Rattle.multipartition.specs.Chains.{Stage}
use Rattle.layout.proofs.Lists.{product-add-one, product_pos}
use Rattle.chains.specs.Walks.{block_size, BlockTop, lower, Tables, Led, Walks}

-- ---- sizes and coordinates

pub size_positive : (p : ℕ) (counts downs : List ℕ) → Tables p counts downs → (level : ℕ) → level ≤ 5 → 1 ≤ block_size counts level
size_positive p counts downs t level l = product_pos counts level (omega (arith, t.five)) (λ i m. t.low i (omega arith))

-- a block of a level is as many blocks of the level before as the count says
pub size-next : (p : ℕ) (counts downs : List ℕ) → Tables p counts downs → (k : ℕ) → k < 5 → block_size counts (k + 1) ≡ block_size counts k * get_or counts k 0
size-next p counts downs t k l = product-add-one counts k (omega (arith, t.five))

pub line_size : (p : ℕ) (counts downs : List ℕ) → Tables p counts downs → block_size counts 1 ≡ get_or counts 0 0
line_size p counts downs t = size-next p counts downs t 0 (omega arith) ∙ omega arith

-- tables for as many processors as the first list has places
pub lent : (p : ℕ) (counts downs heads : List ℕ) → Tables p counts downs → length heads ≡ p → Tables (length heads) counts downs
lent p counts downs heads t many = subst⁻¹ (λ (n : ℕ). Tables n counts downs) many t

-- the coordinate of the tile at the top of a block
pub top_coordinate : (m b left S : ℕ) → 1 ≤ S → 1 ≤ left → left ≤ b → ((m * b + left) * S - 1) / S % b ≡ left - 1
top_coordinate m b left S some low high =
    ap (λ (n : ℕ). n / S % b) split
    ∙ ap (λ (n : ℕ). n % b) (digits_div (m * b + (left - 1)) below)
    ∙ mul-add-mod_self_right m b (left - 1)
    ∙ mod-eq_of_lt (omega arith)
  where
    below : S - 1 < S
    below = omega arith

    split : (m * b + left) * S - 1 ≡ (m * b + (left - 1)) * S + (S - 1)
    split =
        let whole : m * b + left ≡ m * b + (left - 1) + 1 = omega arith in
        let parts : (m * b + left) * S ≡ (m * b + (left - 1)) * S + S = ap (λ (n : ℕ). n * S) whole ∙ omega arith in
        omega (arith, parts)

-- ---- along place k

-- `left` blocks of level k are still to be visited, the highest of them from the tile on, as far as their tiles are above `stop`
pub record Across (counts downs : List ℕ) (k q stop top tile left at : ℕ) (heads₀ nexts₀ heads nexts : List ℕ) : Type 0 where
  pub whole : BlockTop counts (k + 1) (length nexts₀) top
  pub few : left ≤ get_or counts k 0
  pub tile_is : tile ≡ (whole.block * get_or counts k 0 + left) * block_size counts k
  pub at_below : at < length heads₀
  pub heads_kept : length heads ≡ length heads₀
  pub nexts_kept : length nexts ≡ length nexts₀
  pub stages : (own : ℕ → ℕ) (lent : List ℕ) → Led (length nexts₀) counts downs own → own top ≡ q
      → Stage own (length nexts₀) (length heads₀) (max stop top) lent heads₀ nexts₀
      → Stage own (length nexts₀) (length heads₀) (max stop tile) lent heads nexts × (1 ≤ left → own tile ≡ at)

module _ (counts downs : List ℕ) (k : ℕ) (l : k < 5) (q stop top : ℕ) (heads₀ nexts₀ : List ℕ) (t : Tables (length heads₀) counts downs) where
  abbrev count : ℕ
  count = get_or counts k 0

  abbrev S : ℕ
  S = block_size counts k

  top_is : (b : BlockTop counts (k + 1) (length nexts₀) top) → top ≡ (b.block * count + count) * S
  top_is b = b.is ∙ ap (λ (n : ℕ). suc b.block * n) (size-next (length heads₀) counts downs t k l) ∙ omega arith

  pub across_start : (left : ℕ) → left ≡ count → BlockTop counts (k + 1) (length nexts₀) top → q < length heads₀
      → Across counts downs k q stop top top left q heads₀ nexts₀ heads₀ nexts₀
  across_start left all b m =
      record {
        whole = b;
        few = omega arith;
        tile_is = rw all (top_is b);
        at_below = m;
        heads_kept = refl;
        nexts_kept = refl;
        stages = λ own lent led owned stage. (stage, λ low. owned);
      }

  module _ (tile left at : ℕ) (heads nexts : List ℕ) (a : Across counts downs k q stop top tile left at heads₀ nexts₀ heads nexts) where
    -- the number of the tile, one block of level k apart
    tile-one : 1 ≤ left → tile ≡ (a.whole.block * count + (left - 1)) * S + S
    tile-one low =
        let one : a.whole.block * count + left ≡ a.whole.block * count + (left - 1) + 1 = omega arith in
        a.tile_is ∙ ap (λ (n : ℕ). n * S) one ∙ omega arith

    pub across_within : tile ≤ length nexts₀
    across_within =
        let fewer : a.whole.block * count + left ≤ a.whole.block * count + count = omega (arith, a.few) in
        omega (arith, a.tile_is, top_is a.whole, a.whole.within, mul-le-mul_right S fewer)

    -- a block of level k is there
    pub across-ready : 1 ≤ left → BlockTop counts k (length nexts) tile
    across-ready low =
        record {
          block = a.whole.block * count + (left - 1);
          is = tile-one low ∙ omega arith;
          within = omega (arith, across_within, a.nexts_kept);
        }

    pub across_room : 1 ≤ left → S ≤ tile
    across_room low = omega (arith, tile-one low)

    -- and is visited
    pub across-step : (tile' left' at' : ℕ) (heads' nexts' : List ℕ) → 1 ≤ left → tile' ≡ tile - S → left' ≡ left - 1 → at' ≡ lower downs k at
        → Walks counts downs k at stop tile heads nexts heads' nexts' → Across counts downs k q stop top tile' left' at' heads₀ nexts₀ heads' nexts'
    across-step tile' left' at' heads' nexts' low tile-e left-e at-e w = rw (tile-e, left-e, at-e)
        record {
          whole = a.whole;
          few = omega (arith, a.few);
          tile_is = omega (arith, tile-one low);
          at_below = t.below k at l a.at_below;
          heads_kept = w.heads_kept ∙ a.heads_kept;
          nexts_kept = w.nexts_kept ∙ a.nexts_kept;
          stages = λ own lent led owned stage.
              let here = a.stages own lent led owned stage in (
                next own lent led (here.1 low) here.0,
                λ more.
                    led.down k tile l (omega (arith, across_room low, some)) across_within (inner more)
                    ∙ ap (lower downs k) (here.1 low),
              );
        }
      where
        some : 1 ≤ S
        some = size_positive (length heads₀) counts downs t k (omega arith)

        inner : 1 ≤ left - 1 → 1 ≤ (tile - 1) / S % count
        inner more =
            subst⁻¹ (λ (n : ℕ). 1 ≤ n) (ap (λ (n : ℕ). (n - 1) / S % count) a.tile_is ∙ top_coordinate a.whole.block count left S some low a.few) more

        next : (own : ℕ → ℕ) (lent : List ℕ) → Led (length nexts₀) counts downs own → own tile ≡ at
            → Stage own (length nexts₀) (length heads₀) (max stop tile) lent heads nexts
            → Stage own (length nexts₀) (length heads₀) (max stop (tile - S)) lent heads' nexts'
        next own lent = rw (← a.heads_kept, ← a.nexts_kept) (λ led owned stage. w.stages own lent (led, owned) stage)

    -- what is left is not above `stop`
    pub across_end : max stop tile ≡ max stop (top - block_size counts (k + 1)) → Walks counts downs (k + 1) q stop top heads₀ nexts₀ heads nexts
    across_end e =
        record {
          heads_kept = a.heads_kept;
          nexts_kept = a.nexts_kept;
          stages = λ own lent owners stage.
              subst (λ (n : ℕ). Stage own (length nexts₀) (length heads₀) n lent heads nexts) e (a.stages own lent owners.0 owners.1 stage).0;
        }

    -- nothing is left
    pub across-done : left ≤ 0 → (tile ≡ top - block_size counts (k + 1)) × Walks counts downs (k + 1) q stop top heads₀ nexts₀ heads nexts
    across-done none = (end, across_end (ap (max stop) end))
      where
        end : tile ≡ top - block_size counts (k + 1)
        end =
            let no : left ≡ 0 = omega arith in
            let low : tile ≡ a.whole.block * count * S = a.tile_is ∙ ap (λ (n : ℕ). (a.whole.block * count + n) * S) no ∙ omega arith in
            omega (arith, low, top_is a.whole, size-next (length heads₀) counts downs t k l)
