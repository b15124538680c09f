-- Runs: several tiles of a line, whose owners are known one by one, visited at once.
use mathlib.Core.Bool.{Bool, true, false}
use mathlib.Core.Path.{◌≡◌, refl, sym, ap, ◌∙◌, subst}
use mathlib.Core.List.{List}
use mathlib.Core.Logic.{⊎_elim}
use Prim.Native.Nat.{ℕ, zero, suc, ◌+◌, ◌-◌, ◌*◌, ◌/◌, ◌%◌, ◌<◌, ◌≤◌, max}
use native.Mathlib.Nat.{eq-zero-or-pos, eq-or-lt_of_le}
use native.Mathlib.Omega.{arith}
use lib.ListN.{length, get_or, set}
use lib.Seq.{get_or-set_same, get_or-set_other}
use Rattle.multipartition.specs.Chains.{Stage}
use Rattle.chains.specs.Stages.{Onward}
use Rattle.chains.specs.Walks.{BlockTop, lower, along, Reaches, nth, Falls, Rises, Runs, Tables, Led, Run, Walks}
use Rattle.chains.proofs.Walking.{line_size, top_coordinate, Across, across_start, across_within, across_end}

-- ---- a run, tile by tile

-- j tiles of a run of `count` are visited, and the next one is `tile`
pub record Visiting (who : ℕ → ℕ) (top count j tile : ℕ) (heads₀ nexts₀ heads nexts : List ℕ) : Type 0 where
  pub few : j ≤ count
  pub tile_is : tile ≡ top - j
  pub onward : Onward (λ own. (j : ℕ) → j < count → own (top - j) ≡ who j) top tile heads₀ nexts₀ heads nexts

module _ (who : ℕ → ℕ) (top count : ℕ) (heads₀ nexts₀ : List ℕ) where
  pub visiting_start : Visiting who top count 0 top heads₀ nexts₀ heads₀ nexts₀
  visiting_start =
      record {
        few = omega arith;
        tile_is = omega arith;
        onward = record { heads_kept = refl; nexts_kept = refl; stages = λ own lent owners stage. stage };
      }

  module _ (j tile : ℕ) (heads nexts : List ℕ) (v : Visiting who top count j tile heads₀ nexts₀ heads nexts) where
    -- the next one is visited
    pub visiting-step : (owner at : ℕ) (heads' nexts' : List ℕ) → j < count → owner ≡ who j → tile ≡ at + 1
        → Onward (λ own. own tile ≡ owner) tile at heads nexts heads' nexts'
        → Visiting who top count (j + 1) (tile - 1) heads₀ nexts₀ heads' nexts'
    visiting-step owner at heads' nexts' more e at-is w =
        record {
          few = omega arith;
          tile_is = omega (arith, v.tile_is);
          onward =
              record {
                heads_kept = w.heads_kept ∙ v.onward.heads_kept;
                nexts_kept = w.nexts_kept ∙ v.onward.nexts_kept;
                stages = λ own lent owners stage.
                    subst (λ (n : ℕ). Stage own (length nexts₀) (length heads₀) n lent heads' nexts') at_next
                    (next own lent (owned own owners) (v.onward.stages own lent owners stage));
              };
        }
      where
        at_next : at ≡ tile - 1
        at_next = omega arith

        owned : (own : ℕ → ℕ) → ((j : ℕ) → j < count → own (top - j) ≡ who j) → own tile ≡ owner
        owned own owners = ap own v.tile_is ∙ owners j more ∙ sym e

        next : (own : ℕ → ℕ) (lent : List ℕ) → own tile ≡ owner → Stage own (length nexts₀) (length heads₀) tile lent heads nexts
            → Stage own (length nexts₀) (length heads₀) at lent heads' nexts'
        next own lent = rw (← v.onward.heads_kept, ← v.onward.nexts_kept) (λ mine stage. w.stages own lent mine stage)

    -- all are visited
    pub visiting_end : count ≤ j → Run who top count heads₀ nexts₀ heads nexts
    visiting_end none = let all : tile ≡ top - count = omega (arith, v.tile_is, v.few) in rw all at v.onward

-- one tile is a run
pub run-one : (q tile at : ℕ) (heads nexts heads' nexts' : List ℕ) → tile ≡ at + 1 → Onward (λ own. own tile ≡ q) tile at heads nexts heads' nexts'
    → Run (λ j. q) tile 1 heads nexts heads' nexts'
run-one q tile at heads nexts heads' nexts' at-is w =
    record {
      heads_kept = w.heads_kept;
      nexts_kept = w.nexts_kept;
      stages = λ own lent owners stage.
          let below : at ≡ tile - 1 = omega arith in
          let first : tile ≡ tile - 0 = omega arith in
          subst (λ (n : ℕ). Stage own (length nexts) (length heads) n lent heads' nexts') below
          (w.stages own lent (ap own first ∙ owners 0 (omega arith)) stage);
    }

-- ---- a line, run by run

-- where a tile is left below n tiles, another one is below the one before the last of them
one_more : (n left tile low : ℕ) → 1 ≤ n → left ≡ tile - low → 1 ≤ tile - n - low → n - 1 + 1 < left
one_more n left tile low some left_is more = omega arith

-- the line goes on from the tile, whose owner is `here`
pub record Running (counts downs : List ℕ) (q stop top tile here : ℕ) (heads₀ nexts₀ heads nexts : List ℕ) : Type 0 where
  pub above : top - get_or counts 0 0 ≤ tile
  pub high : tile ≤ top
  pub across : Across counts downs 0 q stop top tile (tile - (top - get_or counts 0 0)) here heads₀ nexts₀ heads nexts

module _ (counts downs : List ℕ) (q stop top : ℕ) (heads₀ nexts₀ : List ℕ) (t : Tables (length heads₀) counts downs)
    (b : BlockTop counts 1 (length nexts₀) top) where
  pub running_room : get_or counts 0 0 ≤ top
  running_room = omega (arith, b.is ∙ ap (λ (n : ℕ). suc b.block * n) (line_size (length heads₀) counts downs t))

  pub running_start : q < length heads₀ → Running counts downs q stop top top q heads₀ nexts₀ heads₀ nexts₀
  running_start m =
      record {
        above = omega arith;
        high = omega arith;
        across = across_start counts downs 0 (omega arith) q stop top heads₀ nexts₀ t (top - (top - get_or counts 0 0)) (omega (arith, running_room)) b m;
      }

  module _ (last tile here : ℕ) (heads nexts : List ℕ) (last_is : last ≡ max stop (top - get_or counts 0 0))
      (a : Running counts downs q stop top tile here heads₀ nexts₀ heads nexts) where
    abbrev count : ℕ
    count = get_or counts 0 0

    abbrev left : ℕ
    left = tile - (top - count)

    -- the next tile may be visited
    pub running-ready : (here < length heads) × (tile ≤ length nexts)
    running-ready = (
      omega (arith, a.across.at_below, a.across.heads_kept),
      omega (arith, across_within counts downs 0 (omega arith) q stop top heads₀ nexts₀ t tile _ here heads nexts a.across, a.across.nexts_kept),
    )

    -- the owners go by the table
    owner-next : (own : ℕ → ℕ) → Led (length nexts₀) counts downs own → (j : ℕ) → j + 1 < left
        → own (tile - (j + 1)) ≡ lower downs 0 (own (tile - j))
    owner-next own led j more =
        let within : tile ≤ length nexts₀
        = across_within counts downs 0 (omega arith) q stop top heads₀ nexts₀ t tile _ here heads nexts a.across in
        let down : tile - j - 1 ≡ tile - (j + 1) = omega arith in
        subst (λ (n : ℕ). own n ≡ lower downs 0 (own (tile - j))) down
        (led.down 0 (tile - j) (omega arith) (omega arith) (omega (arith, within)) inner)
      where
        inner : 1 ≤ (tile - j - 1) / 1 % count
        inner =
            let m : ℕ = a.across.whole.block in
            let tile_is : tile - j ≡ (m * count + (left - j)) * 1 = omega (arith, a.across.tile_is) in
            let coordinate : (tile - j - 1) / 1 % count ≡ left - j - 1
            = ap (λ (n : ℕ). (n - 1) / 1 % count) tile_is
            ∙ top_coordinate m count (left - j) 1 (omega arith) (omega arith) (omega (arith, a.across.few)) in
            omega (arith, coordinate)

    module _ (n : ℕ) (who : ℕ → ℕ) (some : 1 ≤ n) (fits : n ≤ tile - last) (first : who 0 ≡ here)
        (goes : (j : ℕ) → j + 1 < n → lower downs 0 (who j) ≡ who (j + 1)) where
      who_below : (j : ℕ) → j < n → who j < length heads₀
      who_below zero m = rw first a.across.at_below
      who_below (suc j) m =
          let e : j + 1 ≡ suc j = omega arith in
          subst (λ (i : ℕ). i < length heads₀) (goes j (omega arith) ∙ ap who e) (t.below 0 (who j) (omega arith) (who_below j (omega arith)))

      owners : (own : ℕ → ℕ) → Led (length nexts₀) counts downs own → own tile ≡ here → (j : ℕ) → j < n → own (tile - j) ≡ who j
      owners own led mine zero m = let e : tile - 0 ≡ tile = omega arith in ap own e ∙ mine ∙ sym first
      owners own led mine (suc j) m =
          let e : j + 1 ≡ suc j = omega arith in
          subst (λ (i : ℕ). own (tile - i) ≡ who i) e
          (owner-next own led j (omega (arith, last_is)) ∙ ap (lower downs 0) (owners own led mine j (omega arith)) ∙ goes j (omega arith))

      -- n tiles are visited
      pub running-step : (heads' nexts' : List ℕ) → Run who tile n heads nexts heads' nexts'
          → Running counts downs q stop top (tile - n) (lower downs 0 (who (n - 1))) heads₀ nexts₀ heads' nexts'
      running-step heads' nexts' w =
          record {
            above = omega (arith, last_is);
            high = omega (arith, a.high);
            across =
                record {
                  whole = a.across.whole;
                  few = omega (arith, a.across.few);
                  tile_is = omega (arith, a.across.tile_is, last_is);
                  at_below = t.below 0 (who (n - 1)) (omega arith) (who_below (n - 1) (omega arith));
                  heads_kept = w.heads_kept ∙ a.across.heads_kept;
                  nexts_kept = w.nexts_kept ∙ a.across.nexts_kept;
                  stages = λ own lent led owned stage.
                      let now = a.across.stages own lent led owned stage in
                      let mine : own tile ≡ here = now.1 (omega (arith, last_is)) in (
                        next own lent (owners own led mine) now.0,
                        λ more.
                            let e : n - 1 + 1 ≡ n = omega arith in
                            subst (λ (i : ℕ). own (tile - i) ≡ lower downs 0 (who (n - 1))) e
                            (owner-next own led (n - 1) (one_more n left tile (top - count) some refl more) ∙ ap (lower downs 0) (owners own led mine (n - 1) (omega arith))),
                      );
                };
          }
        where
          here-top : max stop tile ≡ tile
          here-top = omega (arith, last_is)

          here_end : tile - n ≡ max stop (tile - n)
          here_end = omega (arith, last_is)

          walked : (own : ℕ → ℕ) (lent : List ℕ) → ((j : ℕ) → j < n → own (tile - j) ≡ who j)
              → Stage own (length nexts) (length heads) (max stop tile) lent heads nexts
              → Stage own (length nexts) (length heads) (max stop (tile - n)) lent heads' nexts'
          walked own lent mine stage =
              subst (λ (i : ℕ). Stage own (length nexts) (length heads) i lent heads' nexts') here_end
              (w.stages own lent mine (subst (λ (i : ℕ). Stage own (length nexts) (length heads) i lent heads nexts) here-top stage))

          next : (own : ℕ → ℕ) (lent : List ℕ) → ((j : ℕ) → j < n → own (tile - j) ≡ who j)
              → Stage own (length nexts₀) (length heads₀) (max stop tile) lent heads nexts
              → Stage own (length nexts₀) (length heads₀) (max stop (tile - n)) lent heads' nexts'
          next own lent = rw (← a.across.heads_kept, ← a.across.nexts_kept) (walked own lent)

    -- no tile above `stop` is left
    pub running_end : tile ≤ last → Walks counts downs 1 q stop top heads₀ nexts₀ heads nexts
    running_end none =
        across_end counts downs 0 (omega arith) q stop top heads₀ nexts₀ t tile _ here heads nexts a.across
        (omega (arith, none, last_is, a.above, line_size (length heads₀) counts downs t))

-- ---- runs in both directions

-- what a table of runs says of a processor
abbrev pub Follows : Bool → ℕ → List ℕ → ℕ → ℕ → Type 0
Follows true p downs q run = Rises p downs q run
Follows false p downs q run = Falls downs q run

-- what a table of runs says
pub runs_long : (rising : Bool) (p : ℕ) (downs runs : List ℕ) → Runs rising p downs runs → length runs ≡ 4096
runs_long true p downs runs r = r.long
runs_long false p downs runs r = r.long

pub runs_reach : (rising : Bool) (p : ℕ) (downs runs : List ℕ) → Runs rising p downs runs → (q j : ℕ) → q < p → j ≤ get_or runs q 0 → Reaches rising p q j
runs_reach true p downs runs r q j l m = omega (arith, (r.at q l).few)
runs_reach false p downs runs r q j l m = (omega (arith, (r.at q l).few), l)

pub runs_steps : (rising : Bool) (p : ℕ) (downs runs : List ℕ) → Runs rising p downs runs → (q j : ℕ) → q < p → j < get_or runs q 0
    → lower downs 0 (along rising q j) ≡ along rising q (j + 1)
runs_steps true p downs runs r q j l m = (r.at q l).steps j m
runs_steps false p downs runs r q j l m = (r.at q l).steps j m

pub along_none : (rising : Bool) (q : ℕ) → along rising q 0 ≡ q
along_none true q = omega arith
along_none false q = omega arith

pub along_below : (rising : Bool) (p q j : ℕ) → Reaches rising p q j → along rising q j < p
along_below true p q j r = r
along_below false p q j r = omega (arith, r.0, r.1)

-- ---- tables of runs

-- a falling run is one more than that of the processor before, or none
pub falls-next : (downs : List ℕ) (q run more : ℕ) → (1 ≤ q → Falls downs (q - 1) run) → (1 ≤ more → (lower downs 0 q + 1 ≡ q) × (more ≡ run + 1))
    → Falls downs q more
falls-next downs q run more before longer =
    record { few = ⊎_elim (λ (none : more ≡ 0). omega arith) (λ (some : 1 ≤ more). few some) (eq-zero-or-pos more); steps = steps }
  where
    few : 1 ≤ more → more ≤ q
    few some = let l = longer some in let low : 1 ≤ q = omega (arith, l.0) in omega (arith, l.1, (before low).few)

    steps : (j : ℕ) → j < more → lower downs 0 (q - j) ≡ q - (j + 1)
    steps zero m =
        let l = longer m in
        let same : q ≡ q - 0 = omega arith in
        subst (λ (n : ℕ). lower downs 0 n ≡ q - (0 + 1)) same (omega (arith, l.0))
    steps (suc i) m =
        let l = longer (omega arith) in
        let from : q - 1 - i ≡ q - suc i = omega arith in
        let to : q - 1 - (i + 1) ≡ q - (suc i + 1) = omega arith in
        rw (from, to) at ((before (omega (arith, l.0))).steps i (omega (arith, l.1)))

-- a rising run is one more than that of the processor after, or none
pub rises_next : (p : ℕ) (downs : List ℕ) (q run more : ℕ) → q < p → lower downs 0 q < p → (q + 1 < p → Rises p downs (q + 1) run)
    → (1 ≤ more → (lower downs 0 q ≡ q + 1) × (more ≡ run + 1)) → Rises p downs q more
rises_next p downs q run more here below after longer =
    record { few = ⊎_elim (λ (none : more ≡ 0). omega arith) (λ (some : 1 ≤ more). few some) (eq-zero-or-pos more); steps = steps }
  where
    few : 1 ≤ more → q + more < p
    few some = let l = longer some in let room : q + 1 < p = omega (arith, l.0) in omega (arith, l.1, (after room).few)

    steps : (j : ℕ) → j < more → lower downs 0 (q + j) ≡ q + (j + 1)
    steps zero m =
        let same : q ≡ q + 0 = omega arith in
        subst (λ (n : ℕ). lower downs 0 n ≡ q + (0 + 1)) same (longer m).0
    steps (suc i) m =
        let l = longer (omega arith) in
        let from : q + 1 + i ≡ q + suc i = omega arith in
        let to : q + 1 + (i + 1) ≡ q + (suc i + 1) = omega arith in
        rw (from, to) at ((after (omega (arith, l.0))).steps i (omega (arith, l.1)))

-- ---- a table of runs, filled from the processor at which the runs end

pub nth_below : (rising : Bool) (p i : ℕ) → i < p → nth rising p i < p
nth_below true p i l = omega arith
nth_below false p i l = l

nth_other : (rising : Bool) (p i j : ℕ) → i < p → j < i → nth rising p j ≡ nth rising p i → ⊥
nth_other true p i j l m e = absurd (omega arith)
nth_other false p i j l m e = absurd (omega arith)

-- a run has no more steps than processors before it
pub follows_short : (rising : Bool) (p : ℕ) (downs : List ℕ) (i run : ℕ) → i < p → Follows rising p downs (nth rising p i) run → run ≤ i + 1
follows_short true p downs i run l r = omega (arith, r.few)
follows_short false p downs i run l r = omega (arith, r.few)

-- the run of the next processor, by that of the one before
pub follows-next : (rising : Bool) (p : ℕ) (downs : List ℕ) (i run more : ℕ) → i < p → lower downs 0 (nth rising p i) < p
    → (1 ≤ i → Follows rising p downs (nth rising p (i - 1)) run)
    → (1 ≤ more → Reaches rising 4097 (nth rising p i) 1 × (lower downs 0 (nth rising p i) ≡ along rising (nth rising p i) 1) × (more ≡ run + 1))
    → Follows rising p downs (nth rising p i) more
follows-next true p downs i run more l below before longer =
    rises_next p downs (p - 1 - i) run more (omega arith) below
    (λ room. let e : p - 1 - (i - 1) ≡ p - 1 - i + 1 = omega arith in subst (λ (n : ℕ). Rises p downs n run) e (before (omega arith)))
    (λ some. let h = longer some in (h.1, h.2))
follows-next false p downs i run more l below before longer =
    falls-next downs i run more before (λ some. let h = longer some in (omega (arith, h.0.0, h.1), h.2))

pub runs_more : (rising : Bool) (p : ℕ) (downs runs : List ℕ) (i x : ℕ) → i < p → p ≤ length runs
    → ((j : ℕ) → j < i → Follows rising p downs (nth rising p j) (get_or runs (nth rising p j) 0)) → Follows rising p downs (nth rising p i) x
    → (j : ℕ) → j < i + 1 → Follows rising p downs (nth rising p j) (get_or (set runs (nth rising p i) x) (nth rising p j) 0)
runs_more rising p downs runs i x l long old new j m =
    let upto : j ≤ i = omega arith in
    ⊎_elim
    (λ (same : j ≡ i). rw (same, get_or-set_same runs (nth rising p i) x 0 (omega (arith, nth_below rising p i l, long))) new)
    (λ (before : j < i). rw (get_or-set_other runs (nth rising p i) (nth rising p j) x 0 (nth_other rising p i j l before)) (old j before))
    (eq-or-lt_of_le upto)

pub runs_made : (rising : Bool) (p : ℕ) (downs runs : List ℕ) (i : ℕ) → p ≤ i → length runs ≡ 4096
    → ((j : ℕ) → j < i → Follows rising p downs (nth rising p j) (get_or runs (nth rising p j) 0)) → Runs rising p downs runs
runs_made true p downs runs i all long each =
    record {
      long = long;
      at = λ q m.
          let e : p - 1 - (p - 1 - q) ≡ q = omega arith in
          subst (λ (n : ℕ). Rises p downs n (get_or runs n 0)) e (each (p - 1 - q) (omega arith));
    }
runs_made false p downs runs i all long each = record { long = long; at = λ q m. each q (omega arith) }
