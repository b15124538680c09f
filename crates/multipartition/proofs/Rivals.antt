-- Against any rival (document 01, "The rival of demand 3"): a rival that gives every processor equally many tiles in every slab has even cuts,
-- whatever its owners, since the p equal shares of a slab make up the slab. So a rival is balanced only where such even cuts exist, and
-- there the planner's owners are balanced themselves.
use mathlib.Core.Path.{◌≡◌, refl, sym, ◌∙◌, subst, subst⁻¹}
use mathlib.Core.Logic.{◌↔◌}
use mathlib.Core.List.{List, [], ◌∷◌, reverse}
use mathlib.Core.Option.{Option, none, some}
use Prim.Native.Nat.{ℕ, zero, ◌-◌, ◌*◌, ◌≤◌, ◌<◌, ◌∣◌}
use native.Mathlib.Nat.{not-suc-le-zero, le_of_suc-le-suc, dvd-mul_right}
use lib.ListN.{length, get_or}
use Rattle.numbers.specs.Products.{product, without}
use Rattle.multipartition.specs.Cuts.{Even, Within, cost_of, cheapest_within}
use Rattle.multipartition.specs.Owners.{owner_of}
use Rattle.multipartition.specs.Tiles.{Inside}
use Rattle.multipartition.specs.Rivals.{RivalAmong, held, Balanced}
use Rattle.multipartition.proofs.Order.{precedes_tiles-le}
use Rattle.multipartition.proofs.Cheapest.{cheapest_within_lem, cheapest_even, cheapest-precedes, cheapest-le, cheapest_none}
use Rattle.multipartition.proofs.Moduli.{others_down, others_down-reverse}
use Rattle.multipartition.proofs.GridSums.{place_down-reverse, inside-reverse, equal_shares, held_slab_total}
use Rattle.multipartition.proofs.Owners.{owner_below, owners_balanced}
use Rattle.multipartition.proofs.MixedRadix.{Positive}
use Rattle.multipartition.proofs.Fitting.{within_positive}
use Rattle.multipartition.proofs.Minimal.{positive-at}

-- If all p processors own the same number of tiles of one slab of dimension k, p divides the product of the other cuts.
pub dvd_of_equal_shares : (p : ℕ) (cuts : List ℕ) (owner : List ℕ → ℕ) → zero < p → ((x : List ℕ) → Inside cuts x → owner x < p)
    → (k s : ℕ) → k < length cuts → s < get_or cuts k 0
    → ((q r : ℕ) → q < p → r < p → held cuts owner k s q ≡ held cuts owner k s r) → p ∣ product (without k cuts)
unfolding Inside
dvd_of_equal_shares p [] owner l below k s h m equal = absurd (not-suc-le-zero h)
dvd_of_equal_shares p (b1 ∷ cuts) owner l below k s h m equal =
    subst (λ (n : ℕ). p ∣ n) (shares ∙ others_down-reverse b1 cuts k (le_of_suc-le-suc h)) (dvd-mul_right p share)
  where
    share : ℕ
    share = held (b1 ∷ cuts) owner k s 0

    shares : p * share ≡ others_down (length cuts - k) b1 (reverse cuts)
    shares =
        equal_shares (length cuts - k) s b1 (reverse cuts) p share (λ i1 x. owner (i1 ∷ reverse x))
        (subst⁻¹ (λ (n : ℕ). s < n) (place_down-reverse k b1 cuts (le_of_suc-le-suc h)) m)
        (λ i1 x a w. below (i1 ∷ reverse x) (a, inside-reverse cuts x w))
        (λ q o. sym (held_slab_total b1 cuts owner k s q (le_of_suc-le-suc h) m) ∙ equal q 0 o l)

-- a balanced rival has even cuts, whatever its owners and whatever the class of its cuts, if none in the class is 0
pub even_of_balanced : (p : ℕ) {Class : List ℕ → Type 0} → zero < p → ((cuts : List ℕ) → Class cuts → Positive cuts)
    → (rival : RivalAmong p Class) → Balanced p rival.cuts rival.owner → Even p rival.cuts
unfolding Balanced
even_of_balanced p l positive rival balanced k h =
    let some : zero < get_or rival.cuts k 0 = positive-at rival.cuts (positive rival.cuts rival.member) k h in
    dvd_of_equal_shares p rival.cuts rival.owner l rival.below k 0 h some (balanced k 0 h some)

module _ (p : ℕ) (most : List ℕ) (l : zero < p) where
  even_within : (rival : RivalAmong p (Within most)) → Balanced p rival.cuts rival.owner → Even p rival.cuts
  even_within = even_of_balanced p l (within_positive most)

  -- the planner's owners on such cuts are a rival
  unfoldable ours : (cuts : List ℕ) → Within most cuts → RivalAmong p (Within most)
  ours cuts within = record { cuts = cuts; member = within; owner = owner_of p cuts; below = λ x w. owner_below p cuts x l }

  -- some rival is balanced just if there are even cuts within `most`
  pub balanced_iff_even : ((rival : RivalAmong p (Within most)) × Balanced p rival.cuts rival.owner) ↔ ((cuts : List ℕ) × Within most cuts × Even p cuts)
  unfolding ours
  balanced_iff_even = (there, back)
    where
      there : (rival : RivalAmong p (Within most)) × Balanced p rival.cuts rival.owner → (cuts : List ℕ) × Within most cuts × Even p cuts
      there (rival, balanced) = (rival.cuts, rival.member, even_within rival balanced)

      back : (cuts : List ℕ) × Within most cuts × Even p cuts → (rival : RivalAmong p (Within most)) × Balanced p rival.cuts rival.owner
      back (cuts, within, even) = (ours cuts within, owners_balanced p cuts l even)

  -- and just if the planner answers
  pub balanced_iff-cheapest : (weights : List ℕ)
      → ((rival : RivalAmong p (Within most)) × Balanced p rival.cuts rival.owner) ↔ ((cuts : List ℕ) × (cheapest_within p most weights ≡ some cuts))
  balanced_iff-cheapest weights = (there, back)
    where
      there : (rival : RivalAmong p (Within most)) × Balanced p rival.cuts rival.owner → (cuts : List ℕ) × (cheapest_within p most weights ≡ some cuts)
      there (rival, balanced) = go (cheapest_within p most weights) refl
        where
          go : (answer : Option (List ℕ)) → cheapest_within p most weights ≡ answer → (cuts : List ℕ) × (cheapest_within p most weights ≡ some cuts)
          go none e = absurd (cheapest_none p most weights rival.cuts e rival.member (even_within rival balanced))
          go (some cuts) e = (cuts, e)

      back : (cuts : List ℕ) × (cheapest_within p most weights ≡ some cuts) → (rival : RivalAmong p (Within most)) × Balanced p rival.cuts rival.owner
      back (cuts, e) = balanced_iff_even.1 (cuts, cheapest_within_lem p most weights cuts e, cheapest_even p most weights cuts e)

  -- what the planner answers costs no more than any balanced rival
  pub cheapest_no_dearer : (weights cuts : List ℕ) → cheapest_within p most weights ≡ some cuts
      → (rival : RivalAmong p (Within most)) → Balanced p rival.cuts rival.owner → cost_of weights cuts ≤ cost_of weights rival.cuts
  cheapest_no_dearer weights cuts e rival balanced =
      cheapest-le p most weights cuts rival.cuts e rival.member (even_within rival balanced)

  -- and no balanced rival of equal cost has fewer tiles
  pub cheapest_no_more_tiles : (weights cuts : List ℕ) → cheapest_within p most weights ≡ some cuts
      → (rival : RivalAmong p (Within most)) → Balanced p rival.cuts rival.owner → cost_of weights cuts ≡ cost_of weights rival.cuts
      → product cuts ≤ product rival.cuts
  cheapest_no_more_tiles weights cuts e rival balanced =
      precedes_tiles-le weights cuts rival.cuts (cheapest-precedes p most weights cuts rival.cuts e rival.member (even_within rival balanced))
