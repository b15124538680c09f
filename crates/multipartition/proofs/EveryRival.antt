-- What the planner answers, against every rival, over document 01's definitions. For every number of dimensions at once, every p but 0,
-- all bounds of the cuts and all weights. Dimension k is counted from 0.
use mathlib.Core.Path.{◌≡◌, subst⁻¹}
use mathlib.Core.Logic.{◌↔◌, ◌≢◌}
use mathlib.Core.Bool.{Bool, not}
use mathlib.Core.List.{List}
use mathlib.Core.Option.{some}
use Prim.Native.Nat.{ℕ, zero, ◌*◌, ◌/◌, ◌≤◌, ◌<◌, ◌∣◌}
use native.Mathlib.Omega.{arith}
use lib.ListN.{length, get_or}
use Rattle.numbers.specs.Products.{product}
use Rattle.multipartition.specs.Cuts.{Even, Within, cost_of, cheapest_within}
use Rattle.multipartition.specs.Moduli.{moduli_of}
use Rattle.multipartition.specs.Matrix.{matrix_of}
use Rattle.multipartition.specs.Owners.{owner_of}
use Rattle.multipartition.specs.Neighbours.{neighbour_of}
use Rattle.multipartition.specs.Tiles.{Inside, one_step_on}
use Rattle.multipartition.specs.Rivals.{RivalAmong, held, Balanced, Face}
use Rattle.multipartition.proofs.Cheapest.{cheapest_within_lem, cheapest_even}
use Rattle.multipartition.proofs.Moduli.{moduli_positive, moduli_product}
use Rattle.multipartition.proofs.Owners.{owner_below, even_owners}
use Rattle.multipartition.proofs.Neighbours.{neighbour_owns, neighbour-returns, neighbour_injective}
use Rattle.multipartition.proofs.Minimal.{cut-dvd-processors, tiles-dvd_square}
use Rattle.multipartition.proofs.Rivals.{balanced_iff-cheapest, cheapest_no_dearer, cheapest_no_more_tiles}
use Rattle.multipartition.proofs.Faces.{cheapest_faces_differ}

-- what holds of the cuts that the planner answers, and of their owners and neighbours
pub record Unbeaten (p : ℕ) (most weights cuts : List ℕ) : Type 0 where
  pub within : Within most cuts
  pub even : Even p cuts
  -- they cost no more than any rival that gives every processor equally many tiles in every slab
  pub no_dearer : (rival : RivalAmong p (Within most)) → Balanced p rival.cuts rival.owner → cost_of weights cuts ≤ cost_of weights rival.cuts
  -- and no such rival of equal cost has fewer tiles
  pub no_more_tiles : (rival : RivalAmong p (Within most)) → Balanced p rival.cuts rival.owner → cost_of weights cuts ≡ cost_of weights rival.cuts
      → product cuts ≤ product rival.cuts
  -- every owner is a processor, and "every processor owns exactly tiles / (bk · p) tiles of each slab of dimension k"
  pub owner_is_processor : (position : List ℕ) → owner_of p cuts position < p
  pub exact_share : (k s q : ℕ) → k < length cuts → s < get_or cuts k 0 → q < p → held cuts (owner_of p cuts) k s q ≡ product cuts / (get_or cuts k 0 * p)
  -- two tiles with a common face have different owners
  pub faces : (x y : List ℕ) → Inside cuts x → Inside cuts y → Face x y → owner_of p cuts x ≢ owner_of p cuts y
  -- "Where the tile one step up or down along k from a tile of processor q is inside the grid, its owner is the neighbour question's answer for
  -- q, k and that direction."
  pub one_neighbour : (k : ℕ) (up : Bool) (x y : List ℕ) → k < length cuts → Inside cuts x → one_step_on cuts k up x ≡ some y
      → neighbour_of p cuts k up (owner_of p cuts x) ≡ some (owner_of p cuts y)
  -- the other direction leads back, and along a cut dimension different processors have different neighbours
  pub neighbour_back_lem : (k : ℕ) (up : Bool) (q r : ℕ) → k < length cuts → q < p → neighbour_of p cuts k up q ≡ some r → neighbour_of p cuts k (not up) r ≡ some q
  pub neighbours_differ : (k : ℕ) (up : Bool) (q r : ℕ) → k < length cuts → get_or cuts k 0 ≢ 1 → q < p → r < p → q ≢ r
      → neighbour_of p cuts k up q ≢ neighbour_of p cuts k up r
  -- the cuts are small: each divides p, and the number of tiles divides p · p
  pub cuts_divide : (k : ℕ) → k < length cuts → get_or cuts k 0 ∣ p
  pub tiles_divide : product cuts ∣ p * p

-- the planner against every rival, for a job
pub record EveryRival (p : ℕ) (most weights : List ℕ) : Type 0 where
  -- the planner answers just where some rival gives every processor equally many tiles in every slab
  pub accepts : ((rival : RivalAmong p (Within most)) × Balanced p rival.cuts rival.owner) ↔ ((cuts : List ℕ) × (cheapest_within p most weights ≡ some cuts))
  -- and what it answers is as good as any such rival
  pub unbeaten : (cuts : List ℕ) → cheapest_within p most weights ≡ some cuts → Unbeaten p most weights cuts

module _ (p : ℕ) (most weights : List ℕ) (hp : zero < p) where
  pub unbeaten_of-cheapest : (cuts : List ℕ) → cheapest_within p most weights ≡ some cuts → Unbeaten p most weights cuts
  unfolding owner_of neighbour_of
  unbeaten_of-cheapest cuts e = record {
    within = cheapest_within_lem p most weights cuts e;
    even = even;
    no_dearer = cheapest_no_dearer p most hp weights cuts e;
    no_more_tiles = cheapest_no_more_tiles p most hp weights cuts e;
    owner_is_processor = λ position. owner_below p cuts position hp;
    exact_share = even_owners p cuts hp even;
    faces = cheapest_faces_differ p most weights cuts hp e;
    one_neighbour = neighbour_owns cuts (moduli_of p cuts) (matrix_of p cuts) (moduli_positive p cuts hp);
    neighbour_back_lem = λ k up q r h l.
        neighbour-returns cuts (moduli_of p cuts) (matrix_of p cuts) (moduli_positive p cuts hp) k up q r (below k q h l);
    neighbours_differ = λ k up q r h cut l l'.
        neighbour_injective cuts (moduli_of p cuts) (matrix_of p cuts) (moduli_positive p cuts hp) k up q r cut (below k q h l) (below k r h l');
    cuts_divide = cut-dvd-processors p most weights cuts e;
    tiles_divide = tiles-dvd_square p most weights cuts e hp;
  }
    where
      even : Even p cuts
      even = cheapest_even p most weights cuts e

      -- where there is a dimension, the moduli multiply to p
      below : (k q : ℕ) → k < length cuts → q < p → q < product (moduli_of p cuts)
      below k q h l = subst⁻¹ (λ (n : ℕ). q < n) (moduli_product p cuts (omega arith) even) l

  pub every_rival : EveryRival p most weights
  every_rival = record { accepts = balanced_iff-cheapest p most hp weights; unbeaten = unbeaten_of-cheapest }
