-- Choosing the cuts (document 01, "Choosing the cuts"; document 02, request a, for the cost, request f, for what decides among equal costs, and
-- request g, for which cuts fit).
use Rattle.std.specs.Prelude.{◌≡◌, ◌⊎◌, Bool, true, false, cond, ◌&&◌, ◌||◌, List, [], ◌∷◌, ℕ, ◌+◌, ◌-◌, ◌*◌, ◌/◌, ◌%◌, ◌≤◌, ◌<◌, ltb, eqb, length}
use Rattle.std.proofs.Math.Option.{Option, none, some}
use Rattle.std.specs.Int.{◌∣◌}
use Rattle.numbers.specs.Products.{product, without}
use Rattle.multipartition.specs.Lists.{all_below, starting_with, those}

-- "Cuts are even if p divides the product of all cuts but bk, for every k."
abbrev pub Even : ℕ → List ℕ → Type 0
Even p cuts = (k : ℕ) → k < length cuts → p ∣ product (without k cuts)

-- the same as a test
unfoldable pub is_even : ℕ → List ℕ → Bool
is_even p cuts = all_below (length cuts) (λ k. eqb (product (without k cuts) % p) 0)

-- cuts of which none is 0 or above its bound in `most`
abbrev pub Within : List ℕ → List ℕ → Type 0
Within [] [] = Unit {0}
Within [] (b ∷ cuts) = ⊥
Within (n ∷ most) [] = ⊥
Within (n ∷ most) (b ∷ cuts) = (1 ≤ b) × (b ≤ n) × Within most cuts

-- all of them
unfoldable pub cuts_within : List ℕ → List (List ℕ)
cuts_within [] = [] ∷ []
cuts_within (n ∷ most) = starting_with 1 n (cuts_within most)

-- as many thicknesses as extents, none of them 0
abbrev pub Thick : List ℕ → List ℕ → Type 0
Thick [] [] = Unit {0}
Thick [] (t ∷ least) = ⊥
Thick (n ∷ extents) [] = ⊥
Thick (n ∷ extents) (t ∷ least) = (1 ≤ t) × Thick extents least

-- Document 02, request g: "Cuts fit only if bk times the least thickness of k is at most nk". As before, no cut is 0. The lists are the extents, the
-- least thicknesses and the cuts.
abbrev pub Fits : List ℕ → List ℕ → List ℕ → Type 0
Fits [] [] [] = Unit {0}
Fits [] [] (b ∷ cuts) = ⊥
Fits [] (t ∷ least) cuts = ⊥
Fits (n ∷ extents) [] cuts = ⊥
Fits (n ∷ extents) (t ∷ least) [] = ⊥
Fits (n ∷ extents) (t ∷ least) (b ∷ cuts) = (1 ≤ b) × (b * t ≤ n) × Fits extents least cuts

-- the most slabs that each dimension may have: where tk is not 0, bk times tk is at most nk just if bk is at most nk / tk, rounded down
unfoldable pub most_of : List ℕ → List ℕ → List ℕ
most_of [] least = []
most_of (n ∷ extents) [] = []
most_of (n ∷ extents) (t ∷ least) = n / t ∷ most_of extents least

-- Document 02, request a: "Each dimension now costs (bk − 1) · wk." Here 0 - 1 is 0, but no cut that fits is 0.
unfoldable pub cut_cost : ℕ → ℕ → ℕ
cut_cost b w = (b - 1) * w

-- the cost of cuts: the sum over the dimensions
abbrev pub cost_of : List ℕ → List ℕ → ℕ
cost_of [] cuts = 0
cost_of (w ∷ weights) [] = 0
cost_of (w ∷ weights) (b ∷ cuts) = cut_cost b w + cost_of weights cuts

-- u has the smaller cut at the first dimension where u and v differ, or they differ nowhere
abbrev pub NotLater : List ℕ → List ℕ → Type 0
NotLater [] v = Unit {0}
NotLater (b ∷ u) [] = ⊥
NotLater (b ∷ u) (c ∷ v) = (b < c) ⊎ ((b ≡ c) × NotLater u v)

-- the same as a test
unfoldable pub not_later : List ℕ → List ℕ → Bool
not_later [] v = true
not_later (b ∷ u) [] = false
not_later (b ∷ u) (c ∷ v) = ltb b c || (eqb b c && not_later u v)

-- Document 02, request f: "Ties in cost now go to the smaller number of tiles, and after that to the smaller cut at the first dimension that
-- differs." u has fewer tiles than v, or as many and is not later.
abbrev pub NotMore : List ℕ → List ℕ → Type 0
NotMore u v = (product u < product v) ⊎ ((product u ≡ product v) × NotLater u v)

-- the same as a test
unfoldable pub not_more : List ℕ → List ℕ → Bool
not_more u v = ltb (product u) (product v) || (eqb (product u) (product v) && not_later u v)

-- The order among cuts: u is chosen rather than v if it has the "least cost", and among equals by request f.
unfoldable pub Precedes : List ℕ → List ℕ → List ℕ → Type 0
Precedes weights u v = (cost_of weights u < cost_of weights v) ⊎ ((cost_of weights u ≡ cost_of weights v) × NotMore u v)

-- the same as a test
unfoldable pub precedes : List ℕ → List ℕ → List ℕ → Bool
precedes weights u v = ltb (cost_of weights u) (cost_of weights v) || (eqb (cost_of weights u) (cost_of weights v) && not_more u v)

-- of cuts and what was chosen among others, the one that is chosen
unfoldable pub preferred : List ℕ → List ℕ → Option (List ℕ) → Option (List ℕ)
preferred weights u none = some u
preferred weights u (some v) = some (cond (precedes weights u v) u v)

-- the one of the lists that is chosen, if there is any
unfoldable pub chosen : List ℕ → List (List ℕ) → Option (List ℕ)
chosen weights [] = none
chosen weights (u ∷ others) = preferred weights u (chosen weights others)

-- the even cuts within `most` that are chosen
unfoldable pub cheapest_within : ℕ → List ℕ → List ℕ → Option (List ℕ)
cheapest_within p most weights = chosen weights (those (is_even p) (cuts_within most))

-- "The planner answers with the even, fitting cuts of least cost .. The definition ranges over all cut vectors."
abbrev pub cheapest : ℕ → List ℕ → List ℕ → List ℕ → Option (List ℕ)
cheapest p extents least weights = cheapest_within p (most_of extents least) weights
