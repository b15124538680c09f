-- The cuts chosen for a job in range: what the theory of cuts within bounds says of them. Fitting cuts are those within the most slabs of each
-- dimension (`fits_iff_within`), and the cuts chosen are the cheapest of these (`chosen_is`).
use mathlib.Core.Path.{◌≡◌, refl, sym, ◌∙◌}
use mathlib.Core.Logic.{◌↔◌}
use mathlib.Core.List.{List}
use mathlib.Core.Option.{none, some}
use Prim.Native.Nat.{ℕ, zero, ◌≤◌, ◌<◌}
use lib.ListN.{length, get_or}
use Rattle.numbers.specs.Products.{product}
use Rattle.multipartition.specs.Cuts.{Even, Within, Fits, most_of, cost_of, cheapest_within}
use Rattle.multipartition.specs.Plans.{Job}
use Rattle.multipartition.specs.Jobs.{Passed, cheapest_for}
use Rattle.multipartition.specs.Rivals.{RivalAmong, Rival, Balanced}
use Rattle.multipartition.proofs.Cheapest.{cheapest_within_lem, cheapest_even, cheapest_none}
use Rattle.multipartition.proofs.Fitting.{thick_of_places, fits_iff_within, fits-length}
use Rattle.multipartition.proofs.Minimal.{Minimal, cheapest_minimal, cut-le, tiles-le}
use Rattle.multipartition.proofs.Rivals.{balanced_iff-cheapest, cheapest_no_dearer, cheapest_no_more_tiles}

-- the most slabs of each dimension
abbrev pub most_for : Job → List ℕ
most_for job = most_of job.extents job.least

pub chosen_is : (job : Job) → cheapest_for job ≡ cheapest_within job.p (most_for job) job.weights
chosen_is job = refl

module _ (job : Job) (passed : Passed job) where
  pub fits_iff : (cuts : List ℕ) → Fits job.extents job.least cuts ↔ Within (most_for job) cuts
  fits_iff cuts =
      fits_iff_within job.extents job.least cuts
      (thick_of_places job.extents job.least (passed.least_many ∙ sym passed.extents_many) passed.least_low)

  some_processor : zero < job.p
  some_processor = passed.range.p_low

  -- ---- rivals

  abbrev pub rival_within : Rival job → RivalAmong job.p (Within (most_for job))
  rival_within rival = record {
    cuts = rival.cuts;
    member = (fits_iff rival.cuts).0 rival.member;
    owner = rival.owner;
    below = rival.below;
  }

  abbrev rival_of_within : RivalAmong job.p (Within (most_for job)) → Rival job
  rival_of_within rival = record {
    cuts = rival.cuts;
    member = (fits_iff rival.cuts).1 rival.member;
    owner = rival.owner;
    below = rival.below;
  }

  -- some rival is balanced just if cuts are chosen
  pub balanced_iff-chosen : ((rival : Rival job) × Balanced job.p rival.cuts rival.owner) ↔ ((cuts : List ℕ) × (cheapest_for job ≡ some cuts))
  balanced_iff-chosen = (there, back)
    where
      there : (rival : Rival job) × Balanced job.p rival.cuts rival.owner → (cuts : List ℕ) × (cheapest_for job ≡ some cuts)
      there (rival, balanced) =
          let found = (balanced_iff-cheapest job.p (most_for job) some_processor job.weights).0 (rival_within rival, balanced) in (found.0, chosen_is job ∙ found.1)

      back : (cuts : List ℕ) × (cheapest_for job ≡ some cuts) → (rival : Rival job) × Balanced job.p rival.cuts rival.owner
      back (cuts, e) =
          let found = (balanced_iff-cheapest job.p (most_for job) some_processor job.weights).1 (cuts, sym (chosen_is job) ∙ e) in (rival_of_within found.0, found.1)

  -- ---- no cuts are chosen

  pub none-chosen : (cuts : List ℕ) → cheapest_for job ≡ none → Fits job.extents job.least cuts → Even job.p cuts → ⊥
  none-chosen cuts e fits =
      cheapest_none job.p (most_for job) job.weights cuts (sym (chosen_is job) ∙ e) ((fits_iff cuts).0 fits)

  -- ---- cuts are chosen

  module _ (cuts : List ℕ) (e : cheapest_for job ≡ some cuts) where
    within : cheapest_within job.p (most_for job) job.weights ≡ some cuts
    within = sym (chosen_is job) ∙ e

    pub chosen_fits : Fits job.extents job.least cuts
    chosen_fits = (fits_iff cuts).1 (cheapest_within_lem job.p (most_for job) job.weights cuts within)

    pub chosen-length : length cuts ≡ length job.extents
    chosen-length = fits-length job.extents job.least cuts chosen_fits

    pub chosen_even : Even job.p cuts
    chosen_even = cheapest_even job.p (most_for job) job.weights cuts within

    pub chosen_minimal : Minimal job.p cuts
    chosen_minimal = cheapest_minimal job.p (most_for job) job.weights cuts within

    pub chosen_no_dearer : (rival : Rival job) → Balanced job.p rival.cuts rival.owner
        → cost_of job.weights cuts ≤ cost_of job.weights rival.cuts
    chosen_no_dearer rival = cheapest_no_dearer job.p (most_for job) some_processor job.weights cuts within (rival_within rival)

    pub chosen_no_more_tiles : (rival : Rival job) → Balanced job.p rival.cuts rival.owner
        → cost_of job.weights cuts ≡ cost_of job.weights rival.cuts → product cuts ≤ product rival.cuts
    chosen_no_more_tiles rival = cheapest_no_more_tiles job.p (most_for job) some_processor job.weights cuts within (rival_within rival)

    pub chosen_cut-le : (k : ℕ) → k < length cuts → get_or cuts k 0 ≤ 4096
    chosen_cut-le = cut-le job.p (most_for job) job.weights cuts within some_processor passed.range.p_high

    pub chosen_tiles-le : product cuts ≤ 16777216
    chosen_tiles-le = tiles-le job.p (most_for job) job.weights cuts within some_processor passed.range.p_high
