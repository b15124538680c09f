-- The most slabs of each dimension: the extents divided, place by place, by the thicknesses that are given.
use mathlib.Core.Path.{◌≡◌, sym, ap, ◌∙◌}
use mathlib.Core.List.{List, [], ◌∷◌}
use Prim.Native.Nat.{ℕ, suc, ◌/◌, ◌≤◌, ◌<◌}
use native.Mathlib.Decide.{dec_lt}
use native.Mathlib.Omega.{arith}
use lib.ListN.{length, get_or, take, replicate, get_or-eq_default}
use Rattle.multipartition.specs.Cuts.{Thick, most_of}
use Rattle.multipartition.specs.Plans.{Job, least_of}
use Rattle.multipartition.proofs.Fitting.{thick_of_places, length-most_of, most_of-at, most_of-ones}
use Rattle.layout.specs.Plans.{five}
use Rattle.layout.proofs.Plans.{take-five}
use Rattle.cuts.specs.Found.{Asked}
use Rattle.planner.specs.Asked.{Measured}
use Rattle.matrix.proofs.Padding.{five-at, is_five_lem}

pub slabs_of : (d : ℕ) (extents given most : List ℕ) → length extents ≡ d → length (least_of d given) ≡ d
    → ((k : ℕ) → k < length (least_of d given) → 1 ≤ get_or (least_of d given) k 0) → length most ≡ 5
    → ((i : ℕ) → i < length given → get_or most i 0 ≡ get_or extents i 0 / get_or given i 0)
    → ((i : ℕ) → length given ≤ i → get_or most i 0 ≡ get_or (five extents) i 0) → most ≡ five (most_of extents (least_of d given))
slabs_of d extents [] most many least-many low places divided others =
    is_five_lem most extents places (λ k l. others k (omega arith) ∙ five-at extents k l)
    ∙ ap five (sym (most_of-ones extents) ∙ ap (λ (n : ℕ). most_of extents (replicate n 1)) many)
slabs_of d extents (t ∷ given) most many least-many low places divided others =
    is_five_lem most (most_of extents (t ∷ given)) places at-place
  where
    thick : Thick extents (t ∷ given)
    thick = thick_of_places extents (t ∷ given) (least-many ∙ sym many) low

    at-place : (k : ℕ) → k < 5 → get_or most k 0 ≡ get_or (most_of extents (t ∷ given)) k 0
    at-place k l = go (dec_lt k (suc (length given)))
      where
        go : Dec (k < suc (length given)) → get_or most k 0 ≡ get_or (most_of extents (t ∷ given)) k 0
        go (yes m) = divided k m ∙ sym (most_of-at extents (t ∷ given) thick k (omega arith))
        go (no m) =
            others k (omega arith) ∙ five-at extents k l ∙ get_or-eq_default extents 0 (omega arith)
            ∙ sym (get_or-eq_default (most_of extents (t ∷ given)) 0 (omega (arith, length-most_of extents (t ∷ given) thick)))

-- ---- of a job that passes its checks

module _ (job : Job) (measured : Measured job) where
  thick : Thick job.extents job.least
  thick = thick_of_places job.extents job.least (measured.least_many ∙ sym measured.extents_many) measured.least_low

  pub bounds-length : length (most_of job.extents job.least) ≡ job.d
  bounds-length = length-most_of job.extents job.least thick ∙ measured.extents_many

  -- the bounds that the search is given
  pub bounds_are : (most : List ℕ) → most ≡ five (most_of job.extents job.least) → take job.d most ≡ most_of job.extents job.least
  bounds_are most e =
      ap (take job.d) e ∙ take-five job.d (most_of job.extents job.least) measured.d_high bounds-length

  -- what the search asks for
  pub asked_of : Asked job.p (most_of job.extents job.least) job.weights
  asked_of = record {
    p_low = measured.p_low;
    p_high = measured.p_high;
    d_low = omega (arith, bounds-length, measured.d_low);
    d_high = omega (arith, bounds-length, measured.d_high);
    weights_too = measured.weights_many ∙ sym bounds-length;
  }
