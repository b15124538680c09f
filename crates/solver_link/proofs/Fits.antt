-- The places of the answers over the link fit 32 bits, but for that of a fall in a probe line.
use mathlib.Core.Path.{◌≡◌, refl}
use mathlib.Core.Bool.{Bool, true, false, not, cond}
use mathlib.Core.List.{List, [], ◌∷◌}
use mathlib.Core.Option.{Option, none, some}
use Prim.Native.Nat.{ℕ, ◌≤◌}
use native.Mathlib.Omega.{arith}
use borrow.Author.Tests.{not-false}
use lib.Dec.{lit≤, leb, eqb}
use lib.ListN.{length}
use Rattle.multipartition.specs.Answers.{Answer, answered, refused, Check, checked}
use Rattle.multipartition.specs.Plans.{Job, Layout, job_with, between}
use Rattle.multipartition.specs.Jobs.{dimensions_check, lengths_check, extents_check, least_check, first_outside, first_zero, job_checks, cheapest_for, plan_with, plan_answer}
use Rattle.multipartition.specs.Questions.{owner_answer, neighbour_answer, slab_answer, slab_of_answer, number_answer, position_answer, step_answer, chains_answer}
use Rattle.multipartition.proofs.Jobs.{first_outside-le, lengths_of_check}
use Rattle.multipartition.proofs.Searches.{first_failing-le}
use Rattle.multipartition.proofs.Tests.{by_cond, between-true_iff}
use Rattle.std.proofs.lemmas.Grind.{common_steps}
use Rattle.layout.specs.Plans.{layout_of}
use Rattle.probes.specs.Probes.{probes_answer}
use Rattle.refused_share.specs.Shares.{smallest_refused, share_of, share_answer}
use Rattle.diagonal.specs.Diagonal.{side_of, side_fits, diagonal_checks, diagonal_plan, diagonal_answer}
use Rattle.hypercube.specs.Hypercube.{hypercube_answer}
use Rattle.sheet.specs.Pages.{sheet_answer}
use Rattle.timetable.specs.Timetable.{timetable_answer}
use Rattle.link_lists.specs.Lists.{plan_in, plan_places, place_in32, into}
use Rattle.link_lists.proofs.Answers.{Fits, fits_answered, fits_refused, fits_into}
use Rattle.solver_link.specs.Link.{and_then, hypercube_owner_link, plan_link, smallest_refused_link, diagonal_link, owner_link, neighbour_link, slab_link, slab_of_link, probes_listed, slabs_of_link, slab_sheet_link, tile_number_link, tile_position_link, step_link, timetable_link, chains_link}

-- ---- calls about a plan list, and numbers of their answers

fits_then : {A : Type 0} (asked : Answer A) (places : ℕ) (numbers : A → List ℕ) → Fits asked → Fits (and_then asked (λ a. into places (numbers a)))
fits_then (answered a) places numbers fits = fits_into places (numbers a)
fits_then (refused number place) places numbers fits = fits_refused number place fits.small

module _ (list : List ℕ) where
  pub fits-owner : (position : List ℕ) (places : ℕ) → Fits (owner_link list position places)
  unfolding owner_link owner_answer
  fits-owner position places = record { small = grind (arith, common_steps) }

  pub fits-neighbour : (q k up places : ℕ) → Fits (neighbour_link list q k up places)
  unfolding neighbour_link neighbour_answer
  fits-neighbour q k up places = record { small = grind (arith, common_steps) }

  pub fits-slab : (k s places : ℕ) → Fits (slab_link list k s places)
  unfolding slab_link slab_answer
  fits-slab k s places = record { small = grind (arith, common_steps) }

  pub fits-slab_of : (k element places : ℕ) → Fits (slab_of_link list k element places)
  unfolding slab_of_link slab_of_answer
  fits-slab_of k element places = record { small = grind (arith, common_steps) }

  pub fits-sheet : (k page : ℕ) (caption : List ℕ) (places : ℕ) → Fits (slab_sheet_link list k page caption places)
  unfolding slab_sheet_link sheet_answer
  fits-sheet k page caption places = record { small = grind (arith, common_steps) }

  pub fits-number : (position : List ℕ) (places : ℕ) → Fits (tile_number_link list position places)
  unfolding tile_number_link number_answer
  fits-number position places = record { small = grind (arith, common_steps) }

  pub fits-position : (tile places : ℕ) → Fits (tile_position_link list tile places)
  unfolding tile_position_link position_answer
  fits-position tile places = record { small = grind (arith, common_steps) }

  pub fits-step : (position : List ℕ) (k up places : ℕ) → Fits (step_link list position k up places)
  unfolding step_link step_answer
  fits-step position k up places = record { small = grind (arith, common_steps) }

  pub fits-timetable : (k up step q places : ℕ) → Fits (timetable_link list k up step q places)
  unfolding timetable_link timetable_answer
  fits-timetable k up step q places = record { small = grind (arith, common_steps) }

  pub fits-chains : (heads nexts : ℕ) → Fits (chains_link list heads nexts)
  unfolding chains_link chains_answer
  fits-chains heads nexts = record { small = grind (arith, common_steps) }

pub fits-hypercube : (p : ℕ) (position : List ℕ) (places : ℕ) → Fits (hypercube_owner_link p position places)
unfolding hypercube_owner_link hypercube_answer
fits-hypercube p position places = record { small = grind (arith, common_steps) }

-- the place of a fall, cut to 32 bits
pub cut-probes : (list : List ℕ) (k : ℕ) (elements lent : List ℕ) → place_in32 (probes_listed list k elements lent) ≡ slabs_of_link list k elements lent
unfolding probes_listed slabs_of_link
cut-probes list k elements lent = go (not (eqb (length list) plan_places)) (probes_answer (layout_of (plan_in list)) k elements lent)
  where
    go : (fails : Bool) (asked : Answer (List ℕ)) → place_in32 (cond fails (refused 6 0) asked) ≡ cond fails (refused 6 0) (place_in32 asked)
    go true asked = refl
    go false asked = refl

-- ---- jobs: a dimension is one of at most five

-- what each check knows where it turns a call down, and the last where none does
abbrev Places : List Check → Type 0 → Type 0
Places [] rest = rest
Places (c ∷ checks) rest = (c.fails ≡ true → c.place ≤ 4294967295) × (c.fails ≡ false → Places checks rest)

fits_checked : {A : Type 0} (checks : List Check) (answer : Answer A) → Places checks (Fits answer) → Fits (checked checks answer)
fits_checked [] answer h = h
fits_checked (c ∷ checks) answer h =
    by_cond Fits c.fails (refused c.number c.place) (checked checks answer) (λ e. record { small = h.0 e }) (λ e. fits_checked checks answer (h.1 e))

-- the lines 3 and 4, and 13
lists_fit : (job : Job) (checks : List Check) (rest : Type 0) → (dimensions_check job.d).fails ≡ false → Places checks rest
    → Places (lengths_check job ∷ extents_check job ∷ least_check job ∷ checks) rest
lists_fit job checks rest few h = (
  (λ e. lit≤ tt),
  (λ many.
      let d_range = (between-true_iff 2 5 job.d).0 (not-false (between 2 5 job.d) few) in
      let long = lengths_of_check job many in
      let outside : first_outside job.extents ≤ 4294967295 = omega (arith, first_outside-le job.extents, long.0, d_range.1) in
      let zeros : first_zero job.least ≤ 4294967295 = omega (arith, first_failing-le (leb 1) 1 job.least, long.2, d_range.1) in
      ((λ e. outside), (λ inside. ((λ e. zeros), (λ thick. h))))),
)

fits_planned : (job : Job) → Fits (plan_answer job)
unfolding plan_answer plan_with
fits_planned job =
    fits_checked (job_checks job) (plan_with job (cheapest_for job))
    ((λ e. lit≤ tt), (λ few. ((λ e. lit≤ tt), (λ p. lists_fit job [] (Fits (plan_with job (cheapest_for job))) few (cut (cheapest_for job))))))
  where
    cut : (cuts : Option (List ℕ)) → Fits (plan_with job cuts)
    cut none = fits_refused 5 0 (lit≤ tt)
    cut (some cuts) = fits_answered _

fits_diagonal : (job : Job) → Fits (diagonal_answer job)
unfolding diagonal_answer
fits_diagonal job =
    let last : Check = record { fails = not (side_fits (side_of job.d job.p) job.extents job.least); number = 5; place = 0 } in
    let planned : Answer Layout = answered (diagonal_plan job (side_of job.d job.p)) in
    fits_checked (diagonal_checks job) planned
    ((λ e. lit≤ tt), (λ few. ((λ e. lit≤ tt), (λ p. ((λ e. lit≤ tt), (λ suited. lists_fit job (last ∷ []) (Fits planned) few ((λ e. lit≤ tt), (λ sides. fits_answered _))))))))

fits_share : (job : Job) → Fits (share_answer job)
unfolding share_answer share_of
fits_share job = shared (plan_answer job) (fits_planned job)
  where
    shared : (planned : Answer Layout) → Fits planned → Fits (share_of job planned)
    shared (answered layout) fits = fits_answered _
    shared (refused number place) fits =
        by_cond Fits (eqb number 5) (answered (some (smallest_refused job))) (refused number place) (λ e. fits_answered _) (λ e. fits_refused number place fits.small)

module _ (p d : ℕ) (extents weights least : List ℕ) (places : ℕ) where
  pub fits-plan : Fits (plan_link p d extents weights least places)
  unfolding plan_link
  fits-plan = fits_then _ places _ (fits_planned (job_with p d extents weights least))

  pub fits-diagonal : Fits (diagonal_link p d extents weights least places)
  unfolding diagonal_link
  fits-diagonal = fits_then _ places _ (fits_diagonal (job_with p d extents weights least))

  pub fits-smallest : Fits (smallest_refused_link p d extents weights least places)
  unfolding smallest_refused_link
  fits-smallest = fits_then _ places _ (fits_share (job_with p d extents weights least))
