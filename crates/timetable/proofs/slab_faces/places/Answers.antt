use mathlib.Core.Path.{refl, sym, ap, ◌∙◌}
use Prim.Native.Nat.{ℕ, ◌/◌, ◌%◌, ◌<◌}
use native.Mathlib.Nat.{div-one}
use native.Mathlib.Omega.{arith}
use lib.ListN.{length, get_or, length-set}
use Rattle.layout.specs.Plans.{layout_of}
use Rattle.layout.proofs.Places.{cuts_length}
use Rattle.walks.proofs.Filling.{set_at}
use Rattle.timetable.specs.Rows.{places_of}
use Rattle.timetable.proofs.Rows.{place_at, divided_more}
use Rattle.timetable.proofs.slab_faces.places.Goals as goal

pub loop-i-init : goal.loop-i-init
loop-i-init c = (sym (div-one c.args.r), (λ j l. absurd (omega arith)), refl)

pub loop-i-preserved : goal.loop-i-preserved
unfolding layout_of
loop-i-preserved c =
    let l = c.loop-i in
    let grid = c.args.grid.now in
    let cuts = (layout_of grid.plan).cuts in
    let within : l.i < length cuts = c.loop-i-test.true in (
      ap (λ (n : ℕ). n / get_or cuts l.i 0) l.invariant.0 ∙ divided_more cuts c.args.r l.i within,
      (λ j m. set_at (λ j. get_or (places_of cuts c.args.r) j 0) l.at l.i _ (omega (arith, l.invariant.2, within, cuts_length grid.plan grid.shaped, grid.shaped.d_high))
          (ap (λ (n : ℕ). n % get_or cuts l.i 0) l.invariant.0 ∙ sym (place_at cuts c.args.r l.i within)) j
          (λ differ. l.invariant.1 j (omega arith))),
      length-set l.at l.i _ ∙ l.invariant.2,
    )

pub returns : goal.returns
unfolding layout_of
returns c =
    let grid = c.args.grid.now in
    λ i m. c.loop-i.invariant.1 i (omega (arith, m, c.loop-i-test.false, cuts_length grid.plan grid.shaped))
