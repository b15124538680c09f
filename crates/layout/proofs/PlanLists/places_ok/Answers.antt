-- `layout::PlanLists::places_ok` meets its contract. Assumes nothing.
use mathlib.Core.Path.{◌≡◌, ap, sym, ◌∙◌}
use mathlib.Core.Bool.{not, false, ◌&&◌}
use native.Mathlib.Omega.{arith}
use Rattle.layout.specs.Lent.{lent_plan}
use Rattle.layout.proofs.Shaped.{passed_none, passed-next, tiles_fit, processors_fit, passed_all, failed_check, place_of_shaped}
use borrow.Author.Tests.{le-leb, lt-leb}
use lib.Dec.{leb, eqb}
use Rattle.multipartition.specs.Plans.{in_shape}
use Rattle.layout.specs.Plans.{layout_of}
use Rattle.layout.proofs.PlanLists.places_ok.Goals as goal

pub loop-k-init : goal.loop-k-init
loop-k-init c = (omega arith, passed_none _ _ _ _ _ _)

pub returns-then-not-place_ok : goal.returns-then-not-place_ok
returns-then-not-place_ok c = let a = c.args.self in
    failed_check (lent_plan a.d a.p a.kind a.extents.now a.cuts.now a.moduli.now a.matrix.now a.least.now) _ _ c.place_ok.ensures
    (λ h. place_of_shaped _ h c.loop-k.k (omega arith))
    (ap not c.if-not-place_ok.true)

pub overflow_mul-tiles : goal.overflow_mul-tiles
overflow_mul-tiles c = record { fits = rw c.from-tiles.ensures (tiles_fit _ _ _ _ _ _ _ _ _ c.requires.0.d_high (omega arith) c.loop-k.invariant.1 _ c.place_ok.ensures (ap not c.if-not-place_ok.false)) }

pub overflow_mul-processors : goal.overflow_mul-processors
overflow_mul-processors c = record { fits = rw c.from-processors.ensures (processors_fit _ _ _ _ _ _ _ _ _ c.requires.0.d_high (omega arith) c.loop-k.invariant.1 _ c.place_ok.ensures (ap not c.if-not-place_ok.false)) }

pub loop-k-preserved : goal.loop-k-preserved
loop-k-preserved c = (omega arith, rw (c.from-tiles.ensures, c.from-processors.ensures) (passed-next _ _ _ _ _ _ _ _ _ c.requires.0.d_high (omega arith) c.loop-k.invariant.1 _ c.place_ok.ensures (ap not c.if-not-place_ok.false)))

pub returns : goal.returns
returns c = let a = c.args.self in
    rw c.from.ensures
    (passed_all (lent_plan a.d a.p a.kind a.extents.now a.cuts.now a.moduli.now a.matrix.now a.least.now) c.requires.0 _ _ _ (omega arith) (omega arith)
    c.loop-k.invariant.1)
