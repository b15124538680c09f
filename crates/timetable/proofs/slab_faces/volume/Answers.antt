-- `volume` meets its contract.
use mathlib.Core.Path.{◌≡◌, refl, sym, ap, ap₂, ◌∙◌, subst⁻¹}
use Prim.Native.Nat.{ℕ, ◌+◌, ◌*◌, ◌≤◌, ◌<◌}
use native.Mathlib.Nat.{lt_of_le_of_lt}
use native.Mathlib.Omega.{arith}
use lib.Dec.{lit<}
use lib.ListN.{length, get_or, take}
use lib.Seq.{length-take-le, get_or-take}
use borrow.Author.Rules.{rules}
use Rattle.numbers.specs.Products.{product}
use Rattle.multipartition.specs.Slabs.{thickness}
use Rattle.timetable.proofs.Lines.{sides, sides_more, sides_fit, sides_all}
use Rattle.timetable.proofs.slab_faces.volume.Goals as goal
use Rattle.timetable.proofs.slab_faces.volume.Goals.{After-thickness-all}

long : (c : After-thickness-all) → length (take c.args.grid.now.plan.d c.args.at) ≡ c.args.grid.now.plan.d
long c =
    let grid = c.args.grid.now in
    let places : length c.args.at ≡ 5 = search rules in
    length-take-le grid.plan.d c.args.at (omega (arith, places, grid.shaped.d_high))

below : (c : After-thickness-all) → c.loop-i.i < c.args.grid.now.plan.d
below c = omega (arith, c.loop-i-test.true, long c)

-- one side more
more : (c : After-thickness-all) → c.loop-i.all * c.thickness-all.result
    ≡ product (take (c.loop-i.i + 1) (sides c.args.grid.now.plan c.args.grid.now.shaped c.args.at c.requires.0 c.requires.1))
more c =
    let grid = c.args.grid.now in
    ap₂ ◌*◌ c.loop-i.invariant
    (c.thickness-all.ensures ∙ ap (thickness (get_or grid.plan.extents c.loop-i.i 0) (get_or grid.plan.cuts c.loop-i.i 0)) (get_or-take grid.plan.d c.args.at c.loop-i.i 0 (below c)))
    ∙ sym (sides_more grid.plan grid.shaped c.args.at c.requires.0 c.requires.1 c.loop-i.i (below c))

pub loop-i-init : goal.loop-i-init
loop-i-init c = refl

pub overflow_mul-all : goal.overflow_mul-all
overflow_mul-all c =
    let grid = c.args.grid.now in
    record {
      fits =
          lt_of_le_of_lt
          (subst⁻¹ (λ (n : ℕ). n ≤ 4294967295) (more (goal.at.overflow_mul-all c).After-thickness-all) (sides_fit grid.plan grid.shaped c.args.at c.requires.0 c.requires.1 (c.loop-i.i + 1) (omega (arith, below (goal.at.overflow_mul-all c).After-thickness-all))))
          (lit< tt);
    }

pub loop-i-preserved : goal.loop-i-preserved
loop-i-preserved c = more (goal.at.loop-i-preserved c).After-thickness-all

pub returns : goal.returns
returns c =
    let grid = c.args.grid.now in
    let places : length c.args.at ≡ 5 = search rules in
    let long : length (take grid.plan.d c.args.at) ≡ grid.plan.d = length-take-le grid.plan.d c.args.at (omega (arith, places, grid.shaped.d_high)) in
    let all : c.loop-i.i ≡ grid.plan.d = omega (arith, c.loop-i-test.false, c.loop-i.auto.i-end, long) in
    c.loop-i.invariant ∙ ap (λ (n : ℕ). product (take n (sides grid.plan grid.shaped c.args.at c.requires.0 c.requires.1))) all ∙ sides_all grid.plan grid.shaped c.args.at c.requires.0 c.requires.1
