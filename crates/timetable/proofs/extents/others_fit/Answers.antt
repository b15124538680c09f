-- `others_fit` meets its contract: an extent of 1 leaves the product to the others.
use mathlib.Core.Path.{◌≡◌, refl, ap, ◌∙◌}
use mathlib.Core.Bool.{Bool, true, false, cond}
use Prim.Native.Nat.{ℕ}
use lib.Dec.{leb}
use Rattle.std.specs.declared.option.Option.TheVariants.{Some, None}
use Rattle.std.specs.Option.{is_some}
use Rattle.timetable.proofs.Grids.{others_positive, other_extents-flat}
use Rattle.timetable.proofs.extents.others_fit.Goals as goal

-- whether there is a number behind a test
is_there : (b : Bool) (n : ℕ) → is_some (cond b (Some n) None) ≡ b
is_there true n = refl
is_there false n = refl

pub product-requires : goal.product-requires
product-requires c =
    let axis = c.args.axis in
    others_positive axis.shaped.plan axis.k axis.shaped.shaped axis.within

pub returns : goal.returns
returns c =
    let axis = c.args.axis in
    c.is_some.ensures ∙ ap is_some c.product.ensures ∙ is_there _ _ ∙ ap (λ (n : ℕ). leb n 4294967295) (other_extents-flat axis.shaped.plan axis.k axis.shaped.shaped axis.within)
