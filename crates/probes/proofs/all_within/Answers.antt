use mathlib.Core.Path.{◌≡◌, refl, ap, ◌∙◌}
use mathlib.Core.Bool.{Bool, ◌&&◌}
use Prim.Native.Nat.{ℕ}
use native.Mathlib.Numerals.{add-one}
use native.Mathlib.Omega.{arith}
use lib.Dec.{ltb}
use lib.ListN.{length, get_or}
use Rattle.multipartition.specs.Lists.{all_below}
use Rattle.probes.specs.Probes.{all_within}
use Rattle.probes.proofs.all_within.Goals as goal

pub loop-element-init : goal.loop-element-init
unfolding all_below
loop-element-init c = refl

pub loop-element-preserved : goal.loop-element-preserved
unfolding all_below
loop-element-preserved c = rw (add-one c.loop-element.element-index) (ap (λ (ok : Bool). ok && ltb (get_or c.args.elements.now c.loop-element.element-index 0) c.args.n) c.loop-element.invariant)

pub returns : goal.returns
unfolding all_within
returns c =
    let head = c.loop-element in
    let a = c.args in
    let all : head.element-index ≡ length a.elements.now = omega arith in
    head.invariant ∙ ap (λ (i : ℕ). all_below i (λ j. ltb (get_or a.elements.now j 0) a.n)) all
