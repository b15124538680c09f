use mathlib.Core.Path.{◌≡◌, refl, sym, ap, ◌∙◌}
use mathlib.Core.Bool.{Bool, ◌&&◌, and_assoc, and-true}
use Prim.Native.Nat.{ℕ, ◌<◌, ◌≤◌}
use native.Mathlib.Omega.{arith}
use lib.Dec.{eqb}
use lib.ListN.{length, take}
use Rattle.std.specs.Slice.Iter.{windows_rest}
use Rattle.probes.proofs.Falls.{rises_pair, no_pair}
use Rattle.probes.proofs.rises.Goals as goal

pub loop-pair-init : goal.loop-pair-init
loop-pair-init c =
    let e = c.windows-pair-items.ensures in
    rw (c.into_iter-pair-iterator.ensures.into_iter_gives, e.rest, e.size) (refl, refl)

pub loop-pair-preserved : goal.loop-pair-preserved
loop-pair-preserved c =
    let s = c.in-Some.ensures.steps in
    let two = c.loop-pair.invariant.0 in
    let rest = windows_rest c.loop-pair.pair-iterator in
    let many : 2 ≤ length rest = omega (arith, two, s.1.0) in
    let pair : c.in-Some.pair.now ≡ take 2 rest = s.1.1 ∙ ap (λ (n : ℕ). take n rest) two in
    (s.0 ∙ two, rw (pair, s.1.2) (and_assoc c.loop-pair.ok _ _ ∙ ap (λ (t : Bool). c.loop-pair.ok && t) (rises_pair rest many) ∙ c.loop-pair.invariant.1))

pub returns : goal.returns
returns c =
    let s = c.in-None.ensures.steps in
    let two = c.loop-pair.invariant.0 in
    let rest = windows_rest c.loop-pair.pair-iterator in
    let few : length rest < 2 = omega (arith, two, s.1.0) in
    sym (and-true c.loop-pair.ok) ∙ ap (λ (place : ℕ). c.loop-pair.ok && eqb place 0) (sym (no_pair rest few)) ∙ c.loop-pair.invariant.1
