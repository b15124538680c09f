use mathlib.Core.Path.{◌≡◌, ◌∙◌}
use mathlib.Core.List.{List, map}
use Prim.Native.Nat.{ℕ, min, ◌≤◌}
use native.Mathlib.Omega.{arith}
use lib.ListN.{length, take}
use lib.Seq.{paste-zero, length-take-le}
use Rattle.sheet.specs.Lines.{shown}
use Rattle.sheet.proofs.Writing.{captioned-next, captioned_all}
use Rattle.sheet.proofs.put_caption.Goals as goal

pub loop-i-init : goal.loop-i-init
loop-i-init c = paste-zero c.args.line.now 34 (map shown (take c.min-count.result c.args.caption.now))

-- there are columns for them
few : (count : ℕ) (caption : List ℕ) → count ≡ min (length caption) 38 → length (take count caption) ≤ 38
few count caption e = omega (arith, e, length-take-le count caption (omega (arith, e)))

pub bounds-line-i : goal.bounds-line-i
bounds-line-i c = omega (arith, few _ c.args.caption.now c.min-count.ensures, c.loop-i-test.true, c.loop-i.auto.line, c.requires)

pub loop-i-preserved : goal.loop-i-preserved
loop-i-preserved c =
    let l = c.loop-i in
    rw l.invariant
    (captioned-next shown c.args.line.now c.requires (take c.min-count.result c.args.caption.now) l.i _ (few _ c.args.caption.now c.min-count.ensures) c.loop-i-test.true c.shown_byte.ensures)

pub returns : goal.returns
returns c =
    let l = c.loop-i in
    l.invariant
    ∙ captioned_all shown c.args.line.now c.requires c.args.caption.now c.min-count.result l.i c.min-count.ensures (omega (arith, l.auto.i-end, c.loop-i-test.false))
