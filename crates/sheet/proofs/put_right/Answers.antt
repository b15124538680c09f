-- `put_right` meets its contract: the library's digits are those of the definition.
use mathlib.Core.Path.{◌≡◌, sym, ap, ap₂, ◌∙◌}
use mathlib.Core.List.{List, ◌++◌, append_assoc}
use Prim.Native.Nat.{ℕ, ◌-◌}
use native.Mathlib.Omega.{arith}
use lib.ListN.{length, take, drop, take-append-drop}
use Rattle.numerals.specs.Decimal.{decimal}
use Rattle.numerals.proofs.Decimal.{decimal-std}
use Rattle.sheet.proofs.put_right.Goals as goal

pub write_digits-requires : goal.write_digits-requires
write_digits-requires c =
    let same = ap length (decimal-std c.args.n c.ranges.n.fits) in
    (omega (arith, same, c.requires.2), omega (arith, c.requires.0, c.requires.1))

pub returns : goal.returns
returns c =
    let line = c.args.line.now in
    let w = c.write_digits in
    let same = decimal-std c.args.n c.ranges.n.fits in
    let place : w.result ≡ c.args.end - length (decimal c.args.n) = omega (arith, ap length same, w.ensures.start) in
    sym (take-append-drop w.result w.new.buf)
    ∙ ap₂ {C = List ℕ} (λ front back. front ++ back) w.ensures.before w.ensures.written
    ∙ ap₂ {C = List ℕ} (λ k digits. take k line ++ (digits ++ drop c.args.end line)) place same
    ∙ sym (append_assoc (take (c.args.end - length (decimal c.args.n)) line) (decimal c.args.n) (drop c.args.end line))
