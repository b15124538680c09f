-- `product` meets its contract.
use mathlib.Core.Path.{◌≡◌, sym, ap, ◌∙◌, subst}
use mathlib.Core.Bool.{false}
use mathlib.Core.List.{List}
use Prim.Native.Nat.{ℕ, ◌+◌, ◌*◌, ◌≤◌, ◌<◌}
use native.Mathlib.Nat.{le_refl}
use native.Mathlib.Omega.{arith}
use borrow.Author.Tests.{lt-leb}
use lib.Dec.{leb}
use lib.ListN.{length, get_or, take}
use lib.Seq.{take-length}
use Rattle.std.specs.List.{All}
use Rattle.std.proofs.lemmas.List.Elements.{All-get_or}
use Rattle.numbers.specs.Products.{product}
use Rattle.layout.proofs.Lists.{product-add-one, product_front}
use Rattle.timetable.proofs.extents.product.Goals as goal

-- where the product of the first numbers is too large, that of all is
too_large : (numbers : List ℕ) (i all : ℕ) → All (λ number. 1 ≤ number) numbers → i < length numbers → all ≡ product (take i numbers)
    → (all * get_or numbers i 0 < 4294967296 → ⊥) → leb (product numbers) 4294967295 ≡ false
too_large numbers i all positive l e large =
    let next : product (take (i + 1) numbers) ≡ all * get_or numbers i 0 = product-add-one numbers i l ∙ ap (λ (n : ℕ). n * get_or numbers i 0) (sym e) in
    let front : product (take (i + 1) numbers) ≤ product (take (length numbers) numbers)
    = product_front numbers (length numbers) (le_refl (length numbers)) (λ j m. All-get_or (λ number. 1 ≤ number) numbers j 0 m positive) (i + 1) (omega (arith, l)) in
    lt-leb (product numbers) 4294967295 (omega (arith, next, subst (λ (xs : List ℕ). product (take (i + 1) numbers) ≤ product xs) (take-length numbers) front, large))

pub returns-in_err-all : goal.returns-in_err-all
returns-in_err-all c =
    let l = c.loop-number in
    rw (c.from_residual.ensures, too_large c.args.numbers.now l.number-index l.all c.requires c.loop-number-test.true l.invariant.0 c.in_err-all.ensures)

pub loop-number-preserved : goal.loop-number-preserved
loop-number-preserved c =
    let l = c.loop-number in
    let more = c.in_ok-all.ensures in (
      more.1 ∙ ap (λ (n : ℕ). n * get_or c.args.numbers.now l.number-index 0) l.invariant.0 ∙ sym (product-add-one c.args.numbers.now l.number-index c.loop-number-test.true),
      omega (arith, more.0, more.1),
    )
