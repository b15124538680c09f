-- `side_within` meets its contract.
use borrow.Author.Tests.{tests}
use lib.Dec.{leb}
use lib.ListN.{length, get_or, replicate, get_or-replicate}
use mathlib.Core.Bool.{true, false}
use mathlib.Core.Path.{◌≡◌, refl, ap, ◌∙◌}
use native.Mathlib.Nat.{mul-one}
use Prim.Native.Nat.{ℕ, ◌*◌, ◌<◌}
use Rattle.std.proofs.Common.{rules}
use Rattle.std.proofs.lemmas.Iterator.{YieldsList-from_slice, cases_from_all}
use Rattle.multipartition.proofs.Iterated.{all_below-iterated}
use Rattle.diagonal.specs.Diagonal.{side_fits}
use Rattle.diagonal.proofs.side_within.Goals as goal

pub returns : goal.returns
unfolding side_fits
returns c =
    let s = c.args.s in
    let extents = c.args.extents.now in
    let one : (k : ℕ) → k < length extents → s * get_or (replicate (length extents) 1) k 0 ≡ s
    = λ k l. ap (λ (t : ℕ). s * t) (get_or-replicate (length extents) k 1 0 l) ∙ mul-one s in
    all_below-iterated extents (length extents) (λ k. leb (s * get_or (replicate (length extents) 1) k 0) (get_or extents k 0)) (λ x. leb s x) c.all.result refl
    (λ k l. ap (λ (t : ℕ). leb t (get_or extents k 0)) (one k l))
    (cases_from_all c.all.new.self _ _ (λ (x : ℕ). leb s x ≡ true) (λ (x : ℕ). leb s x ≡ false) c.all.ensures.ran (YieldsList-from_slice extents cc)
    (λ x q k. search (rules, tests)) (λ x q k. search (rules, tests)))
