use mathlib.Core.Path.{◌≡◌, refl, sym, ap, ◌∙◌}
use mathlib.Core.List.{List, ◌++◌}
use Prim.Native.Nat.{ℕ, zero, suc, ◌+◌, ◌*◌, ◌/◌, ◌≤◌, ◌<◌}
use native.Mathlib.Omega.{arith}
use borrow.Author.Rules.{rules}
use lib.ListN.{length, take, drop, get_or, length-take}
use lib.Seq.{get_or-take, take-take, drop-drop}
use Rattle.std.specs.Simd.{first_chunks}
use Rattle.numerals.specs.Words.{bytes_of}
use Rattle.numerals.specs.Lines.{line_of}
use Rattle.numerals.proofs.Puts.{puts_nothing, puts_both, puts_as}
use Rattle.layout.specs.Plans.{layout_of}
use Rattle.layout.proofs.Places.{row_at}
use Rattle.plan_text.proofs.Lines.{joined_none, joined-add-one}
use Rattle.plan_text.proofs.put_rows.Goals as goal

-- run i of five numbers
run_at : (k : ℕ) (xs : List ℕ) (i : ℕ) (z : List ℕ) → i < k → get_or (first_chunks 5 k xs) i z ≡ take 5 (drop (i * 5) xs)
run_at zero xs i z h = absurd (omega arith)
run_at (suc k) xs zero z h = refl
run_at (suc k) xs (suc i) z h =
    let e : 5 + i * 5 ≡ suc i * 5 = omega arith in
    run_at k (drop 5 xs) i z (omega arith) ∙ ap (take 5) (drop-drop (i * 5) 5 xs ∙ ap (λ (n : ℕ). drop n xs) e)

-- the first d numbers of the run
front_at : (d k : ℕ) (xs : List ℕ) (rows : List (List ℕ)) (i : ℕ) (z : List ℕ) → rows ≡ first_chunks 5 k xs → i < d → d ≤ 5 → d ≤ k
    → take d (get_or (take d rows) i z) ≡ take d (drop (i * 5) xs)
front_at d k xs rows i z e h l m =
    ap (take d) (get_or-take d rows i z h ∙ ap (λ (r : List (List ℕ)). get_or r i z) e ∙ run_at k xs i z (omega arith))
    ∙ take-take d 5 (drop (i * 5) xs) l

pub loop-row-init : goal.loop-row-init
loop-row-init c = puts_as (sym (joined_none _)) (puts_nothing _)

pub loop-row-preserved : goal.loop-row-preserved
unfolding layout_of
loop-row-preserved c =
    let plan = c.args.shaped.plan in
    let few = c.args.shaped.shaped.d_high in
    let i = c.loop-row.row-index in
    let long : length plan.matrix ≡ 25 = search rules in
    let within : i < plan.d = omega (arith, length-take plan.d c.as_chunks.result.0.now, c.loop-row-test.true) in
    puts_as (sym (joined-add-one i _))
    (puts_both c.loop-row.invariant
    (puts_as
    (ap (λ (l : List ℕ). bytes_of "row " ++ line_of l)
    (front_at plan.d (length plan.matrix / 5) plan.matrix c.as_chunks.result.0.now i _ c.as_chunks.ensures.front within few (omega (arith, long, few))
    ∙ sym (row_at plan.d plan.matrix i within)))
    c.put_line.ensures))
