use mathlib.Core.Path.{◌≡◌, sym, ap, ◌∙◌}
use mathlib.Core.Bool.{true}
use mathlib.Core.List.{[], ◌∷◌, ◌++◌}
use Prim.Native.Nat.{ℕ, suc, ◌+◌, ◌-◌}
use native.Mathlib.Omega.{arith}
use lib.ListN.{take}
use Rattle.numerals.specs.Decimal.{decimal}
use Rattle.numerals.specs.Lines.{line_of}
use Rattle.numerals.proofs.Lines.{followed}
use Rattle.numerals.proofs.Puts.{puts_nothing, puts_both, puts_as}
use Rattle.multipartition.specs.Lists.{list_of}
use Rattle.multipartition.specs.Neighbours.{next_owner}
use Rattle.layout.specs.declared.Plan.{Plan}
use Rattle.layout.specs.Plans.{rows_from}
use Rattle.questions.specs.declared.reduced.Owners.{Owners}
use Rattle.questions.specs.Asks.{Asks}
use Rattle.plan_text.proofs.Lines.{followed_none, followed_more, line_first}
use Rattle.plan_text.proofs.put_neighbours.Invariants.{next_of}
use Rattle.plan_text.proofs.put_neighbours.Goals as goal

-- what is asked of the plan's moduli and matrix is asked of the plan
asked_of : (plan : Plan) (o : Owners) (k q : ℕ) → Asks plan o → next_owner (take o.d o.moduli.now) (rows_from o.d 0 o.d o.matrix.now) k true q ≡ next_of plan k q
asked_of plan o k q a = rw (sym a.d_is, sym a.moduli_are, sym a.matrix_are)

pub loop-q-init : goal.loop-q-init
loop-q-init c = puts_as (sym (followed_none _)) (puts_nothing _)

pub loop-q-preserved : goal.loop-q-preserved
loop-q-preserved c =
    let plan = c.args.axis.shaped.plan in
    let k = c.args.axis.k in
    let q = c.loop-q.q in
    let low = c.loop-q.auto.q in
    let next : q + 1 - 1 ≡ suc (q - 1) = omega arith in
    let here : 1 + (q - 1) ≡ q = omega arith in
    puts_as
    (ap (λ (m : ℕ). followed (list_of 1 (q - 1) (next_of plan k)) ++ (32 ∷ decimal m))
    (c.from-in-loop-q.ensures ∙ c.neighbour-in-loop-q.ensures ∙ asked_of plan c.owners-owners.result k q c.owners-owners.ensures ∙ ap (next_of plan k) (sym here))
    ∙ sym (ap (λ (n : ℕ). followed (list_of 1 n (next_of plan k))) next ∙ followed_more 1 (q - 1) (next_of plan k)))
    (puts_both c.loop-q.invariant (puts_both c.byte.ensures c.decimal-in-loop-q.ensures))

pub returns : goal.returns
returns c =
    let plan = c.args.axis.shaped.plan in
    let k = c.args.axis.k in
    let q = c.loop-q.q in
    let low = c.args.axis.shaped.shaped.p_low in
    let high = c.loop-q.auto.q-end low in
    let last : q - 1 ≡ plan.p - 1 = omega arith in
    let all : suc (plan.p - 1) ≡ plan.p = omega arith in
    puts_as
    (ap (λ (m : ℕ). decimal m ++ (followed (list_of 1 (q - 1) (next_of plan k)) ++ (10 ∷ [])))
    (c.from.ensures ∙ c.neighbour.ensures ∙ asked_of plan c.owners-owners.result k 0 c.owners-owners.ensures)
    ∙ ap (λ (n : ℕ). decimal (next_of plan k 0) ++ (followed (list_of 1 n (next_of plan k)) ++ (10 ∷ []))) last
    ∙ sym (line_first (plan.p - 1) (next_of plan k))
    ∙ ap (λ (n : ℕ). line_of (list_of 0 n (next_of plan k))) all)
    (puts_both c.decimal.ensures (puts_both c.loop-q.invariant c.byte-2.ensures))
