-- The cycle of calls: `search` with `left` dimensions left calls `choose`, that calls `with_cut`, and that calls `search` or `choose` with one
-- dimension fewer. With one dimension left `choose` calls itself with none. The steps are the laws of proofs/Steps.
use mathlib.Core.Path.{◌≡◌, refl, ◌∙◌, ap, ap₂, subst, subst⁻¹}
use mathlib.Core.Bool.{Bool}
use Prim.Native.Nat.{ℕ, ◌+◌, ◌-◌, ◌*◌, ◌/◌, ◌^◌, ◌≤◌, ◌<◌}
use native.Mathlib.Nat.{le_of_lt, pos_of_ne-zero, mul-le-mul, mul-le-mul_left, mul-pos, div-le_self}
use native.Mathlib.Omega.{arith}
use lib.ListN.{get_or}
use Rattle.numbers.proofs.Gcd.{gcd_pos}
use Rattle.multipartition.proofs.Order.{cut_cost-le}
use Rattle.cuts.specs.Questions.{unit_of, cofactor_of, Open, last_of}
use Rattle.cuts.specs.Memory.{answer_at, recalled, Stored}
use Rattle.cuts.specs.Search.{Divides, Serves, Stops}
use Rattle.cuts.proofs.Questions as questions
use Rattle.cuts.proofs.Answers as answers
use Rattle.cuts.proofs.Memory as memory
use Rattle.cuts.proofs.Steps as steps
use Rattle.cuts.proofs.Chosen as chosen
use Rattle.cuts.proofs.tables.Tables.+choose_search_with_cut.Goals as goal

-- ---- choose

pub choose-none_left-requires : goal.choose-none_left-requires
choose-none_left-requires t c =
    let args = c.args in
    let ask = chosen.searchable c.args.self.now c.args.known.now c.args.left c.args.spare c.args.each c.requires in
    questions.product_small args.self.now.divisors.now args.spare args.each ask.divided ask.posed

pub choose-returns-then-left-eq0 : goal.choose-returns-then-left-eq0
choose-returns-then-left-eq0 t c =
    let args = c.args in
    let ask = chosen.searchable c.args.self.now c.args.known.now c.args.left c.args.spare c.args.each c.requires in
    record { answer = steps.none_found ask c.none_left.result c.if-left-eq0.true c.none_left.ensures; memory = ask.memory }

pub choose-first_of-n-requires : goal.choose-first_of-n-requires
choose-first_of-n-requires t c = (pos_of_ne-zero c.if-left-eq0.false, c.requires.within)

pub choose-first_of-w-requires : goal.choose-first_of-w-requires
choose-first_of-w-requires t c =
    let ask = chosen.searchable c.args.self.now c.args.known.now c.args.left c.args.spare c.args.each c.requires in
    (pos_of_ne-zero c.if-left-eq0.false, omega (arith, ask.within, ask.weights_too))

pub choose-returns-then-not-serves : goal.choose-returns-then-not-serves
choose-returns-then-not-serves t c =
    let args = c.args in
    let ask = chosen.searchable c.args.self.now c.args.known.now c.args.left c.args.spare c.args.each c.requires in
    let n = c.first_of-n in
    record {
      answer = steps.one_none ask (pos_of_ne-zero c.if-left-eq0.false) n.result _ refl c.if-left-eq1.true n.ensures.0
          (subst (λ (v : Bool). Serves args.spare args.each n.result v) c.if-not-serves.true c.serves.ensures);
      memory = ask.memory;
    }

pub choose-overflow_sub-left : goal.choose-overflow_sub-left
choose-overflow_sub-left t c = pos_of_ne-zero c.if-left-eq0.false

pub choose-choose-r-requires : goal.choose-choose-r-requires
choose-choose-r-requires t c =
    let args = c.args in
    let ask = chosen.searchable c.args.self.now c.args.known.now c.args.left c.args.spare c.args.each c.requires in
    let some_left = pos_of_ne-zero c.if-left-eq0.false in
    let served = subst (λ (v : Bool). Serves args.spare args.each c.first_of-n.result v) c.if-not-serves.false c.serves.ensures in
    let leaves = questions.spare_leaves args.spare args.each (steps.some_spare ask) served.0 in
    (omega (arith, some_left), chosen.asks_of args.self.now args.known.now _ _ _ (steps.searchable_after ask args.known.now args.spare 1 1 leaves.0 leaves.1 ask.memory))

pub choose-in_front-requires : goal.choose-in_front-requires
choose-in_front-requires t c =
    let args = c.args in
    let ask = chosen.searchable c.args.self.now c.args.known.now c.args.left c.args.spare c.args.each c.requires in
    let found = c.choose-r in
    let length_left = questions.length-last_of (args.left - 1) args.self.now.weights.now (omega (arith, ask.within, ask.weights_too)) in (
      steps.some_spare ask,
      questions.spare_small args.self.now.divisors.now args.spare args.each ask.divided ask.posed,
      answers.answers_bound (Open 1 1 (last_of (args.left - 1) args.self.now.most.now)) (last_of (args.left - 1) args.self.now.weights.now) found.result (omega (arith, ask.within, ask.five)) found.ensures.answer,
    )

pub choose-shape_of-known-then-left-eq1 : goal.choose-shape_of-known-then-left-eq1
choose-shape_of-known-then-left-eq1 t c = c.choose-r.auto.known

pub choose-returns-then-left-eq1 : goal.choose-returns-then-left-eq1
choose-returns-then-left-eq1 t c =
    let args = c.args in
    let ask = chosen.searchable c.args.self.now c.args.known.now c.args.left c.args.spare c.args.each c.requires in
    let n = c.first_of-n in
    let w = c.first_of-w in
    let found = c.choose-r in
    record {
      answer = rw c.in_front.ensures (steps.one_found ask (pos_of_ne-zero c.if-left-eq0.false) n.result w.result found.result c.if-left-eq1.true n.ensures.0
          (subst (λ (v : Bool). Serves args.spare args.each n.result v) c.if-not-serves.false c.serves.ensures) w.ensures.0 w.ensures.1
          found.ensures.answer);
      memory = found.ensures.memory;
    }

pub choose-cofactor_of-cofactor-requires : goal.choose-cofactor_of-cofactor-requires
choose-cofactor_of-cofactor-requires t c = c.requires.posed

pub choose-rest_cost-rest-requires : goal.choose-rest_cost-rest-requires
choose-rest_cost-rest-requires t c =
    let args = c.args in
    let ask = chosen.searchable c.args.self.now c.args.known.now c.args.left c.args.spare c.args.each c.requires in (
      omega (arith, pos_of_ne-zero c.if-left-eq0.false, ask.within, ask.weights_too),
      subst⁻¹ (λ (u : ℕ). 0 < u) c.unit_of-unit.ensures (steps.unit_some ask),
      subst⁻¹ (λ (u : ℕ). u ≤ 4096) c.unit_of-unit.ensures (steps.unit_small ask),
    )

pub choose-loop-t-init : goal.choose-loop-t-init
choose-loop-t-init t c =
    let args = c.args in
    let ask = chosen.searchable c.args.self.now c.args.known.now c.args.left c.args.spare c.args.each c.requires in
    record { answer = steps.tried_start ask (pos_of_ne-zero c.if-left-eq0.false) _ refl; memory = ask.memory }

pub choose-overflow_mul-b : goal.choose-overflow_mul-b
choose-overflow_mul-b t c =
    let args = c.args in
    let ask = chosen.searchable c.args.self.now c.args.known.now c.args.left c.args.spare c.args.each c.requires in
    let j = c.loop-t.t-index in
    let unit = c.unit_of-unit in
    let high : unit.result * get_or args.self.now.divisors.now j 0 ≤ 4096 * 4096 =
    mul-le-mul (subst⁻¹ (λ (u : ℕ). u ≤ 4096) unit.ensures (steps.unit_small ask)) (ask.divided.small j c.loop-t-test.true) in
    omega arith

pub choose-cut_cost-requires : goal.choose-cut_cost-requires
choose-cut_cost-requires t c =
    let args = c.args in
    let ask = chosen.searchable c.args.self.now c.args.known.now c.args.left c.args.spare c.args.each c.requires in
    let unit = c.unit_of-unit in
    mul-pos (subst⁻¹ (λ (u : ℕ). 0 < u) unit.ensures (steps.unit_some ask)) (ask.divided.positive c.loop-t.t-index c.loop-t-test.true)

pub choose-overflow_add-c : goal.choose-overflow_add-c
choose-overflow_add-c t c =
    let args = c.args in
    let ask = chosen.searchable c.args.self.now c.args.known.now c.args.left c.args.spare c.args.each c.requires in
    let j = c.loop-t.t-index in
    let w = c.first_of-w in
    let unit = c.unit_of-unit in
    let high : unit.result * get_or args.self.now.divisors.now j 0 ≤ 4096 * 4096 =
    mul-le-mul (subst⁻¹ (λ (u : ℕ). u ≤ 4096) unit.ensures (steps.unit_small ask)) (ask.divided.small j c.loop-t-test.true) in
    let cost = cut_cost-le (unit.result * get_or args.self.now.divisors.now j 0) w.result (4096 * 4096) (2 ^ 32) high (le_of_lt w.ensures.1) in
    omega (arith, cost, c.cut_cost.ensures, c.rest_cost-rest.ensures.1)

pub choose-overflow_mul-unit : goal.choose-overflow_mul-unit
choose-overflow_mul-unit t c =
    let args = c.args in
    let ask = chosen.searchable c.args.self.now c.args.known.now c.args.left c.args.spare c.args.each c.requires in
    omega (arith, ap₂ (λ (u m : ℕ). u * m) c.unit_of-unit.ensures c.cofactor_of-cofactor.ensures, steps.all_small ask)

pub choose-shape_of-known-then-stops : goal.choose-shape_of-known-then-stops
choose-shape_of-known-then-stops t c = c.loop-t.auto.known

pub choose-returns-then-stops : goal.choose-returns-then-stops
choose-returns-then-stops t c =
    let args = c.args in
    let ask = chosen.searchable c.args.self.now c.args.known.now c.args.left c.args.spare c.args.each c.requires in
    let loop = c.loop-t in
    let n = c.first_of-n in
    let w = c.first_of-w in
    let unit = c.unit_of-unit in
    let cofactor = c.cofactor_of-cofactor in
    let rest = c.rest_cost-rest in
    let cost = c.cut_cost in
    record {
      answer = steps.tried-stop ask (pos_of_ne-zero c.if-left-eq0.false) loop.t-index loop.best unit.result cofactor.result n.result w.result cost.result rest.result
          c.loop-t-test.true unit.ensures cofactor.ensures n.ensures.0 w.ensures.0 w.ensures.1 cost.ensures rest.ensures.0 rest.ensures.1
          (subst (λ (v : Bool). Stops (unit.result * get_or args.self.now.divisors.now loop.t-index 0) n.result unit.result (unit.result * cofactor.result) args.each (cost.result + rest.result) loop.best v) c.if-stops.true c.stops.ensures) loop.invariant.answer;
      memory = loop.invariant.memory;
    }

pub choose-with_cut-r-requires : goal.choose-with_cut-r-requires
choose-with_cut-r-requires t c =
    let args = c.args in
    let ask = chosen.searchable c.args.self.now c.args.known.now c.args.left c.args.spare c.args.each c.requires in
    let loop = c.loop-t in
    let within = c.loop-t-test.true in
    let n = c.first_of-n in
    let unit = c.unit_of-unit in
    let cofactor = c.cofactor_of-cofactor in
    let rest = c.rest_cost-rest in
    let cost = c.cut_cost in
    let goes_on = (subst (λ (v : Bool). Stops (unit.result * get_or args.self.now.divisors.now loop.t-index 0) n.result unit.result (unit.result * cofactor.result) args.each (cost.result + rest.result) loop.best v) c.if-stops.false c.stops.ensures) in
    let cut : unit.result * get_or args.self.now.divisors.now loop.t-index 0 ≡ unit_of args.left args.each * get_or args.self.now.divisors.now loop.t-index 0 =
    ap (λ (u : ℕ). u * get_or args.self.now.divisors.now loop.t-index 0) unit.ensures in (
      omega arith,
      (
        record { within = ask.within; posed = ask.posed; memory = loop.invariant.memory },
        record {
          more = omega (arith, pos_of_ne-zero c.if-left-eq0.false, c.if-left-eq1.false);
          cofactor_is = cofactor.ensures;
          low = ask.divided.positive loop.t-index within;
          among = (loop.t-index, within, refl);
          small = omega (arith, cut, goes_on.1, ap₂ (λ (u m : ℕ). u * m) unit.ensures cofactor.ensures, steps.all_small ask);
          high = omega (arith, cut, goes_on.0, n.ensures.0);
        },
      ),
    )

pub choose-loop-t-preserved : goal.choose-loop-t-preserved
choose-loop-t-preserved t c =
    let args = c.args in
    let ask = chosen.searchable c.args.self.now c.args.known.now c.args.left c.args.spare c.args.each c.requires in
    let loop = c.loop-t in
    let within = c.loop-t-test.true in
    let next = c.with_cut-r in
    record {
      answer = steps.tried-step ask (pos_of_ne-zero c.if-left-eq0.false) loop.t-index loop.best next.result c.better-best.result within loop.invariant.answer next.ensures.answer
          c.better-best.ensures;
      memory = next.ensures.memory;
    }

pub choose-shape_of-known : goal.choose-shape_of-known
choose-shape_of-known t c = c.loop-t.auto.known

pub choose-returns : goal.choose-returns
choose-returns t c =
    let args = c.args in
    let ask = chosen.searchable c.args.self.now c.args.known.now c.args.left c.args.spare c.args.each c.requires in
    let loop = c.loop-t in
    record { answer = steps.tried_end ask (pos_of_ne-zero c.if-left-eq0.false) loop.t-index loop.best (omega arith) loop.invariant.answer; memory = loop.invariant.memory }

-- ---- search

pub search-slot-at-requires : goal.search-slot-at-requires
search-slot-at-requires t c =
    let ask = chosen.searchable c.args.self.now c.args.known.now c.args.left c.args.spare c.args.each c.requires.0 in
    (c.requires.1, omega (arith, ask.within, ask.five))

pub search-returns-in-Some : goal.search-returns-in-Some
search-returns-in-Some t c =
    let args = c.args in
    let ask = chosen.searchable c.args.self.now c.args.known.now c.args.left c.args.spare c.args.each c.requires.0 in
    record {
      answer = memory.recalled_lem args.self.now.most.now args.self.now.weights.now args.self.now.divisors.now args.self.now.places.now args.known.now (record { left = args.left; spare = args.spare; each = args.each }) (ask.posed, c.requires.1) ask.memory
          c.in-Some.before (c.in-Some.ensures ∙ ap (λ (i : ℕ). recalled (answer_at args.known.now i)) c.slot-at.ensures);
      memory = ask.memory;
    }

pub search-choose-r-requires : goal.search-choose-r-requires
search-choose-r-requires t c =
    (omega arith, c.requires.0)

pub search-shape_of-known : goal.search-shape_of-known
search-shape_of-known t c = c.keep.auto.known ∙ c.choose-r.auto.known

pub search-returns : goal.search-returns
search-returns t c =
    let args = c.args in
    let ask = chosen.searchable c.args.self.now c.args.known.now c.args.left c.args.spare c.args.each c.requires.0 in
    let found = c.choose-r in
    let kept = c.keep in
    let known = found.new.known in
    record {
      answer = found.ensures.answer;
      memory = memory.remembers_stored args.self.now.most.now args.self.now.weights.now args.self.now.divisors.now args.self.now.places.now known (record { left = args.left; spare = args.spare; each = args.each })
          (ask.posed, c.requires.1) found.ensures.memory kept.new.known found.result found.ensures.answer
          (subst (λ (i : ℕ). Stored known i found.result kept.new.known) c.slot-at.ensures kept.ensures);
    }

-- ---- with_cut

pub with_cut-divides-requires : goal.with_cut-divides-requires
with_cut-divides-requires t c =
    c.requires.1.among

pub with_cut-returns-then-not-divides : goal.with_cut-returns-then-not-divides
with_cut-returns-then-not-divides t c =
    let args = c.args in
    let ask = chosen.searchable c.args.self.now c.args.known.now c.args.left c.args.spare c.args.each c.requires.0 in
    let cut = c.requires.1 in
    let some_left : 0 < args.left = omega (arith, cut.more) in
    record {
      answer = steps.begun_none ask some_left args.cofactor args.t _ refl cut (subst (λ (v : Bool). Divides args.t args.cofactor v) c.if-not-divides.true c.divides.ensures);
      memory = ask.memory;
    }

pub with_cut-first_of-w-requires : goal.with_cut-first_of-w-requires
with_cut-first_of-w-requires t c =
    let args = c.args in
    let ask = chosen.searchable c.args.self.now c.args.known.now c.args.left c.args.spare c.args.each c.requires.0 in
    let cut = c.requires.1 in
    let some_left : 0 < args.left = omega (arith, cut.more) in
    (some_left, omega (arith, ask.within, ask.weights_too))

pub with_cut-overflow_sub-left : goal.with_cut-overflow_sub-left
with_cut-overflow_sub-left t c = omega (arith, c.requires.1.more)

pub with_cut-nonzero_div-cofactor : goal.with_cut-nonzero_div-cofactor
with_cut-nonzero_div-cofactor t c = c.requires.1.low

pub with_cut-overflow_mul-each : goal.with_cut-overflow_mul-each
with_cut-overflow_mul-each t c =
    let args = c.args in
    let ask = chosen.searchable c.args.self.now c.args.known.now c.args.left c.args.spare c.args.each c.requires.0 in
    let cut = c.requires.1 in
    let less : args.each * (args.cofactor / args.t) ≤ args.each * args.cofactor = mul-le-mul_left args.each (div-le_self args.cofactor args.t) in
    let all : args.each * args.cofactor ≡ unit_of args.left args.each * cofactor_of args.left args.spare args.each =
    steps.two-times ask args.cofactor c.if-left-eq2.true ∙ ap (λ (m : ℕ). unit_of args.left args.each * m) (cut.cofactor_is) in
    omega (arith, steps.all_small ask)

pub with_cut-choose-r-requires : goal.with_cut-choose-r-requires
with_cut-choose-r-requires t c =
    let args = c.args in
    let ask = chosen.searchable c.args.self.now c.args.known.now c.args.left c.args.spare c.args.each c.requires.0 in
    let cut = c.requires.1 in
    let some_left : 0 < args.left = omega (arith, cut.more) in
    let leaves = steps.two_leaves ask args.cofactor args.t c.if-left-eq2.true (cut.cofactor_is) (subst (λ (v : Bool). Divides args.t args.cofactor v) c.if-not-divides.false c.divides.ensures) in (
      omega (arith, some_left),
      chosen.asks_of args.self.now args.known.now _ _ _ (steps.searchable_after ask args.known.now (args.each * args.t) (args.each * (args.cofactor / args.t)) 1 leaves.0 leaves.1 ask.memory),
    )

pub with_cut-overflow_mul-each-then-left-eq2 : goal.with_cut-overflow_mul-each-then-left-eq2
with_cut-overflow_mul-each-then-left-eq2 t c =
    let args = c.args in
    let ask = chosen.searchable c.args.self.now c.args.known.now c.args.left c.args.spare c.args.each c.requires.0 in
    let cut = c.requires.1 in
    omega (arith, steps.two-times ask args.t c.if-left-eq2.true, cut.small)

pub with_cut-in_front-requires : goal.with_cut-in_front-requires
with_cut-in_front-requires t c =
    let args = c.args in
    let ask = chosen.searchable c.args.self.now c.args.known.now c.args.left c.args.spare c.args.each c.requires.0 in
    let cut = c.requires.1 in
    let found = c.choose-r in
    let length_left = questions.length-last_of (args.left - 1) args.self.now.weights.now (omega (arith, ask.within, ask.weights_too)) in (
      mul-pos (steps.some_each ask) (cut.low),
      omega (arith, steps.two-times ask args.t c.if-left-eq2.true, cut.small),
      answers.answers_bound (Open (args.each * (args.cofactor / args.t)) 1 (last_of (args.left - 1) args.self.now.most.now)) (last_of (args.left - 1) args.self.now.weights.now) found.result
          (omega (arith, ask.within, ask.five)) found.ensures.answer,
    )

pub with_cut-shape_of-known-then-left-eq2 : goal.with_cut-shape_of-known-then-left-eq2
with_cut-shape_of-known-then-left-eq2 t c = c.choose-r.auto.known

pub with_cut-returns-then-left-eq2 : goal.with_cut-returns-then-left-eq2
with_cut-returns-then-left-eq2 t c =
    let args = c.args in
    let ask = chosen.searchable c.args.self.now c.args.known.now c.args.left c.args.spare c.args.each c.requires.0 in
    let cut = c.requires.1 in
    let some_left : 0 < args.left = omega (arith, cut.more) in
    let w = c.first_of-w in
    let found = c.choose-r in
    let divides = subst (λ (v : Bool). Divides args.t args.cofactor v) c.if-not-divides.false c.divides.ensures in
    let leaves = steps.two_leaves ask args.cofactor args.t c.if-left-eq2.true (cut.cofactor_is) divides in
    record {
      answer = rw c.in_front.ensures (steps.begun-times ask some_left args.cofactor args.t (args.each * args.t) w.result (args.each * (args.cofactor / args.t)) 1 found.result cut
          (steps.two-times ask args.t c.if-left-eq2.true) divides leaves.0 leaves.1 w.ensures.0 w.ensures.1 found.ensures.answer);
      memory = found.ensures.memory;
    }

pub with_cut-shared-g-requires : goal.with_cut-shared-g-requires
with_cut-shared-g-requires t c =
    let args = c.args in
    let ask = chosen.searchable c.args.self.now c.args.known.now c.args.left c.args.spare c.args.each c.requires.0 in
    (questions.each-one args.self.now.divisors.now args.spare args.each ask.divided ask.posed, c.requires.1.among)

pub with_cut-overflow_sub-left-2 : goal.with_cut-overflow_sub-left-2
with_cut-overflow_sub-left-2 t c = omega (arith, c.requires.1.more)

pub with_cut-spare_left-requires : goal.with_cut-spare_left-requires
with_cut-spare_left-requires t c =
    let args = c.args in
    let ask = chosen.searchable c.args.self.now c.args.known.now c.args.left c.args.spare c.args.each c.requires.0 in
    let g = c.shared-g in (
      questions.spare-one args.self.now.divisors.now args.spare args.each ask.divided ask.posed,
      c.requires.1.among,
      steps.some_spare ask,
      questions.taken_small args.self.now.divisors.now args.spare args.each ask.divided ask.posed args.t g.result g.ensures,
    )

pub with_cut-nonzero_div-each : goal.with_cut-nonzero_div-each
with_cut-nonzero_div-each t c =
    let args = c.args in
    let ask = chosen.searchable c.args.self.now c.args.known.now c.args.left c.args.spare c.args.each c.requires.0 in
    subst⁻¹ (λ (n : ℕ). 0 < n) c.shared-g.ensures (gcd_pos args.each args.t (steps.some_each ask))

pub with_cut-search-r-requires : goal.with_cut-search-r-requires
with_cut-search-r-requires t c =
    let args = c.args in
    let ask = chosen.searchable c.args.self.now c.args.known.now c.args.left c.args.spare c.args.each c.requires.0 in
    let cut = c.requires.1 in
    let some_left : 0 < args.left = omega (arith, cut.more) in
    let g = c.shared-g in
    let after = c.spare_left in (
      omega (arith, some_left),
      (
        chosen.asks_of args.self.now args.known.now _ _ _ (steps.searchable_after ask args.known.now args.t after.result (args.each / g.result)
            (questions.spare_after_is args.spare args.each args.t g.result after.result g.ensures after.ensures)
            (questions.each_after_is args.each args.t g.result g.ensures) ask.memory),
        omega (arith, cut.more, c.if-left-eq2.false),
      ),
    )

pub with_cut-in_front-requires-2 : goal.with_cut-in_front-requires-2
with_cut-in_front-requires-2 t c =
    let args = c.args in
    let ask = chosen.searchable c.args.self.now c.args.known.now c.args.left c.args.spare c.args.each c.requires.0 in
    let cut = c.requires.1 in
    let found = c.search-r in
    let length_left = questions.length-last_of (args.left - 1) args.self.now.weights.now (omega (arith, ask.within, ask.weights_too)) in (
      cut.low,
      omega (arith, steps.more-times ask args.t c.if-left-eq2.false, cut.small),
      answers.answers_bound (Open c.spare_left.result (args.each / c.shared-g.result) (last_of (args.left - 1) args.self.now.most.now)) (last_of (args.left - 1) args.self.now.weights.now) found.result
          (omega (arith, ask.within, ask.five)) found.ensures.answer,
    )

pub with_cut-shape_of-known : goal.with_cut-shape_of-known
with_cut-shape_of-known t c = c.search-r.auto.known

pub with_cut-returns : goal.with_cut-returns
with_cut-returns t c =
    let args = c.args in
    let ask = chosen.searchable c.args.self.now c.args.known.now c.args.left c.args.spare c.args.each c.requires.0 in
    let cut = c.requires.1 in
    let some_left : 0 < args.left = omega (arith, cut.more) in
    let w = c.first_of-w in
    let g = c.shared-g in
    let after = c.spare_left in
    let found = c.search-r in
    record {
      answer = rw c.in_front-2.ensures (steps.begun-times ask some_left args.cofactor args.t args.t w.result after.result (args.each / g.result) found.result cut
          (steps.more-times ask args.t c.if-left-eq2.false) (subst (λ (v : Bool). Divides args.t args.cofactor v) c.if-not-divides.false c.divides.ensures)
          (questions.spare_after_is args.spare args.each args.t g.result after.result g.ensures after.ensures)
          (questions.each_after_is args.each args.t g.result g.ensures) w.ensures.0 w.ensures.1 found.ensures.answer);
      memory = found.ensures.memory;
    }
