use mathlib.Core.Path.{refl, ◌∙◌, subst⁻¹}
use Prim.Native.Nat.{ℕ, ◌-◌, ◌/◌, ◌<◌}
use native.Mathlib.Omega.{arith}
use lib.ListN.{length}
use Rattle.numbers.proofs.Gcd.{gcd_pos}
use Rattle.cuts.proofs.Questions as questions
use Rattle.cuts.proofs.Steps as steps
use Rattle.cuts.proofs.Chosen as chosen
use Rattle.cuts.proofs.tables.Tables.chosen_cuts.Goals as goal

pub search-r-requires : goal.search-r-requires
search-r-requires c = let t = c.args.self.now in (chosen.asks_first t c.args.known.now _ _ (omega arith) c.requires, t.asked.d_low)

pub shape_of-known-then-r : goal.shape_of-known-then-r
shape_of-known-then-r c = c.search-r.auto.known

pub returns-then-r : goal.returns-then-r
returns-then-r c =
    let args = c.args in
    let found = c.search-r in
    chosen.chosen_none args.self.now.p args.self.now.most.now args.self.now.weights.now (length args.self.now.most.now) found.result c.args.self.now.asked refl
    c.if-r.true found.ensures.answer

pub loop-left-init : goal.loop-left-init
loop-left-init c =
    let args = c.args in
    let found = c.search-r in
    let known = found.new.known in
    let ask = chosen.searchable args.self.now known _ _ _ (chosen.asks_first args.self.now known 1 args.self.now.p (omega arith) found.ensures.memory) in
    chosen.walk_start args.self.now.p args.self.now.most.now args.self.now.weights.now args.self.now.divisors.now args.self.now.places.now known (length args.self.now.most.now) found.result c.args.self.now.asked refl c.if-r.false ask found.ensures.answer

pub overflow_sub-cuts : goal.overflow_sub-cuts
overflow_sub-cuts c = let ask = c.loop-left.invariant.ask in omega (arith, ask.within)

pub bounds-cuts-d : goal.bounds-cuts-d
bounds-cuts-d c =
    let ask = c.loop-left.invariant.ask in
    omega (arith, c.loop-left-test.true, ask.within, ask.five)

pub spare_after-spare-requires : goal.spare_after-spare-requires
spare_after-spare-requires c =
    let args = c.args in
    let loop = c.loop-left in
    let ask = loop.invariant.ask in
    (steps.some_spare ask, questions.taken_small args.self.now.divisors.now loop.spare loop.each ask.divided ask.posed c.cut_of-b.result c.gcd-g.result c.gcd-g.ensures)

pub nonzero_div-each : goal.nonzero_div-each
nonzero_div-each c =
    let args = c.args in
    let loop = c.loop-left in
    let ask = loop.invariant.ask in
    subst⁻¹ (λ (n : ℕ). 0 < n) c.gcd-g.ensures (gcd_pos loop.each c.cut_of-b.result (steps.some_each ask))

pub search-r-requires-in-loop-left : goal.search-r-requires-in-loop-left
search-r-requires-in-loop-left c =
    let args = c.args in
    let loop = c.loop-left in
    let ask = loop.invariant.ask in
    let b = c.cut_of-b.result in
    let g = c.gcd-g in
    let after = c.spare_after-spare in (
      chosen.asks_of args.self.now loop.known _ _ _ (steps.searchable_after ask loop.known b after.result (loop.each / g.result) (questions.spare_after_is loop.spare loop.each b g.result after.result g.ensures after.ensures) (questions.each_after_is loop.each b g.result g.ensures) ask.memory),
      omega (arith, c.loop-left-test.true),
    )

pub loop-left-preserved : goal.loop-left-preserved
loop-left-preserved c =
    let args = c.args in
    let loop = c.loop-left in
    let ask = loop.invariant.ask in
    let cut = c.cut_of-b in
    let b = cut.result in
    let g = c.gcd-g in
    let after = c.spare_after-spare in
    let found = c.search-r-in-loop-left in
    let known = found.new.known in
    let next = steps.searchable_after ask known b after.result (loop.each / g.result) (questions.spare_after_is loop.spare loop.each b g.result after.result g.ensures after.ensures) (questions.each_after_is loop.each b g.result g.ensures) found.ensures.memory in
    chosen.walk-next loop.invariant known
    (length args.self.now.most.now - (loop.left - 1) - 1) b after.result (loop.each / g.result) found.result c.loop-left-test.true (omega (arith, c.loop-left-test.true, ask.within)) cut.ensures (questions.spare_after_is loop.spare loop.each b g.result after.result g.ensures after.ensures) (questions.each_after_is loop.each b g.result g.ensures) next found.ensures.answer

pub overflow_sub-cuts-2 : goal.overflow_sub-cuts-2
overflow_sub-cuts-2 c = c.args.self.now.asked.d_low

pub bounds-cuts-d-2 : goal.bounds-cuts-d-2
bounds-cuts-d-2 c =
    let ask = c.loop-left.invariant.ask in
    omega (arith, ask.within, ask.five)

pub spare_after-requires : goal.spare_after-requires
spare_after-requires c =
    let args = c.args in
    let loop = c.loop-left in
    let ask = loop.invariant.ask in
    (steps.some_spare ask, questions.taken_small args.self.now.divisors.now loop.spare loop.each ask.divided ask.posed c.cut_of-b-2.result c.gcd.result c.gcd.ensures)

pub overflow_sub-cuts-3 : goal.overflow_sub-cuts-3
overflow_sub-cuts-3 c = omega (arith, c.args.self.now.asked.d_low)

pub bounds-cuts-d-3 : goal.bounds-cuts-d-3
bounds-cuts-d-3 c =
    let ask = c.loop-left.invariant.ask in
    omega (arith, ask.within, ask.five, c.loop-left.invariant.more)

pub shape_of-known : goal.shape_of-known
shape_of-known c = c.loop-left.auto.known ∙ c.search-r.auto.known

pub returns : goal.returns
returns c =
    let args = c.args in
    let loop = c.loop-left in
    let cut = c.cut_of-b-2 in
    let b = cut.result in
    let g = c.gcd in
    let after = c.spare_after in
    chosen.walk_end loop.invariant b after.result c.loop-left-test.false
    cut.ensures (questions.spare_after_is loop.spare loop.each b g.result after.result g.ensures after.ensures)
