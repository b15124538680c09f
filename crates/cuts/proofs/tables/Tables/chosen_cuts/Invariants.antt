-- `Tables::chosen_cuts` meets its contract: the loop reads the chosen cuts off, one dimension after the other (proofs/Chosen).
use Rattle.cuts.proofs.Chosen as chosen
use Rattle.cuts.proofs.tables.Tables.chosen_cuts.Given as goal

abbrev pub invariant-loop-left : goal.invariant-loop-left
invariant-loop-left l =
    let t = l.self in
    chosen.Walk t.p t.most.now t.weights.now t.divisors.now t.places.now l.known l.cost l.left l.spare l.each l.r l.cuts
