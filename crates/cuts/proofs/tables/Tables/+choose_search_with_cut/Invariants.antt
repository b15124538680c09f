-- The measures fall from `search` to `choose`, from `choose` to `with_cut`, and with each dimension.
use Prim.Native.Nat.{◌+◌, ◌*◌}
use Rattle.cuts.specs.Questions.{unit_of, cofactor_of, last_of}
use Rattle.cuts.specs.Search.{Tried, Searched}
use Rattle.cuts.proofs.tables.Tables.+choose_search_with_cut.Given as goal

abbrev pub decreases-choose : goal.decreases-choose
decreases-choose l = 3 * l.left + 1

abbrev pub decreases-search : goal.decreases-search
decreases-search l = 3 * l.left + 2

abbrev pub decreases-with_cut : goal.decreases-with_cut
decreases-with_cut l = 3 * l.left

abbrev pub invariant-choose-loop-t : goal.invariant-choose-loop-t
invariant-choose-loop-t l =
    let t = l.self in
    Searched (Tried t.divisors.now l.t-index l.spare l.each (unit_of l.left l.each) (unit_of l.left l.each * cofactor_of l.left l.spare l.each) (last_of l.left t.most.now)) t.most.now t.weights.now t.divisors.now t.places.now l.known l.left l.best
