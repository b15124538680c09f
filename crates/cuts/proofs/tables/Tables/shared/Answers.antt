-- `Tables::shared` meets its contract: what is looked up is right, and past the end of the list it is computed.
use mathlib.Core.Path.{◌≡◌, ◌∙◌, subst⁻¹}
use Prim.Native.Nat.{ℕ, ◌<◌}
use lib.ListN.{length, get_or}
use Rattle.numbers.specs.Gcd.{gcd}
use Rattle.cuts.proofs.Pairs.{found_at}
use Rattle.cuts.proofs.tables.Tables.shared.Goals as goal
use Rattle.cuts.proofs.tables.Tables.shared.Goals.{After-from}

looked_up : (c : After-from) → (c.from.result < length c.args.self.now.divisors.now) × (get_or c.args.self.now.divisors.now c.from.result 0 ≡ gcd c.args.x c.args.y)
looked_up c =
    let args = c.args in
    let i = c.place_of in
    let j = c.place_of-2 in
    let pair = c.pair_at in
    let there = c.in-Some.ensures.lookup.3 in
    subst⁻¹ (λ (n : ℕ). (n < length args.self.now.divisors.now) × (get_or args.self.now.divisors.now n 0 ≡ gcd args.x args.y)) (c.from.ensures ∙ there.1 0)
    (found_at args.self.now.divisors.now args.self.now.places.now args.self.now.table args.x args.y i.result j.result pair.result c.requires.0 c.requires.1 i.ensures.0 j.ensures.0 pair.ensures there.0)

pub bounds-self-from : goal.bounds-self-from
bounds-self-from c = (looked_up (goal.at.bounds-self-from c).After-from).0

pub returns-in-Some : goal.returns-in-Some
returns-in-Some c = (looked_up (goal.at.returns-in-Some c).After-from).1
