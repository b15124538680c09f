-- `plan_text::print_plan` meets its contract: the definition's test is the shape check, and its own list has room for every plan.
use Rattle.std.specs.Prelude.{◌≡◌, Err}
use mathlib.Core.Path.{sym}
use Prim.Native.Nat.{◌^◌, ◌<◌}
use native.Mathlib.Omega.{arith}
use borrow.Author.Rules.{rules}
use lib.ListN.{length}
use Rattle.plan_text.proofs.Lengths.{length-plan_text}
use Rattle.plan_text.proofs.Handing.{print_turned_back, print_passed, hands_refused, hands_made}
use Rattle.plan_text.proofs.print_plan.Goals as goal

pub returns-in_err-shaped : goal.returns-in_err-shaped
returns-in_err-shaped c =
    let r = c.in_err-shaped.field-0.0 in
    let same : c.from_residual.result ≡ Err r = search rules in
    rw same (hands_refused r (print_turned_back c.args.plan (length c.args.out.now) r c.in_err-shaped.ensures))

pub returns : goal.returns
returns c =
    let plan = c.args.plan in
    let places = length c.args.out.now in
    let shaped = c.in_ok-shaped.shaped in
    let passed = print_passed plan shaped.plan places c.in_ok-shaped.ensures in
    let short : shaped.plan.cost < 10 ^ 20 = rw passed.0 (omega (arith, c.well_formed.0)) in
    rw (passed.1, sym passed.0)
    (hands_made places c.new-text.ensures c.put_plan.ensures (length-plan_text shaped.plan shaped.shaped short) (search rules) c.hand_over.ensures)
