-- `plan_text::hand_over` meets its contract, by the room in the list.
use mathlib.Core.Path.{ap}
use mathlib.Core.List.{List, ◌++◌}
use Prim.Native.Nat.{ℕ}
use lib.ListN.{length, drop}
use Rattle.refusals.specs.declared.Refusal.TheVariants as R
use Rattle.plan_text.proofs.Handing.{text_too_long, hands_refused, hands_text}
use Rattle.plan_text.proofs.hand_over.Goals as goal

pub returns-then-out-n : goal.returns-then-out-n
returns-then-out-n c = hands_refused R.Room (text_too_long _ _ c.if-out-n.true)

pub returns : goal.returns
returns c =
    hands_text c.args.text.now c.if-out-n.false
    (ap (λ (front : List ℕ). front ++ drop (length c.args.text.now) c.args.out.now) c.copy_from_slice.ensures.after)
