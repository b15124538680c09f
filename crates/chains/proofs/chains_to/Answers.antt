-- `chains_to` meets its contract.
use Rattle.std.proofs.Common.{rules, Err}
use mathlib.Core.Path.{◌≡◌, sym, ◌∙◌}
use Rattle.chains.proofs.Outcomes.{turned_down, other_heads, other_nexts, filled}
use Rattle.chains.proofs.chains_to.Goals as goal
use Rattle.chains.proofs.chains_to.Goals.{then-heads-shaped-via-then-heads-shaped, then-heads-shaped-via-else-heads-shaped+then-nexts-tile_count}

pub returns-in_err-shaped : goal.returns-in_err-shaped
returns-in_err-shaped c =
    let back : c.from_residual.result ≡ Err c.in_err-shaped.field-0.0 = search rules in
    rw back (turned_down c.args.plan c.args.stop c.args.heads.now c.args.nexts.now _ c.in_err-shaped.ensures)

pub returns-then-heads-shaped : goal.returns-then-heads-shaped
returns-then-heads-shaped c =
    elim c.then-heads-shaped.branch [
      | then-heads-shaped-via-then-heads-shaped w ↦
          other_heads c.args.plan c.args.stop c.args.heads.now c.args.nexts.now c.in_ok-shaped.shaped.plan c.in_ok-shaped.ensures w.if-heads-shaped.true
      | then-heads-shaped-via-else-heads-shaped+then-nexts-tile_count w ↦
          other_nexts c.args.plan c.args.stop c.args.heads.now c.args.nexts.now c.in_ok-shaped.shaped.plan c.in_ok-shaped.ensures w.if-heads-shaped.false
          (λ e. w.if-nexts-tile_count.true (e ∙ sym w.tile_count.ensures))
    ]

pub returns : goal.returns
returns c =
    filled c.args.plan c.args.stop c.args.heads.now c.args.nexts.now c.in_ok-shaped.shaped.plan c.in_ok-shaped.ensures c.if-heads-shaped.false
    _ _ (c.if-nexts-tile_count.false ∙ c.tile_count.ensures) c.fill.ensures
