-- `visit_above` meets its contract: the grid is one block.
use mathlib.Core.Path.{◌≡◌, sym, ap, ◌∙◌}
use mathlib.Core.List.{List}
use Prim.Native.Nat.{ℕ, ◌-◌, ◌≤◌, max}
use native.Mathlib.Omega.{arith}
use lib.ListN.{length}
use Rattle.multipartition.specs.Chains.{Stage}
use Rattle.multipartition.specs.Plans.{tiles_of}
use Rattle.multipartition.specs.Questions.{tile_owner}
use Rattle.multipartition.proofs.Stages.{heads-length, nexts-length}
use Rattle.layout.specs.Plans.{layout_of}
use Rattle.chains.specs.Walks.{block_size, Led, Walks}
use Rattle.chains.proofs.visit_above.Goals as goal

-- a walk over the whole grid, of n tiles
walked : (counts downs heads nexts heads' nexts' : List ℕ) (own : ℕ → ℕ) (n p q stop top : ℕ) → length nexts ≡ n → length heads ≡ p → top ≡ n
    → block_size counts 5 ≡ n → Led n counts downs own → q ≡ own n → stop ≤ n → Stage own n p n nexts heads nexts
    → Walks counts downs 5 q stop top heads nexts heads' nexts' → Stage own n p stop nexts heads' nexts'
walked counts downs heads nexts heads' nexts' own n p q stop top long many top_is whole led owner within stage w =
    let first : max stop top ≡ n = omega arith in
    let last : max stop (top - block_size counts 5) ≡ stop = omega arith in
    rw (long, many, last) at (w.stages own nexts (rw long led, ap own top_is ∙ sym owner) (rw (long, many, first) stage))

pub overflow_cast-top : goal.overflow_cast-top
unfolding layout_of
overflow_cast-top c = omega (arith, c.tile_count-top.ensures, c.args.shaped.now.shaped.tiles_high)

pub block-requires : goal.block-requires
block-requires c =
    let counted = c.tables-counts.ensures in (
      omega arith,
      omega arith,
      heads-length c.requires.visited,
      c.top_owner.ensures.1,
      record {
        block = 0;
        is = c.tile_count-top.ensures ∙ sym counted.whole ∙ omega arith;
        within = omega (arith, c.tile_count-top.ensures, nexts-length c.requires.visited);
      },
    )

pub returns : goal.returns
returns c =
    let counted = c.tables-counts.ensures in
    let plan = c.args.shaped.now.plan in
    walked _ _ c.args.heads.now c.args.nexts.now _ _ (tile_owner (layout_of plan)) (tiles_of (layout_of plan)) plan.p _ c.args.stop _ (nexts-length c.requires.visited) (heads-length c.requires.visited) c.tile_count-top.ensures counted.whole counted.led c.top_owner.ensures.0 c.requires.within c.requires.visited c.block.ensures.1
