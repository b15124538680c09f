-- `tally_in` meets its contract.
use mathlib.Core.Path.{◌∙◌, subst, subst⁻¹}
use lib.ListN.{replicate}
use Prim.Native.Nat.{◌<◌}
use Rattle.layout.specs.declared.Plan.{Plan}
use Rattle.timetable.specs.declared.slab_faces.Tally.{Tally}
use Rattle.timetable.specs.Rows.{Shares}
use Rattle.timetable.proofs.Tables.{nothing, shares_none}
use Rattle.timetable.proofs.Tallies.{once_d, lines_tally, slab_asked}
use Rattle.timetable.proofs.slab_faces.tally_in.Goals as goal

pub fill_shares-requires : goal.fill_shares-requires
fill_shares-requires c =
    let row = c.widest-row in (
      subst⁻¹ (λ (p : Plan). c.args.q < p.p) row.ensures.0 c.requires.1,
      subst⁻¹ (λ (t : Tally). Shares row.result.shaped.plan row.result.k c.args.q 0 (replicate 4096 t)) (nothing _ c.default-table.ensures) (shares_none row.result.shaped.plan row.result.k c.args.q),
    )

pub invariant_of-flatten : goal.invariant_of-flatten
invariant_of-flatten c =
    let row = c.widest-row in
    record { within = once_d c.args.axis.shaped.plan row.result.shaped.plan c.flatten-once.result.plan c.args.axis.k row.result.k row.ensures.0 c.flatten-once.ensures row.result.within }

pub invariant_of-lines : goal.invariant_of-lines
invariant_of-lines c =
    let axis = c.args.axis in
    let row = c.widest-row in
    let line = c.widest-line in
    record {
      strides = c.stride_along.ensures;
      asked =
          slab_asked axis.shaped.plan axis.shaped.shaped axis.k c.args.v c.args.q axis.within c.requires.0 c.requires.1 row.result.k (subst (λ (p : Plan). row.result.k < p.d) row.ensures.0 row.result.within) row.ensures.1
          c.flatten-once.result.plan line.result.shaped.plan c.flatten-once.ensures (line.ensures.0 ∙ c.flatten-grid.ensures) line.result.k line.result.within line.ensures.1 c.flatten.result.plan c.flatten.ensures
          row.result.shaped.plan row.ensures.0 _ c.fill_shares.ensures c.requires.2;
    }

pub returns : goal.returns
returns c =
    let axis = c.args.axis in
    let row = c.widest-row in
    let line = c.widest-line in
    c.all.ensures
    ∙ lines_tally axis.shaped.plan axis.shaped.shaped axis.k c.args.v c.args.q axis.within c.requires.0 c.requires.1 row.result.k (subst (λ (p : Plan). row.result.k < p.d) row.ensures.0 row.result.within) row.ensures.1
    c.flatten-once.result.plan line.result.shaped.plan c.flatten-once.ensures (line.ensures.0 ∙ c.flatten-grid.ensures) line.result.k line.result.within line.ensures.1 c.flatten.result.plan c.flatten.ensures
    row.result.shaped.plan row.ensures.0 _ c.fill_shares.ensures
