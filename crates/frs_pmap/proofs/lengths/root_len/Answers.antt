use Rattle.std.proofs.Common.{◌-◌, ◌^◌, List}
use Rattle.frs_pmap.specs.Trees.{flat}
use Rattle.frs_pmap.proofs.Counts.{count_more}
use Rattle.frs_pmap.proofs.lengths.root_len.Goals as goal

pub loop-at-preserved : goal.loop-at-preserved
loop-at-preserved g c =
    let part : g.row.K.Denot × List (g.row.K.Denot × List (g.row.K.Denot × g.row.V.Denot)) = (c.item.result.0, c.item.result.1.now) in
    count_more (λ (p : g.row.K.Denot × List (g.row.K.Denot × List (g.row.K.Denot × g.row.V.Denot))). flat p.1) c.args.root.now c.loop-at.at part (2 ^ 64 - 1) c.loop-at.len c.middle_len.result c.saturating_add-len.result c.item.ensures c.loop-at.invariant c.middle_len.ensures c.saturating_add-len.ensures
