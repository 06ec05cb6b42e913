use Rattle.std.proofs.Common.{◌≡◌, ◌-◌, ◌^◌, List, length, arith}
use Rattle.std.specs.Prelude.{min}
use Rattle.frs_pmap.proofs.Counts.{count_more}
use Rattle.frs_pmap.proofs.lengths.middle_len.Goals as goal

pub loop-at-preserved : goal.loop-at-preserved
loop-at-preserved g c =
    let part : g.row.K.Denot × List (g.row.K.Denot × g.row.V.Denot) = (c.item.result.0, c.item.result.1.now) in
    let some : c.len.result ≡ min (length part.1) (2 ^ 64 - 1) = omega (arith, c.len.ensures) in
    count_more (λ (p : g.row.K.Denot × List (g.row.K.Denot × g.row.V.Denot)). p.1) c.args.middle.now c.loop-at.at part (2 ^ 64 - 1) c.loop-at.len c.len.result c.saturating_add-len.result c.item.ensures c.loop-at.invariant some c.saturating_add-len.ensures
