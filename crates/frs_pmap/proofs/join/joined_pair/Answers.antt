use Rattle.std.proofs.Common.{List}
use Rattle.frs_pmap.proofs.Joins.{pair_made}
use Rattle.frs_pmap.proofs.join.joined_pair.Goals as goal

pub returns : goal.returns
returns g c =
    let front : g.row.K.Denot × List (g.row.K.Denot × g.row.P.Denot) = (c.item-first.result.0, c.item-first.result.1.now) in
    let back : g.row.K.Denot × List (g.row.K.Denot × g.row.P.Denot) = (c.item.result.0, c.item.result.1.now) in
    pair_made c.args.parts.now c.args.at c.len-len.result c.len.result c.len-2.result front back _ _ _ _ _ _ _ c.len-len.ensures c.len.ensures c.len-2.ensures c.item-first.ensures c.item.ensures
    c.in_ok-both.ensures c.in_ok-extend.ensures c.in_ok-extend-2.ensures c.in_ok-out.ensures c.in_ok-extend-3.ensures c.in_ok-push.ensures c.in_ok-extend-4.ensures
