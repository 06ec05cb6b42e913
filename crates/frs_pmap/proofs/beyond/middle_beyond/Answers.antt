use Rattle.std.proofs.Common.{◌∙◌, List, sym, Bor}
use Rattle.frs_pmap.proofs.Parts.{between, lows_rising}
use Rattle.frs_pmap.proofs.Firsts.{found_here, found_later}
use Rattle.frs_pmap.proofs.beyond.middle_beyond.Goals as goal

pub part_of-at-requires-clause-rising : goal.part_of-at-requires-clause-rising
part_of-at-requires-clause-rising g c = lows_rising g.met.K.Ord.total (λ (x : List (g.row.K.Denot × g.row.V.Denot)). x) c.args.middle.now c.requires.branch.rising c.requires.branch.headed

pub leaf_beyond-found-requires : goal.leaf_beyond-found-requires
leaf_beyond-found-requires g c =
    let part : g.row.K.Denot × List (g.row.K.Denot × g.row.V.Denot) = (c.item.result.0, c.item.result.1.now) in
    let b = between g.met.K.Ord.total (λ (x : List (g.row.K.Denot × g.row.V.Denot)). x) c.args.key.now c.args.middle.now c.part_of-at.result part c.requires.branch.rising c.requires.branch.headed c.part_of-at.ensures.part c.item.ensures in
    b.rising

pub returns-then-is_some : goal.returns-then-is_some
returns-then-is_some g c =
    let part : g.row.K.Denot × List (g.row.K.Denot × g.row.V.Denot) = (c.item.result.0, c.item.result.1.now) in
    let b = between g.met.K.Ord.total (λ (x : List (g.row.K.Denot × g.row.V.Denot)). x) c.args.key.now c.args.middle.now c.part_of-at.result part c.requires.branch.rising c.requires.branch.headed c.part_of-at.ensures.part c.item.ensures in
    found_here g.met.K.Ord.total (λ (x : List (g.row.K.Denot × g.row.V.Denot)). x) (λ (e : g.row.K.Denot × Bor g.row.V.Denot). (e.0, e.1.now)) c.leaf_beyond-found.result c.args.past c.args.key.now c.args.middle.now c.part_of-at.result part b c.leaf_beyond-found.ensures (sym c.is_some.ensures ∙ c.if-is_some.true)

pub returns : goal.returns
returns g c =
    let part : g.row.K.Denot × List (g.row.K.Denot × g.row.V.Denot) = (c.item.result.0, c.item.result.1.now) in
    let b = between g.met.K.Ord.total (λ (x : List (g.row.K.Denot × g.row.V.Denot)). x) c.args.key.now c.args.middle.now c.part_of-at.result part c.requires.branch.rising c.requires.branch.headed c.part_of-at.ensures.part c.item.ensures in
    c.middle_first.ensures ∙ sym (found_later g.met.K.Ord.total (λ (x : List (g.row.K.Denot × g.row.V.Denot)). x) (λ (e : g.row.K.Denot × Bor g.row.V.Denot). (e.0, e.1.now)) c.leaf_beyond-found.result c.args.past c.args.key.now c.args.middle.now c.part_of-at.result part b c.leaf_beyond-found.ensures (sym c.is_some.ensures ∙ c.if-is_some.false))
