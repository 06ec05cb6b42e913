use Rattle.std.proofs.Common.{◌∙◌, List, sym}
use Rattle.frs_pmap.proofs.Parts.{between, get_part, lows_rising}
use Rattle.frs_pmap.proofs.middle.middle_get.Goals as goal

pub part_of-requires-clause-rising : goal.part_of-requires-clause-rising
part_of-requires-clause-rising g c = lows_rising g.met.K.Ord.total (λ (x : List (g.row.K.Denot × g.row.V.Denot)). x) c.args.middle.now c.requires.branch.rising c.requires.branch.headed

pub leaf_get-requires : goal.leaf_get-requires
leaf_get-requires g c =
    let part : g.row.K.Denot × List (g.row.K.Denot × g.row.V.Denot) = (c.item.result.0, c.item.result.1.now) in
    let b = between g.met.K.Ord.total (λ (x : List (g.row.K.Denot × g.row.V.Denot)). x) c.args.key.now c.args.middle.now c.part_of.result part c.requires.branch.rising c.requires.branch.headed c.part_of.ensures.part c.item.ensures in
    b.rising

pub returns : goal.returns
returns g c =
    let part : g.row.K.Denot × List (g.row.K.Denot × g.row.V.Denot) = (c.item.result.0, c.item.result.1.now) in
    let b = between g.met.K.Ord.total (λ (x : List (g.row.K.Denot × g.row.V.Denot)). x) c.args.key.now c.args.middle.now c.part_of.result part c.requires.branch.rising c.requires.branch.headed c.part_of.ensures.part c.item.ensures in
    c.leaf_get.ensures ∙ sym (get_part g.met.K.Ord.total (λ (x : List (g.row.K.Denot × g.row.V.Denot)). x) c.args.key.now c.args.middle.now c.part_of.result part b)
