use Rattle.std.proofs.Common.{◌∙◌, List, sym}
use Rattle.frs_pmap.specs.Trees.{AreHeaded, HasHead, flat}
use Rattle.frs_pmap.proofs.Parts.{at_one, between, deep_heads, get_part, head_some, lows_rising}
use Rattle.frs_pmap.proofs.root.root_get.Goals as goal

pub part_of-requires-clause-rising : goal.part_of-requires-clause-rising
part_of-requires-clause-rising g c = lows_rising g.met.K.Ord.total (flat {K = g.row.K.Denot} {X = g.row.K.Denot × g.row.V.Denot}) c.args.root.now c.requires.rising (deep_heads c.args.root.now c.requires.headed c.requires.middles)

pub middle_get-requires-clause-branch : goal.middle_get-requires-clause-branch
middle_get-requires-clause-branch g c =
    let part : g.row.K.Denot × List (g.row.K.Denot × List (g.row.K.Denot × g.row.V.Denot)) = (c.item.result.0, c.item.result.1.now) in
    let b = between g.met.K.Ord.total (flat {K = g.row.K.Denot} {X = g.row.K.Denot × g.row.V.Denot}) c.args.key.now c.args.root.now c.part_of.result part c.requires.rising (deep_heads c.args.root.now c.requires.headed c.requires.middles) c.part_of.ensures.part c.item.ensures in
    record { rising = b.rising; headed = at_one (λ (p : g.row.K.Denot × List (g.row.K.Denot × List (g.row.K.Denot × g.row.V.Denot))). AreHeaded p.1) c.args.root.now c.part_of.result part c.item.ensures c.requires.middles }

pub middle_get-requires-clause-some : goal.middle_get-requires-clause-some
middle_get-requires-clause-some g c =
    let part : g.row.K.Denot × List (g.row.K.Denot × List (g.row.K.Denot × g.row.V.Denot)) = (c.item.result.0, c.item.result.1.now) in
    head_some part.0 part.1 (at_one (λ (p : g.row.K.Denot × List (g.row.K.Denot × List (g.row.K.Denot × g.row.V.Denot))). HasHead p.0 p.1) c.args.root.now c.part_of.result part c.item.ensures c.requires.headed)

pub returns : goal.returns
returns g c =
    let part : g.row.K.Denot × List (g.row.K.Denot × List (g.row.K.Denot × g.row.V.Denot)) = (c.item.result.0, c.item.result.1.now) in
    let b = between g.met.K.Ord.total (flat {K = g.row.K.Denot} {X = g.row.K.Denot × g.row.V.Denot}) c.args.key.now c.args.root.now c.part_of.result part c.requires.rising (deep_heads c.args.root.now c.requires.headed c.requires.middles) c.part_of.ensures.part c.item.ensures in
    c.middle_get.ensures ∙ sym (get_part g.met.K.Ord.total (flat {K = g.row.K.Denot} {X = g.row.K.Denot × g.row.V.Denot}) c.args.key.now c.args.root.now c.part_of.result part b)
