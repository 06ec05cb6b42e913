use Rattle.std.proofs.Common.{◌∙◌, List, sym, Bor}
use Rattle.frs_pmap.specs.Trees.{AreHeaded, HasHead, flat}
use Rattle.frs_pmap.proofs.Parts.{at_one, between, deep_heads, head_some, lows_rising}
use Rattle.frs_pmap.proofs.Firsts.{found_here, found_later}
use Rattle.frs_pmap.proofs.beyond.root_beyond.Goals as goal

pub part_of-at-requires-clause-rising : goal.part_of-at-requires-clause-rising
part_of-at-requires-clause-rising g c = lows_rising g.met.K.Ord.total (flat {K = g.row.K.Denot} {X = g.row.K.Denot × g.row.V.Denot}) c.args.root.now c.requires.rising (deep_heads c.args.root.now c.requires.headed c.requires.middles)

pub middle_beyond-found-requires-clause-branch : goal.middle_beyond-found-requires-clause-branch
middle_beyond-found-requires-clause-branch g c =
    let part : g.row.K.Denot × List (g.row.K.Denot × List (g.row.K.Denot × g.row.V.Denot)) = (c.item.result.0, c.item.result.1.now) in
    let b = between g.met.K.Ord.total (flat {K = g.row.K.Denot} {X = g.row.K.Denot × g.row.V.Denot}) c.args.key.now c.args.root.now c.part_of-at.result part c.requires.rising (deep_heads c.args.root.now c.requires.headed c.requires.middles) c.part_of-at.ensures.part c.item.ensures in
    record { rising = b.rising; headed = at_one (λ (p : g.row.K.Denot × List (g.row.K.Denot × List (g.row.K.Denot × g.row.V.Denot))). AreHeaded p.1) c.args.root.now c.part_of-at.result part c.item.ensures c.requires.middles }

pub middle_beyond-found-requires-clause-some : goal.middle_beyond-found-requires-clause-some
middle_beyond-found-requires-clause-some g c =
    let part : g.row.K.Denot × List (g.row.K.Denot × List (g.row.K.Denot × g.row.V.Denot)) = (c.item.result.0, c.item.result.1.now) in
    head_some part.0 part.1 (at_one (λ (p : g.row.K.Denot × List (g.row.K.Denot × List (g.row.K.Denot × g.row.V.Denot))). HasHead p.0 p.1) c.args.root.now c.part_of-at.result part c.item.ensures c.requires.headed)

pub returns-then-is_some : goal.returns-then-is_some
returns-then-is_some g c =
    let part : g.row.K.Denot × List (g.row.K.Denot × List (g.row.K.Denot × g.row.V.Denot)) = (c.item.result.0, c.item.result.1.now) in
    let b = between g.met.K.Ord.total (flat {K = g.row.K.Denot} {X = g.row.K.Denot × g.row.V.Denot}) c.args.key.now c.args.root.now c.part_of-at.result part c.requires.rising (deep_heads c.args.root.now c.requires.headed c.requires.middles) c.part_of-at.ensures.part c.item.ensures in
    found_here g.met.K.Ord.total (flat {K = g.row.K.Denot} {X = g.row.K.Denot × g.row.V.Denot}) (λ (e : g.row.K.Denot × Bor g.row.V.Denot). (e.0, e.1.now)) c.middle_beyond-found.result c.args.past c.args.key.now c.args.root.now c.part_of-at.result part b c.middle_beyond-found.ensures (sym c.is_some.ensures ∙ c.if-is_some.true)

pub returns : goal.returns
returns g c =
    let part : g.row.K.Denot × List (g.row.K.Denot × List (g.row.K.Denot × g.row.V.Denot)) = (c.item.result.0, c.item.result.1.now) in
    let b = between g.met.K.Ord.total (flat {K = g.row.K.Denot} {X = g.row.K.Denot × g.row.V.Denot}) c.args.key.now c.args.root.now c.part_of-at.result part c.requires.rising (deep_heads c.args.root.now c.requires.headed c.requires.middles) c.part_of-at.ensures.part c.item.ensures in
    c.root_first.ensures ∙ sym (found_later g.met.K.Ord.total (flat {K = g.row.K.Denot} {X = g.row.K.Denot × g.row.V.Denot}) (λ (e : g.row.K.Denot × Bor g.row.V.Denot). (e.0, e.1.now)) c.middle_beyond-found.result c.args.past c.args.key.now c.args.root.now c.part_of-at.result part b c.middle_beyond-found.ensures (sym c.is_some.ensures ∙ c.if-is_some.false))
