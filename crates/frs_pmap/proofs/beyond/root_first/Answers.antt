use Rattle.std.proofs.Common.{◌∙◌, List, sym, arith}
use Rattle.frs_pmap.specs.Trees.{AreHeaded, HasHead, flat}
use Rattle.frs_pmap.proofs.Parts.{at_one, deep_head}
use Rattle.frs_pmap.proofs.Firsts.{first_past, first_there}
use Rattle.frs_pmap.proofs.beyond.root_first.Goals as goal

pub returns-then-at-len : goal.returns-then-at-len
returns-then-at-len g c = sym (first_past g.met.K.Ord.total (flat {K = g.row.K.Denot} {X = g.row.K.Denot × g.row.V.Denot}) c.args.root.now c.args.at (omega arith))

pub middle_first-requires : goal.middle_first-requires
middle_first-requires g c =
    let part : g.row.K.Denot × List (g.row.K.Denot × List (g.row.K.Denot × g.row.V.Denot)) = (c.item.result.0, c.item.result.1.now) in
    at_one (λ (p : g.row.K.Denot × List (g.row.K.Denot × List (g.row.K.Denot × g.row.V.Denot))). AreHeaded p.1) c.args.root.now c.args.at part c.item.ensures c.requires.middles

pub returns : goal.returns
returns g c =
    let part : g.row.K.Denot × List (g.row.K.Denot × List (g.row.K.Denot × g.row.V.Denot)) = (c.item.result.0, c.item.result.1.now) in
    let head : HasHead part.0 (flat part.1) = deep_head part.0 part.1 (at_one (λ (p : g.row.K.Denot × List (g.row.K.Denot × List (g.row.K.Denot × g.row.V.Denot))). HasHead p.0 p.1) c.args.root.now c.args.at part c.item.ensures c.requires.headed) (at_one (λ (p : g.row.K.Denot × List (g.row.K.Denot × List (g.row.K.Denot × g.row.V.Denot))). AreHeaded p.1) c.args.root.now c.args.at part c.item.ensures c.requires.middles) in
    c.middle_first.ensures ∙ sym (first_there g.met.K.Ord.total (flat {K = g.row.K.Denot} {X = g.row.K.Denot × g.row.V.Denot}) c.args.root.now c.args.at part c.item.ensures head)
