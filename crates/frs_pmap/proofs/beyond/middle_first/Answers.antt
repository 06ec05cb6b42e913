use Rattle.std.proofs.Common.{◌∙◌, List, sym}
use Rattle.frs_pmap.specs.Trees.{HasHead}
use Rattle.frs_pmap.proofs.Parts.{at_one}
use Rattle.frs_pmap.proofs.Firsts.{first_there}
use Rattle.frs_pmap.proofs.beyond.middle_first.Goals as goal

pub returns : goal.returns
returns g c =
    let part : g.row.K.Denot × List (g.row.K.Denot × g.row.V.Denot) = (c.item.result.0, c.item.result.1.now) in
    let head : HasHead part.0 part.1 = at_one (λ (p : g.row.K.Denot × List (g.row.K.Denot × g.row.V.Denot)). HasHead p.0 p.1) c.args.middle.now c.args.at part c.item.ensures c.requires in
    sym (first_there g.met.K.Ord.total (λ (x : List (g.row.K.Denot × g.row.V.Denot)). x) c.args.middle.now c.args.at part c.item.ensures head ∙ c.item-2.ensures)
