use Rattle.std.proofs.Common.{◌∙◌, List}
use Rattle.frs_pmap.specs.Trees.{HasHead}
use Rattle.frs_pmap.proofs.Parts.{all_joined, between, lows_rising, put_part}
use Rattle.frs_pmap.proofs.middle.middle_with.Goals as goal

pub part_of-at-requires-clause-rising : goal.part_of-at-requires-clause-rising
part_of-at-requires-clause-rising g c = lows_rising g.met.K.Ord.total (λ (x : List (g.row.K.Denot × g.row.V.Denot)). x) c.args.middle.now c.requires.branch.rising c.requires.branch.headed

pub leaf_with-requires : goal.leaf_with-requires
leaf_with-requires g c =
    let part : g.row.K.Denot × List (g.row.K.Denot × g.row.V.Denot) = (c.item.result.0, c.item.result.1.now) in
    let b = between g.met.K.Ord.total (λ (x : List (g.row.K.Denot × g.row.V.Denot)). x) c.args.key c.args.middle.now c.part_of-at.result part c.requires.branch.rising c.requires.branch.headed c.part_of-at.ensures.part c.item.ensures in
    b.rising

pub returns-clause-put : goal.returns-clause-put
returns-clause-put g c =
    let part : g.row.K.Denot × List (g.row.K.Denot × g.row.V.Denot) = (c.item.result.0, c.item.result.1.now) in
    let b = between g.met.K.Ord.total (λ (x : List (g.row.K.Denot × g.row.V.Denot)). x) c.args.key c.args.middle.now c.part_of-at.result part c.requires.branch.rising c.requires.branch.headed c.part_of-at.ensures.part c.item.ensures in
    put_part g.met.K.Ord.total (λ (x : List (g.row.K.Denot × g.row.V.Denot)). x) c.args.key c.args.value c.args.middle.now c.in_ok-parts.parts c.in_ok-out.out c.part_of-at.result part b c.in_ok-out.ensures (c.in_ok-parts.ensures.flat ∙ c.in_ok-leaf_with.ensures)

pub returns-clause-headed : goal.returns-clause-headed
returns-clause-headed g c = all_joined (λ (p : g.row.K.Denot × List (g.row.K.Denot × g.row.V.Denot)). HasHead p.0 p.1) c.args.middle.now c.in_ok-parts.parts c.in_ok-out.out c.part_of-at.result c.requires.branch.headed c.in_ok-parts.ensures.headed c.in_ok-out.ensures
