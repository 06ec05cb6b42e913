use Rattle.std.proofs.Common.{◌∙◌, List, sym, ap, subst}
use Rattle.frs_pmap.specs.Entries.{IsRising}
use Rattle.frs_pmap.proofs.Orders.{rising_put}
use Rattle.frs_pmap.specs.Trees.{AreHeaded, HasHead, flat}
use Rattle.frs_pmap.proofs.Parts.{all_joined, at_one, between, deep_heads, flat_flat, head_some, lows_rising, pieces_headed, put_part}
use Rattle.frs_pmap.proofs.root.root_with.Goals as goal

pub part_of-at-requires-clause-rising : goal.part_of-at-requires-clause-rising
part_of-at-requires-clause-rising g c = lows_rising g.met.K.Ord.total (flat {K = g.row.K.Denot} {X = g.row.K.Denot × g.row.V.Denot}) c.args.root.now c.requires.rising (deep_heads c.args.root.now c.requires.headed c.requires.middles)

pub middle_with-requires-clause-branch : goal.middle_with-requires-clause-branch
middle_with-requires-clause-branch g c =
    let part : g.row.K.Denot × List (g.row.K.Denot × List (g.row.K.Denot × g.row.V.Denot)) = (c.item.result.0, c.item.result.1.now) in
    let b = between g.met.K.Ord.total (flat {K = g.row.K.Denot} {X = g.row.K.Denot × g.row.V.Denot}) c.args.key c.args.root.now c.part_of-at.result part c.requires.rising (deep_heads c.args.root.now c.requires.headed c.requires.middles) c.part_of-at.ensures.part c.item.ensures in
    record { rising = b.rising; headed = at_one (λ (p : g.row.K.Denot × List (g.row.K.Denot × List (g.row.K.Denot × g.row.V.Denot))). AreHeaded p.1) c.args.root.now c.part_of-at.result part c.item.ensures c.requires.middles }

pub middle_with-requires-clause-some : goal.middle_with-requires-clause-some
middle_with-requires-clause-some g c =
    let part : g.row.K.Denot × List (g.row.K.Denot × List (g.row.K.Denot × g.row.V.Denot)) = (c.item.result.0, c.item.result.1.now) in
    head_some part.0 part.1 (at_one (λ (p : g.row.K.Denot × List (g.row.K.Denot × List (g.row.K.Denot × g.row.V.Denot))). HasHead p.0 p.1) c.args.root.now c.part_of-at.result part c.item.ensures c.requires.headed)

pub returns-clause-put : goal.returns-clause-put
returns-clause-put g c =
    let part : g.row.K.Denot × List (g.row.K.Denot × List (g.row.K.Denot × g.row.V.Denot)) = (c.item.result.0, c.item.result.1.now) in
    let b = between g.met.K.Ord.total (flat {K = g.row.K.Denot} {X = g.row.K.Denot × g.row.V.Denot}) c.args.key c.args.root.now c.part_of-at.result part c.requires.rising (deep_heads c.args.root.now c.requires.headed c.requires.middles) c.part_of-at.ensures.part c.item.ensures in
    let same = put_part g.met.K.Ord.total (flat {K = g.row.K.Denot} {X = g.row.K.Denot × g.row.V.Denot}) c.args.key c.args.value c.args.root.now c.in_ok-parts.parts c.in_ok-out-2.out c.part_of-at.result part b c.in_ok-out-2.ensures (flat_flat c.in_ok-parts.parts ∙ ap flat c.in_ok-parts.ensures.flat ∙ c.in_ok-middle_with.ensures.put) in
    same

pub returns-clause-tree : goal.returns-clause-tree
returns-clause-tree g c =
    let part : g.row.K.Denot × List (g.row.K.Denot × List (g.row.K.Denot × g.row.V.Denot)) = (c.item.result.0, c.item.result.1.now) in
    let b = between g.met.K.Ord.total (flat {K = g.row.K.Denot} {X = g.row.K.Denot × g.row.V.Denot}) c.args.key c.args.root.now c.part_of-at.result part c.requires.rising (deep_heads c.args.root.now c.requires.headed c.requires.middles) c.part_of-at.ensures.part c.item.ensures in
    let same = put_part g.met.K.Ord.total (flat {K = g.row.K.Denot} {X = g.row.K.Denot × g.row.V.Denot}) c.args.key c.args.value c.args.root.now c.in_ok-parts.parts c.in_ok-out-2.out c.part_of-at.result part b c.in_ok-out-2.ensures (flat_flat c.in_ok-parts.parts ∙ ap flat c.in_ok-parts.ensures.flat ∙ c.in_ok-middle_with.ensures.put) in
    record {
      rising = subst (IsRising g.K.Ord.cmp) (sym same) (rising_put g.met.K.Ord.total c.args.key c.args.value _ c.requires.rising);
      headed = all_joined (λ (p : g.row.K.Denot × List (g.row.K.Denot × List (g.row.K.Denot × g.row.V.Denot))). HasHead p.0 p.1) c.args.root.now c.in_ok-parts.parts c.in_ok-out-2.out c.part_of-at.result c.requires.headed c.in_ok-parts.ensures.headed c.in_ok-out-2.ensures;
      middles = all_joined (λ (p : g.row.K.Denot × List (g.row.K.Denot × List (g.row.K.Denot × g.row.V.Denot))). AreHeaded p.1) c.args.root.now c.in_ok-parts.parts c.in_ok-out-2.out c.part_of-at.result c.requires.middles
          (pieces_headed c.in_ok-parts.parts (subst AreHeaded (sym c.in_ok-parts.ensures.flat) c.in_ok-middle_with.ensures.headed)) c.in_ok-out-2.ensures;
    }
