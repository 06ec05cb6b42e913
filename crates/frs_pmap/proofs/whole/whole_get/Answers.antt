use Rattle.std.proofs.Common.{◌∙◌, sym, length, refl}
use Rattle.std.proofs.lemmas.Option.{slice_get_read}
use Rattle.frs_pmap.proofs.Changes.{group_at, group_lows, seen_under}
use Rattle.frs_pmap.proofs.Parts.{get_part}
use Rattle.frs_pmap.proofs.whole.whole_get.Goals as goal

pub part_of-requires-clause-rising : goal.part_of-requires-clause-rising
part_of-requires-clause-rising g c = group_lows g.met.K.Ord.total c.args.whole.now.items.items c.requires.rising c.requires.groups

pub group_get-requires-clause-rising : goal.group_get-requires-clause-rising
group_get-requires-clause-rising g c =
    let cs = c.args.whole.now.items.items in
    let x = c.index.result.now in
    let got = slice_get_read cs (length cs) c.part_of.result x refl c.part_of.ensures.within c.index.ensures in
    (group_at g.met.K.Ord.total c.args.key.now cs c.part_of.result x c.requires.rising c.requires.groups c.part_of.ensures.part got).rising

pub returns : goal.returns
returns g c =
    let cs = c.args.whole.now.items.items in
    let x = c.index.result.now in
    let got = slice_get_read cs (length cs) c.part_of.result x refl c.part_of.ensures.within c.index.ensures in
    c.group_get.ensures ∙ sym (get_part g.met.K.Ord.total (seen_under {K = g.row.K.Denot} {V = g.row.V.Denot}) c.args.key.now cs c.part_of.result x
    (group_at g.met.K.Ord.total c.args.key.now cs c.part_of.result x c.requires.rising c.requires.groups c.part_of.ensures.part got))
