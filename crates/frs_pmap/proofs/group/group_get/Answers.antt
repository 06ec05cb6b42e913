use Rattle.std.proofs.Common.{◌∙◌, sym, length, refl}
use Rattle.std.proofs.lemmas.Option.{slice_get_read}
use Rattle.frs_pmap.proofs.Changes.{part_at, part_lows, seen_in}
use Rattle.frs_pmap.proofs.Parts.{get_part}
use Rattle.frs_pmap.proofs.group.group_get.Goals as goal

pub part_of-requires-clause-rising : goal.part_of-requires-clause-rising
part_of-requires-clause-rising g c = part_lows g.met.K.Ord.total c.args.group.now.items.items c.requires.rising c.requires.parts

pub part_get-requires : goal.part_get-requires
part_get-requires g c =
    let cs = c.args.group.now.items.items in
    let x = c.index.result.now in
    let got = slice_get_read cs (length cs) c.part_of.result x refl c.part_of.ensures.within c.index.ensures in
    (part_at g.met.K.Ord.total c.args.key.now cs c.part_of.result x c.requires.rising c.requires.parts c.part_of.ensures.part got).rising

pub returns : goal.returns
returns g c =
    let cs = c.args.group.now.items.items in
    let x = c.index.result.now in
    let got = slice_get_read cs (length cs) c.part_of.result x refl c.part_of.ensures.within c.index.ensures in
    c.part_get.ensures ∙ sym (get_part g.met.K.Ord.total (seen_in {K = g.row.K.Denot} {V = g.row.V.Denot}) c.args.key.now cs c.part_of.result x
    (part_at g.met.K.Ord.total c.args.key.now cs c.part_of.result x c.requires.rising c.requires.parts c.part_of.ensures.part got))
