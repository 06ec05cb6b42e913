use Rattle.std.proofs.Common.{◌∙◌, ◌∷◌, length, refl}
use Rattle.std.specs.Arc.{arc_value}
use Rattle.std.specs.Prelude.{option_to_list}
use Rattle.std.proofs.lemmas.Option.{slice_get_read}
use Rattle.frs_pmap.proofs.Changes.{PartFits, part_at, part_lows, parts_put}
use Rattle.frs_pmap.proofs.Parts.{all_joined}
use Rattle.frs_pmap.proofs.Tables.{followed}
use Rattle.frs_pmap.proofs.group.group_put.Goals as goal

pub part_of-at-requires-clause-rising : goal.part_of-at-requires-clause-rising
part_of-at-requires-clause-rising g c = part_lows g.met.K.Ord.total c.args.group.now.items.items c.requires.rising c.requires.parts

pub slot_put-next-requires-clause-rising : goal.slot_put-next-requires-clause-rising
slot_put-next-requires-clause-rising g c =
    let cs = c.args.group.now.items.items in
    let x = c.index_mut.result.now in
    let got = slice_get_read cs (length cs) c.part_of-at.result x refl c.part_of-at.ensures.within c.index_mut.ensures.value in
    (part_at g.met.K.Ord.total c.args.key cs c.part_of-at.result x c.requires.rising c.requires.parts c.part_of-at.ensures.part got).rising

pub returns-clause-put : goal.returns-clause-put
returns-clause-put g c =
    let cs = c.args.group.now.items.items in
    let at = c.part_of-at.result in
    let x = c.index_mut.result.now in
    let ps = c.slot_put-next.new.slot ∷ option_to_list c.slot_put-next.result in
    let got = slice_get_read cs (length cs) at x refl c.part_of-at.ensures.within c.index_mut.ensures.value in
    let b = part_at g.met.K.Ord.total c.args.key cs at x c.requires.rising c.requires.parts c.part_of-at.ensures.part got in
    parts_put g.met.K.Ord.total c.args.key (arc_value c.args.value) cs ps c.follow.new.items.items at x b
    (c.follow.ensures.items ∙ followed cs at c.slot_put-next.new.slot (option_to_list c.slot_put-next.result) c.part_of-at.ensures.within) c.slot_put-next.ensures.put

pub returns-clause-parts : goal.returns-clause-parts
returns-clause-parts g c =
    let cs = c.args.group.now.items.items in
    let at = c.part_of-at.result in
    let ps = c.slot_put-next.new.slot ∷ option_to_list c.slot_put-next.result in
    all_joined (PartFits {K = g.row.K.Denot} {V = g.row.V.Denot}) cs ps c.follow.new.items.items at c.requires.parts c.slot_put-next.ensures.parts
    (c.follow.ensures.items ∙ followed cs at c.slot_put-next.new.slot (option_to_list c.slot_put-next.result) c.part_of-at.ensures.within)
