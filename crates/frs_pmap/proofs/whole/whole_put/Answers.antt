use Rattle.std.proofs.Common.{◌∙◌, ◌∷◌, length, refl, sym, subst}
use Rattle.std.specs.Arc.{arc_value}
use Rattle.std.specs.Prelude.{option_to_list}
use Rattle.std.proofs.lemmas.Option.{slice_get_read}
use Rattle.frs_pmap.proofs.Changes.{GroupFits, group_at, group_lows, groups_put}
use Rattle.frs_pmap.specs.Entries.{IsRising}
use Rattle.frs_pmap.proofs.Orders.{rising_put}
use Rattle.frs_pmap.proofs.Parts.{all_joined}
use Rattle.frs_pmap.proofs.Tables.{followed}
use Rattle.frs_pmap.proofs.whole.whole_put.Goals as goal

pub part_of-at-requires-clause-rising : goal.part_of-at-requires-clause-rising
part_of-at-requires-clause-rising g c = group_lows g.met.K.Ord.total c.args.whole.now.items.items c.requires.table.rising c.requires.table.groups

pub slot_put-next-requires-clause-rising : goal.slot_put-next-requires-clause-rising
slot_put-next-requires-clause-rising g c =
    let cs = c.args.whole.now.items.items in
    let x = c.index_mut.result.now in
    let got = slice_get_read cs (length cs) c.part_of-at.result x refl c.part_of-at.ensures.within c.index_mut.ensures.value in
    (group_at g.met.K.Ord.total c.args.key cs c.part_of-at.result x c.requires.table.rising c.requires.table.groups c.part_of-at.ensures.part got).rising

pub returns-clause-put : goal.returns-clause-put
returns-clause-put g c =
    let cs = c.args.whole.now.items.items in
    let at = c.part_of-at.result in
    let x = c.index_mut.result.now in
    let ps = c.slot_put-next.new.slot ∷ option_to_list c.slot_put-next.result in
    let got = slice_get_read cs (length cs) at x refl c.part_of-at.ensures.within c.index_mut.ensures.value in
    let b = group_at g.met.K.Ord.total c.args.key cs at x c.requires.table.rising c.requires.table.groups c.part_of-at.ensures.part got in
    groups_put g.met.K.Ord.total c.args.key (arc_value c.args.value) cs ps c.follow.new.items.items at x b
    (c.follow.ensures.items ∙ followed cs at c.slot_put-next.new.slot (option_to_list c.slot_put-next.result) c.part_of-at.ensures.within) c.slot_put-next.ensures.put

pub returns-clause-table : goal.returns-clause-table
returns-clause-table g c =
    let cs = c.args.whole.now.items.items in
    let at = c.part_of-at.result in
    let ps = c.slot_put-next.new.slot ∷ option_to_list c.slot_put-next.result in
    record {
      rising = subst (IsRising g.K.Ord.cmp) (sym (returns-clause-put g c)) (rising_put g.met.K.Ord.total c.args.key (arc_value c.args.value) _ c.requires.table.rising);
      groups = all_joined (GroupFits {K = g.row.K.Denot} {V = g.row.V.Denot}) cs ps c.follow.new.items.items at c.requires.table.groups c.slot_put-next.ensures.groups
          (c.follow.ensures.items ∙ followed cs at c.slot_put-next.new.slot (option_to_list c.slot_put-next.result) c.part_of-at.ensures.within);
      remembered = tt;
    }
