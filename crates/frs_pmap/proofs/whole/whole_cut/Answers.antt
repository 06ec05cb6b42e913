use Rattle.std.proofs.Common.{◌∙◌, ◌∷◌, [], ap, append-nil, sym, subst, length, refl, set}
use Rattle.std.proofs.lemmas.Option.{slice_get_read}
use Rattle.frs_pmap.specs.Entries.{IsRising}
use Rattle.frs_pmap.specs.Nodes.{entries_in}
use Rattle.std.specs.BTreeMap.{is_at}
use Rattle.frs_pmap.proofs.Changes.{GroupFits, changed, group_at, group_lows, groups_cut, taken_out}
use Rattle.frs_pmap.proofs.Parts.{all_joined}
use Rattle.frs_pmap.proofs.Orders.{rising_less}
use Rattle.frs_pmap.proofs.Tables.{forgets}
use Rattle.frs_pmap.proofs.whole.whole_cut.Goals as goal

pub part_of-at-requires-clause-rising : goal.part_of-at-requires-clause-rising
part_of-at-requires-clause-rising g c = group_lows g.met.K.Ord.total c.args.whole.now.items.items c.requires.rising c.requires.groups

pub slot_cut-requires-clause-rising : goal.slot_cut-requires-clause-rising
slot_cut-requires-clause-rising g c =
    let cs = c.args.whole.now.items.items in
    let x = c.index_mut.result.now in
    let got = slice_get_read cs (length cs) c.part_of-at.result x refl c.part_of-at.ensures.within c.index_mut.ensures.value in
    (group_at g.met.K.Ord.total c.args.key.now cs c.part_of-at.result x c.requires.rising c.requires.groups c.part_of-at.ensures.part got).rising

pub whole_join-requires : goal.whole_join-requires
whole_join-requires g c =
    let cs = c.args.whole.now.items.items in
    let at = c.part_of-at.result in
    let y = c.slot_cut.new.slot in
    all_joined (GroupFits {K = g.row.K.Denot} {V = g.row.V.Denot}) cs (y ∷ []) (set cs at y) at c.requires.groups ((c.slot_cut.ensures.kept c.if-slot_cut.true, c.slot_cut.ensures.group), tt)
    (changed cs at y c.part_of-at.ensures.within)

pub returns-then-slot_cut-clause-cut : goal.returns-then-slot_cut-clause-cut
returns-then-slot_cut-clause-cut g c =
    let cs = c.args.whole.now.items.items in
    let at = c.part_of-at.result in
    let x = c.index_mut.result.now in
    let y = c.slot_cut.new.slot in
    let got = slice_get_read cs (length cs) at x refl c.part_of-at.ensures.within c.index_mut.ensures.value in
    let b = group_at g.met.K.Ord.total c.args.key.now cs at x c.requires.rising c.requires.groups c.part_of-at.ensures.part got in
    c.whole_join-then-slot_cut.ensures.same ∙ c.whole_join.ensures.same
    ∙ groups_cut g.met.K.Ord.total c.args.key.now cs (y ∷ []) (set cs at y) at x b (changed cs at y c.part_of-at.ensures.within) (append-nil (entries_in y.1.items.items) ∙ c.slot_cut.ensures.cut)

pub returns-then-slot_cut-clause-table : goal.returns-then-slot_cut-clause-table
returns-then-slot_cut-clause-table g c = record {
  rising = subst (IsRising g.K.Ord.cmp) (sym (returns-then-slot_cut-clause-cut g c)) (rising_less g.met.K.Ord.total (is_at (g.K.Ord.cmp c.args.key.now)) _ c.requires.rising);
  groups = c.whole_join-then-slot_cut.ensures.groups;
  remembered = forgets _ _ (c.whole_join-then-slot_cut.ensures.shared ∙ c.whole_join.ensures.shared);
}

pub returns-clause-cut : goal.returns-clause-cut
returns-clause-cut g c =
    let cs = c.args.whole.now.items.items in
    let at = c.part_of-at.result in
    let x = c.index_mut.result.now in
    let y = c.slot_cut.new.slot in
    let got = slice_get_read cs (length cs) at x refl c.part_of-at.ensures.within c.index_mut.ensures.value in
    let b = group_at g.met.K.Ord.total c.args.key.now cs at x c.requires.rising c.requires.groups c.part_of-at.ensures.part got in
    groups_cut g.met.K.Ord.total c.args.key.now cs [] c.remove.new.self.items at x b (c.remove.ensures.items ∙ taken_out cs at y c.part_of-at.ensures.within)
    (sym (ap entries_in (c.slot_cut.ensures.empty c.if-slot_cut.false)) ∙ c.slot_cut.ensures.cut)

pub returns-clause-table : goal.returns-clause-table
returns-clause-table g c =
    let cs = c.args.whole.now.items.items in
    let at = c.part_of-at.result in
    let y = c.slot_cut.new.slot in
    record {
      rising = subst (IsRising g.K.Ord.cmp) (sym (returns-clause-cut g c)) (rising_less g.met.K.Ord.total (is_at (g.K.Ord.cmp c.args.key.now)) _ c.requires.rising);
      groups = all_joined (GroupFits {K = g.row.K.Denot} {V = g.row.V.Denot}) cs [] c.remove.new.self.items at c.requires.groups tt (c.remove.ensures.items ∙ taken_out cs at y c.part_of-at.ensures.within);
      remembered = tt;
    }
