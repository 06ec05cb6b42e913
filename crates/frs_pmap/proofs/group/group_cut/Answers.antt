use Rattle.std.proofs.Common.{◌∙◌, ◌∷◌, [], ap, append-nil, sym, length, refl, set}
use Rattle.std.proofs.lemmas.Option.{slice_get_read}
use Rattle.frs_pmap.specs.Entries.{seen}
use Rattle.frs_pmap.proofs.Changes.{PartFits, changed, part_at, part_lows, parts_cut, taken_out}
use Rattle.frs_pmap.proofs.Parts.{all_joined}
use Rattle.frs_pmap.proofs.group.group_cut.Goals as goal

pub part_of-at-requires-clause-rising : goal.part_of-at-requires-clause-rising
part_of-at-requires-clause-rising g c = part_lows g.met.K.Ord.total c.args.group.now.items.items c.requires.rising c.requires.parts

pub slot_cut-requires-clause-rising : goal.slot_cut-requires-clause-rising
slot_cut-requires-clause-rising g c =
    let cs = c.args.group.now.items.items in
    let x = c.index_mut.result.now in
    let got = slice_get_read cs (length cs) c.part_of-at.result x refl c.part_of-at.ensures.within c.index_mut.ensures.value in
    (part_at g.met.K.Ord.total c.args.key.now cs c.part_of-at.result x c.requires.rising c.requires.parts c.part_of-at.ensures.part got).rising

pub group_join-requires : goal.group_join-requires
group_join-requires g c =
    let cs = c.args.group.now.items.items in
    let at = c.part_of-at.result in
    let y = c.slot_cut.new.slot in
    all_joined (PartFits {K = g.row.K.Denot} {V = g.row.V.Denot}) cs (y ∷ []) (set cs at y) at c.requires.parts ((c.slot_cut.ensures.kept c.if-slot_cut.true, c.slot_cut.ensures.part), tt)
    (changed cs at y c.part_of-at.ensures.within)

pub returns-then-slot_cut-clause-cut : goal.returns-then-slot_cut-clause-cut
returns-then-slot_cut-clause-cut g c =
    let cs = c.args.group.now.items.items in
    let at = c.part_of-at.result in
    let x = c.index_mut.result.now in
    let y = c.slot_cut.new.slot in
    let got = slice_get_read cs (length cs) at x refl c.part_of-at.ensures.within c.index_mut.ensures.value in
    let b = part_at g.met.K.Ord.total c.args.key.now cs at x c.requires.rising c.requires.parts c.part_of-at.ensures.part got in
    c.group_join-then-slot_cut.ensures.same ∙ c.group_join.ensures.same
    ∙ parts_cut g.met.K.Ord.total c.args.key.now cs (y ∷ []) (set cs at y) at x b (changed cs at y c.part_of-at.ensures.within) (append-nil (seen y.1.items.items) ∙ c.slot_cut.ensures.cut)

pub returns-clause-cut : goal.returns-clause-cut
returns-clause-cut g c =
    let cs = c.args.group.now.items.items in
    let at = c.part_of-at.result in
    let x = c.index_mut.result.now in
    let y = c.slot_cut.new.slot in
    let got = slice_get_read cs (length cs) at x refl c.part_of-at.ensures.within c.index_mut.ensures.value in
    let b = part_at g.met.K.Ord.total c.args.key.now cs at x c.requires.rising c.requires.parts c.part_of-at.ensures.part got in
    parts_cut g.met.K.Ord.total c.args.key.now cs [] c.remove.new.self.items at x b (c.remove.ensures.items ∙ taken_out cs at y c.part_of-at.ensures.within)
    (sym (ap seen (c.slot_cut.ensures.empty c.if-slot_cut.false)) ∙ c.slot_cut.ensures.cut)

pub returns-clause-parts : goal.returns-clause-parts
returns-clause-parts g c =
    let cs = c.args.group.now.items.items in
    let at = c.part_of-at.result in
    let y = c.slot_cut.new.slot in
    all_joined (PartFits {K = g.row.K.Denot} {V = g.row.V.Denot}) cs [] c.remove.new.self.items at c.requires.parts tt (c.remove.ensures.items ∙ taken_out cs at y c.part_of-at.ensures.within)
