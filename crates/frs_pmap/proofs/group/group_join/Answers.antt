use Rattle.std.proofs.Common.{◌≡◌, ◌∙◌, ◌+◌, ◌<◌, ◌≤◌, List, Some, ap, sym, subst, arith, length, refl, rules, set}
use Rattle.std.specs.Prelude.{slice_get}
use Rattle.std.proofs.lemmas.List.{length-append}
use Rattle.std.proofs.lemmas.Option.{slice_get_read}
use Rattle.frs_pmap.specs.Nodes.{PartOf}
use Rattle.frs_pmap.proofs.Absorbs.{before_within, get_before, part_absorbs, parts_joined}
use Rattle.frs_pmap.proofs.Changes.{PartFits}
use Rattle.frs_pmap.proofs.Joins.{pair_all, pair_set}
use Rattle.frs_pmap.proofs.Parts.{at_one}
use Rattle.frs_pmap.proofs.Slots.{one_read}
use Rattle.frs_pmap.proofs.group.group_join.Goals as goal

pub returns-clause-same : goal.returns-clause-same
returns-clause-same g c =
    let cs = c.args.group.now.items.items in
    let at = c.args.at in
    let within : at + 1 < length cs = omega arith in
    let front = c.index_mut.result.now in
    let back = c.remove-back.result in
    let less : at < length c.remove-back.new.self.items = subst (λ (l : List (g.row.K.Denot × PartOf g.row.K.Denot g.row.V.Denot)). at < length l) (sym c.remove-back.ensures.items) (before_within cs at within) in
    let got : slice_get cs at ≡ Some front =
    sym (get_before cs at) ∙ ap (λ l. slice_get l at) (sym c.remove-back.ensures.items) ∙ slice_get_read c.remove-back.new.self.items (length c.remove-back.new.self.items) at front refl less c.index_mut.ensures.value in
    let got_back : slice_get cs (at + 1) ≡ Some back = slice_get_read cs (length cs) (at + 1) back refl within c.remove-back.ensures.value in
    let y = c.absorb.new.slot in
    let is = ap (λ (l : List (g.row.K.Denot × PartOf g.row.K.Denot g.row.V.Denot)). set l at y) c.remove-back.ensures.items ∙ pair_set cs at y within in
    parts_joined cs (set c.remove-back.new.self.items at y) at front back y got got_back c.absorb.ensures.items is

pub returns-clause-parts : goal.returns-clause-parts
returns-clause-parts g c =
    let cs = c.args.group.now.items.items in
    let at = c.args.at in
    let within : at + 1 < length cs = omega arith in
    let front = c.index_mut.result.now in
    let back = c.remove-back.result in
    let less : at < length c.remove-back.new.self.items = subst (λ (l : List (g.row.K.Denot × PartOf g.row.K.Denot g.row.V.Denot)). at < length l) (sym c.remove-back.ensures.items) (before_within cs at within) in
    let got : slice_get cs at ≡ Some front =
    sym (get_before cs at) ∙ ap (λ l. slice_get l at) (sym c.remove-back.ensures.items) ∙ slice_get_read c.remove-back.new.self.items (length c.remove-back.new.self.items) at front refl less c.index_mut.ensures.value in
    let got_back : slice_get cs (at + 1) ≡ Some back = slice_get_read cs (length cs) (at + 1) back refl within c.remove-back.ensures.value in
    let first : c.index.result.now ≡ front = one_read cs at c.index.result.now front (slice_get_read cs (length cs) at c.index.result.now refl (omega arith) c.index.ensures) got in
    let second : c.index-2.result.now ≡ back = one_read cs (at + 1) c.index-2.result.now back (slice_get_read cs (length cs) (at + 1) c.index-2.result.now refl within c.index-2.ensures) got_back in
    let seen : length c.index.result.now.1.items.items + length c.index-2.result.now.1.items.items ≤ 32 = c.are_few.ensures (search rules) in
    let few : length front.1.items.items + length back.1.items.items ≤ 32 =
    subst (λ (x : g.row.K.Denot × PartOf g.row.K.Denot g.row.V.Denot). length front.1.items.items + length x.1.items.items ≤ 32) second
    (subst (λ (x : g.row.K.Denot × PartOf g.row.K.Denot g.row.V.Denot). length x.1.items.items + length c.index-2.result.now.1.items.items ≤ 32) first seen) in
    let y = c.absorb.new.slot in
    let is = ap (λ (l : List (g.row.K.Denot × PartOf g.row.K.Denot g.row.V.Denot)). set l at y) c.remove-back.ensures.items ∙ pair_set cs at y within in
    let fits : PartFits front = at_one (PartFits {K = g.row.K.Denot} {V = g.row.V.Denot}) cs at front got c.requires in
    let len : length y.1.items.items ≡ length front.1.items.items + length back.1.items.items = ap length c.absorb.ensures.items ∙ length-append front.1.items.items back.1.items.items in
    pair_all (PartFits {K = g.row.K.Denot} {V = g.row.V.Denot}) cs (set c.remove-back.new.self.items at y) at y c.requires
    (part_absorbs front back y fits c.absorb.ensures.key c.absorb.ensures.items (omega arith) (omega (arith, fits.1.room.capacity)) c.absorb.ensures.forgot) is
