use Rattle.std.proofs.Common.{◌∙◌, ◌++◌, ◌∷◌, [], ◌<◌, List, ap, sym, subst, ◌≤◌, arith, length, refl, set}
use Rattle.std.proofs.Math.ListN.{length-set}
use Rattle.std.specs.Prelude.{slice_get}
use Rattle.std.proofs.lemmas.List.{length-map, take_all}
use Rattle.std.proofs.lemmas.Option.{slice_get_read}
use Rattle.frs_pmap.specs.Entries.{IsRising}
use Rattle.frs_pmap.specs.Nodes.{GroupOf, group_rows, part_rows}
use Rattle.frs_pmap.proofs.Changes.{GroupFits}
use Rattle.frs_pmap.proofs.Parts.{at_one}
use Rattle.frs_pmap.proofs.Shares.{entries_kept, get_map, group_kept}
use Rattle.frs_pmap.proofs.Slots.{one_taken}
use Rattle.frs_pmap.proofs.Tables.{forgets}
use Rattle.frs_pmap.proofs.whole.whole_share.Goals as goal

pub slot_share-requires : goal.slot_share-requires
slot_share-requires g c =
    let cs = c.loop-at.whole.items.items in
    let within : c.loop-at.at < length cs = omega arith in
    let x = c.index_mut.result.now in
    (at_one (GroupFits {K = g.row.K.Denot} {V = g.row.V.Denot}) cs c.loop-at.at x (slice_get_read cs (length cs) c.loop-at.at x refl within c.index_mut.ensures.value) c.loop-at.invariant.groups).1

pub returns-in_err-slot_share-clause-rows : goal.returns-in_err-slot_share-clause-rows
returns-in_err-slot_share-clause-rows g c =
    let cs = c.loop-at.whole.items.items in
    let at = c.loop-at.at in
    let within : at < length cs = omega arith in
    let x = c.index_mut.result.now in
    let y = c.slot_share.new.slot in
    let got = slice_get_read cs (length cs) at x refl within c.index_mut.ensures.value in
    let kept = group_kept cs at x y got c.slot_share.ensures.key c.slot_share.ensures.rows c.slot_share.ensures.group c.loop-at.invariant.groups in
    kept.0 ∙ c.loop-at.invariant.rows

pub loop-at-preserved : goal.loop-at-preserved
loop-at-preserved g c =
    let cs = c.loop-at.whole.items.items in
    let at = c.loop-at.at in
    let within : at < length cs = omega arith in
    let x = c.index_mut.result.now in
    let y = c.slot_share.new.slot in
    let got = slice_get_read cs (length cs) at x refl within c.index_mut.ensures.value in
    let kept = group_kept cs at x y got c.slot_share.ensures.key c.slot_share.ensures.rows c.slot_share.ensures.group c.loop-at.invariant.groups in
    let row : g.row.K.Denot × GroupOf g.row.K.Denot g.row.V.Denot → g.row.K.Denot × List (g.row.K.Denot × List (g.row.K.Denot × g.row.V.Denot)) = λ c. (c.0, part_rows c.1.items.items) in
    record {
      rows = kept.0 ∙ c.loop-at.invariant.rows;
      groups = kept.1;
      shared = c.loop-at.invariant.shared;
      row = c.in_ok-slot_share.ensures.row ∙ ap (λ l. l ++ row x ∷ []) c.loop-at.invariant.row
          ∙ one_taken (group_rows c.args.whole.now.items.items) at (row x) (ap (λ l. slice_get l at) (sym c.loop-at.invariant.rows) ∙ get_map row cs at x got);
      len = length-set cs at y ∙ c.loop-at.invariant.len;
      capacity = c.loop-at.invariant.capacity;
    }

pub returns-in_err-slot_share-clause-table : goal.returns-in_err-slot_share-clause-table
returns-in_err-slot_share-clause-table g c =
    let cs = c.loop-at.whole.items.items in
    let at = c.loop-at.at in
    let within : at < length cs = omega arith in
    let x = c.index_mut.result.now in
    let y = c.slot_share.new.slot in
    let got = slice_get_read cs (length cs) at x refl within c.index_mut.ensures.value in
    let kept = group_kept cs at x y got c.slot_share.ensures.key c.slot_share.ensures.rows c.slot_share.ensures.group c.loop-at.invariant.groups in
    record {
      rising = subst (IsRising g.K.Ord.cmp) (sym (entries_kept c.args.whole.now.items.items (set cs at y) (kept.0 ∙ c.loop-at.invariant.rows))) c.requires.rising;
      groups = kept.1;
      remembered = forgets c.loop-at.whole.shared _ c.loop-at.invariant.shared;
    }

pub returns-in_err-row-2-clause-table : goal.returns-in_err-row-2-clause-table
returns-in_err-row-2-clause-table g c = record {
  rising = subst (IsRising g.K.Ord.cmp) (sym (entries_kept c.args.whole.now.items.items c.loop-at.whole.items.items c.loop-at.invariant.rows)) c.requires.rising;
  groups = c.loop-at.invariant.groups;
  remembered = forgets c.loop-at.whole.shared _ c.loop-at.invariant.shared;
}

pub returns-in_err-try_clone-clause-table : goal.returns-in_err-try_clone-clause-table
returns-in_err-try_clone-clause-table g c = record {
  rising = subst (IsRising g.K.Ord.cmp) (sym (entries_kept c.args.whole.now.items.items c.loop-at.whole.items.items c.loop-at.invariant.rows)) c.requires.rising;
  groups = c.loop-at.invariant.groups;
  remembered = forgets c.loop-at.whole.shared _ c.loop-at.invariant.shared;
}

pub returns-clause-table : goal.returns-clause-table
returns-clause-table g c =
    let gs = c.args.whole.now.items.items in
    let row : g.row.K.Denot × GroupOf g.row.K.Denot g.row.V.Denot → g.row.K.Denot × List (g.row.K.Denot × List (g.row.K.Denot × g.row.V.Denot)) = λ c. (c.0, part_rows c.1.items.items) in
    let full : length (group_rows gs) ≤ c.loop-at.at = omega (arith, length-map gs row) in
    record {
      rising = subst (IsRising g.K.Ord.cmp) (sym (entries_kept gs c.loop-at.whole.items.items c.loop-at.invariant.rows)) c.requires.rising;
      groups = c.loop-at.invariant.groups;
      remembered = c.in_ok-try_clone.ensures ∙ c.in_ok-row-2.ensures.ok ∙ c.loop-at.invariant.row ∙ take_all c.loop-at.at (group_rows gs) full ∙ sym c.loop-at.invariant.rows;
    }
