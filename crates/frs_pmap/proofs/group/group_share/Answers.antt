use Rattle.std.proofs.Common.{◌∙◌, ◌++◌, ◌∷◌, [], ◌<◌, List, ap, sym, arith, length, refl}
use Rattle.std.proofs.Math.ListN.{length-set}
use Rattle.std.specs.Prelude.{slice_get}
use Rattle.std.proofs.lemmas.Option.{slice_get_read}
use Rattle.frs_pmap.specs.Entries.{seen}
use Rattle.frs_pmap.specs.Nodes.{PartOf, part_rows}
use Rattle.frs_pmap.proofs.Changes.{PartFits}
use Rattle.frs_pmap.proofs.Parts.{at_one}
use Rattle.frs_pmap.proofs.Shares.{get_map, part_kept}
use Rattle.frs_pmap.proofs.Slots.{one_taken}
use Rattle.frs_pmap.proofs.Tables.{forgets}
use Rattle.frs_pmap.proofs.group.group_share.Goals as goal

pub slot_share-requires : goal.slot_share-requires
slot_share-requires g c =
    let cs = c.loop-at.group.items.items in
    let within : c.loop-at.at < length cs = omega arith in
    let x = c.index_mut.result.now in
    (at_one (PartFits {K = g.row.K.Denot} {V = g.row.V.Denot}) cs c.loop-at.at x (slice_get_read cs (length cs) c.loop-at.at x refl within c.index_mut.ensures.value) c.loop-at.invariant.parts).1

pub returns-in_err-slot_share-clause-rows : goal.returns-in_err-slot_share-clause-rows
returns-in_err-slot_share-clause-rows g c =
    let cs = c.loop-at.group.items.items in
    let at = c.loop-at.at in
    let within : at < length cs = omega arith in
    let x = c.index_mut.result.now in
    let y = c.slot_share.new.slot in
    let got = slice_get_read cs (length cs) at x refl within c.index_mut.ensures.value in
    let kept = part_kept cs at x y got c.slot_share.ensures.key c.slot_share.ensures.items c.slot_share.ensures.part c.loop-at.invariant.parts in
    kept.0 ∙ c.loop-at.invariant.rows

pub loop-at-preserved : goal.loop-at-preserved
loop-at-preserved g c =
    let cs = c.loop-at.group.items.items in
    let at = c.loop-at.at in
    let within : at < length cs = omega arith in
    let x = c.index_mut.result.now in
    let y = c.slot_share.new.slot in
    let got = slice_get_read cs (length cs) at x refl within c.index_mut.ensures.value in
    let kept = part_kept cs at x y got c.slot_share.ensures.key c.slot_share.ensures.items c.slot_share.ensures.part c.loop-at.invariant.parts in
    let row : g.row.K.Denot × PartOf g.row.K.Denot g.row.V.Denot → g.row.K.Denot × List (g.row.K.Denot × g.row.V.Denot) = λ c. (c.0, seen c.1.items.items) in
    record {
      rows = kept.0 ∙ c.loop-at.invariant.rows;
      parts = kept.1;
      shared = c.loop-at.invariant.shared;
      row = c.in_ok-slot_share.ensures.row ∙ ap (λ l. l ++ row x ∷ []) c.loop-at.invariant.row
          ∙ one_taken (part_rows c.args.group.now.items.items) at (row x) (ap (λ l. slice_get l at) (sym c.loop-at.invariant.rows) ∙ get_map row cs at x got);
      len = length-set cs at y ∙ c.loop-at.invariant.len;
      capacity = c.loop-at.invariant.capacity;
    }

pub returns-in_err-slot_share-clause-group : goal.returns-in_err-slot_share-clause-group
returns-in_err-slot_share-clause-group g c =
    let cs = c.loop-at.group.items.items in
    let at = c.loop-at.at in
    let within : at < length cs = omega arith in
    let x = c.index_mut.result.now in
    let y = c.slot_share.new.slot in
    let got = slice_get_read cs (length cs) at x refl within c.index_mut.ensures.value in
    let kept = part_kept cs at x y got c.slot_share.ensures.key c.slot_share.ensures.items c.slot_share.ensures.part c.loop-at.invariant.parts in
    record { parts = kept.1; room = record { less = omega (arith, length-set cs at y); capacity = omega arith }; remembered = forgets c.loop-at.group.shared _ c.loop-at.invariant.shared }
