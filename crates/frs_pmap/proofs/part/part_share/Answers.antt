use Rattle.std.proofs.Common.{◌∙◌, ◌++◌, ◌∷◌, [], ◌<◌, ap, arith, length, refl, take}
use Rattle.std.specs.Arc.{arc_value}
use Rattle.std.proofs.lemmas.Option.{slice_get_read}
use Rattle.frs_pmap.specs.Entries.{seen, seen_one}
use Rattle.frs_pmap.proofs.Slots.{get_seen, one_taken}
use Rattle.frs_pmap.proofs.part.part_share.Goals as goal

pub loop-at-preserved : goal.loop-at-preserved
loop-at-preserved g c =
    let es = c.args.part.now.items.items in
    let at = c.loop-at.at in
    let x = c.index-item.result.now in
    let within : at < length es = omega arith in
    let got = slice_get_read es (length es) at x refl within c.index-item.ensures in
    c.in_ok-push_shared.ensures ∙ ap (λ l. l ++ (x.0, arc_value c.in_ok-try_clone.field-0) ∷ []) c.loop-at.invariant
    ∙ ap (λ (v : g.row.V.Denot). take at (seen es) ++ (x.0, v) ∷ []) c.in_ok-try_clone.ensures ∙ one_taken (seen es) at (seen_one x) (get_seen es at x got)
