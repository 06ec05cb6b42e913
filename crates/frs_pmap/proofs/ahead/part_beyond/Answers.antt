use Rattle.std.proofs.Common.{◌∙◌, ◌<◌, Some, ap, sym, arith, length, refl}
use Rattle.std.proofs.lemmas.List.{length-map}
use Rattle.std.proofs.lemmas.Option.{slice_get_past, slice_get_read}
use Rattle.frs_pmap.specs.Entries.{seen, seen_one}
use Rattle.frs_pmap.proofs.Slots.{get_seen}
use Rattle.frs_pmap.proofs.ahead.part_beyond.Goals as goal

pub returns-then-at-len : goal.returns-then-at-len
returns-then-at-len g c =
    let es = c.args.part.now.items.items in
    sym (slice_get_past (seen es) c.part_place-at.result (omega (arith, length-map es seen_one))) ∙ c.part_place-at.ensures

pub returns : goal.returns
returns g c =
    let es = c.args.part.now.items.items in
    let at = c.part_place-at.result in
    let x = c.index-item.result.now in
    let within : at < length es = omega arith in
    let entry : g.row.V.Denot → g.row.K.Denot × g.row.V.Denot = λ v. (x.0, v) in
    ap (λ v. Some (entry v)) c.deref.ensures ∙ sym (get_seen es at x (slice_get_read es (length es) at x refl within c.index-item.ensures)) ∙ c.part_place-at.ensures
