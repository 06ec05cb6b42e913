use Rattle.std.proofs.Common.{◌∙◌, Some, ap, sym, length, refl}
use Rattle.std.proofs.lemmas.Option.{slice_get_read}
use Rattle.frs_pmap.proofs.Slots.{get_seen}
use Rattle.frs_pmap.proofs.ahead.part_first.Goals as goal

pub returns : goal.returns
returns g c =
    let es = c.args.part.now.items.items in
    let x = c.index-item.result.now in
    let entry : g.row.V.Denot → g.row.K.Denot × g.row.V.Denot = λ v. (x.0, v) in
    ap (λ v. Some (entry v)) c.deref.ensures ∙ sym (get_seen es 0 x (slice_get_read es (length es) 0 x refl c.requires c.index-item.ensures))
