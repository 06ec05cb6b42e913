use Rattle.std.proofs.Common.{◌≡◌, ◌∙◌, ◌++◌, ◌<◌, [], ◌∷◌, ap, arith, length, refl}
use Rattle.std.proofs.lemmas.List.{length-map, map-append}
use Rattle.frs_pmap.specs.Entries.{seen, seen_one}
use Rattle.frs_pmap.proofs.Places.{one_more}
use Rattle.frs_pmap.proofs.row.Row.extend.Goals as goal

pub loop-at-preserved : goal.loop-at-preserved
loop-at-preserved g c =
    let xs = c.other.inside.items.items in
    let within : c.loop-at.at < length xs = omega (arith, length-map xs seen_one, ap length c.other.view_is, c.requires.within) in
    let old = c.loop-at.self-inside.items.items in
    let clone = c.in_ok-try_clone.field-0 in
    let added : seen c.push.new.self.items ≡ seen old ++ seen_one c.index-item.result.now ∷ [] =
    ap seen c.in_ok-push.ensures.items ∙ map-append seen_one old ((c.index-item.result.now.0, clone) ∷ []) ∙ ap (λ v. seen old ++ (c.index-item.result.now.0, v) ∷ []) c.in_ok-try_clone.ensures in
    (one_more seen_one xs c.args.from c.loop-at.at c.index-item.result.now _ _ _ c.loop-at.auto.at within c.index-item.ensures c.loop-at.invariant.0 added, refl)
