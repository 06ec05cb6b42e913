use Rattle.std.proofs.Common.{◌≡◌, ◌-◌, ◌^◌, ◌<◌, arith, length, refl}
use Rattle.std.specs.Prelude.{min}
use Rattle.std.proofs.lemmas.List.{length-map}
use Rattle.std.proofs.lemmas.Option.{slice_get_read}
use Rattle.frs_pmap.specs.Entries.{seen, seen_one}
use Rattle.frs_pmap.specs.Nodes.{PartOf}
use Rattle.frs_pmap.proofs.Counts.{count_more}
use Rattle.frs_pmap.proofs.lengths.group_len.Goals as goal

pub loop-at-preserved : goal.loop-at-preserved
loop-at-preserved g c =
    let cs = c.args.group.now.items.items in
    let at = c.loop-at.at in
    let x = c.index.result.now in
    let within : at < length cs = omega arith in
    let got = slice_get_read cs (length cs) at x refl within c.index.ensures in
    let some : c.len.result ≡ min (length (seen x.1.items.items)) (2 ^ 64 - 1) = omega (arith, c.len.ensures, length-map x.1.items.items seen_one) in
    count_more (λ (p : g.row.K.Denot × PartOf g.row.K.Denot g.row.V.Denot). seen p.1.items.items) cs at x (2 ^ 64 - 1) c.loop-at.len c.len.result c.saturating_add-len.result got c.loop-at.invariant some c.saturating_add-len.ensures
