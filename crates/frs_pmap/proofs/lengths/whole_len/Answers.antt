use Rattle.std.proofs.Common.{◌-◌, ◌^◌, ◌<◌, arith, length, refl}
use Rattle.std.proofs.lemmas.Option.{slice_get_read}
use Rattle.frs_pmap.specs.Nodes.{GroupOf, entries_in}
use Rattle.frs_pmap.proofs.Counts.{count_more}
use Rattle.frs_pmap.proofs.lengths.whole_len.Goals as goal

pub loop-at-preserved : goal.loop-at-preserved
loop-at-preserved g c =
    let cs = c.args.whole.now.items.items in
    let at = c.loop-at.at in
    let x = c.index.result.now in
    let within : at < length cs = omega arith in
    let got = slice_get_read cs (length cs) at x refl within c.index.ensures in
    count_more (λ (p : g.row.K.Denot × GroupOf g.row.K.Denot g.row.V.Denot). entries_in p.1.items.items) cs at x (2 ^ 64 - 1) c.loop-at.len c.group_len.result c.saturating_add-len.result got c.loop-at.invariant c.group_len.ensures c.saturating_add-len.ensures
