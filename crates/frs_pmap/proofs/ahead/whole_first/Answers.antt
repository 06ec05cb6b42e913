use Rattle.std.proofs.Common.{◌≡◌, ◌∙◌, ◌<◌, Some, sym, arith, length, refl}
use Rattle.std.specs.Prelude.{slice_get}
use Rattle.std.proofs.lemmas.Option.{slice_get_read}
use Rattle.frs_pmap.proofs.Changes.{GroupFits, seen_under}
use Rattle.frs_pmap.proofs.Firsts.{first_past, first_there}
use Rattle.frs_pmap.proofs.Parts.{at_one}
use Rattle.frs_pmap.proofs.ahead.whole_first.Goals as goal

pub returns-then-at-len : goal.returns-then-at-len
returns-then-at-len g c = sym (first_past g.met.K.Ord.total (seen_under {K = g.row.K.Denot} {V = g.row.V.Denot}) c.args.whole.now.items.items c.args.at (omega arith))

pub group_first-requires : goal.group_first-requires
group_first-requires g c =
    let cs = c.args.whole.now.items.items in
    let x = c.index.result.now in
    let within : c.args.at < length cs = omega arith in
    let got : slice_get cs c.args.at ≡ Some x = slice_get_read cs (length cs) c.args.at x refl within c.index.ensures in
    let fits : GroupFits x = at_one (GroupFits {K = g.row.K.Denot} {V = g.row.V.Denot}) cs c.args.at x got c.requires in
    fits.1.parts

pub returns : goal.returns
returns g c =
    let cs = c.args.whole.now.items.items in
    let x = c.index.result.now in
    let within : c.args.at < length cs = omega arith in
    let got : slice_get cs c.args.at ≡ Some x = slice_get_read cs (length cs) c.args.at x refl within c.index.ensures in
    let fits : GroupFits x = at_one (GroupFits {K = g.row.K.Denot} {V = g.row.V.Denot}) cs c.args.at x got c.requires in
    c.group_first.ensures ∙ sym (first_there g.met.K.Ord.total (seen_under {K = g.row.K.Denot} {V = g.row.V.Denot}) cs c.args.at x got fits.0)
