use Rattle.std.proofs.Common.{◌≡◌, ◌∙◌, Bor, Some, sym, length, refl}
use Rattle.std.specs.Prelude.{slice_get}
use Rattle.std.proofs.lemmas.Option.{slice_get_read}
use Rattle.frs_pmap.proofs.Changes.{GroupFits, group_at, group_lows, seen_under}
use Rattle.frs_pmap.proofs.Firsts.{found_here, found_later}
use Rattle.frs_pmap.proofs.Parts.{at_one}
use Rattle.frs_pmap.proofs.Tables.{parts_some}
use Rattle.frs_pmap.proofs.ahead.whole_beyond.Goals as goal

pub part_of-at-requires-clause-rising : goal.part_of-at-requires-clause-rising
part_of-at-requires-clause-rising g c = group_lows g.met.K.Ord.total c.args.whole.now.items.items c.requires.rising c.requires.groups

pub group_beyond-found-requires-clause-rising : goal.group_beyond-found-requires-clause-rising
group_beyond-found-requires-clause-rising g c =
    let cs = c.args.whole.now.items.items in
    let at = c.part_of-at.result in
    let x = c.index.result.now in
    let got : slice_get cs at ≡ Some x = slice_get_read cs (length cs) at x refl c.part_of-at.ensures.within c.index.ensures in
    let b = group_at g.met.K.Ord.total c.args.key.now cs at x c.requires.rising c.requires.groups c.part_of-at.ensures.part got in
    b.rising

pub group_beyond-found-requires-clause-some : goal.group_beyond-found-requires-clause-some
group_beyond-found-requires-clause-some g c =
    let cs = c.args.whole.now.items.items in
    let at = c.part_of-at.result in
    let x = c.index.result.now in
    let got : slice_get cs at ≡ Some x = slice_get_read cs (length cs) at x refl c.part_of-at.ensures.within c.index.ensures in
    parts_some x.0 x.1.items.items (at_one (GroupFits {K = g.row.K.Denot} {V = g.row.V.Denot}) cs at x got c.requires.groups).0

pub returns-then-is_some : goal.returns-then-is_some
returns-then-is_some g c =
    let cs = c.args.whole.now.items.items in
    let at = c.part_of-at.result in
    let x = c.index.result.now in
    let got : slice_get cs at ≡ Some x = slice_get_read cs (length cs) at x refl c.part_of-at.ensures.within c.index.ensures in
    let b = group_at g.met.K.Ord.total c.args.key.now cs at x c.requires.rising c.requires.groups c.part_of-at.ensures.part got in
    found_here g.met.K.Ord.total (seen_under {K = g.row.K.Denot} {V = g.row.V.Denot}) (λ (e : g.row.K.Denot × Bor g.row.V.Denot). (e.0, e.1.now)) c.group_beyond-found.result c.args.past c.args.key.now cs at x b c.group_beyond-found.ensures
    (sym c.is_some.ensures ∙ c.if-is_some.true)

pub returns : goal.returns
returns g c =
    let cs = c.args.whole.now.items.items in
    let at = c.part_of-at.result in
    let x = c.index.result.now in
    let got : slice_get cs at ≡ Some x = slice_get_read cs (length cs) at x refl c.part_of-at.ensures.within c.index.ensures in
    let b = group_at g.met.K.Ord.total c.args.key.now cs at x c.requires.rising c.requires.groups c.part_of-at.ensures.part got in
    c.whole_first.ensures
    ∙ sym (found_later g.met.K.Ord.total (seen_under {K = g.row.K.Denot} {V = g.row.V.Denot}) (λ (e : g.row.K.Denot × Bor g.row.V.Denot). (e.0, e.1.now)) c.group_beyond-found.result c.args.past c.args.key.now cs at x b c.group_beyond-found.ensures
    (sym c.is_some.ensures ∙ c.if-is_some.false))
