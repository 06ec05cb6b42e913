use Rattle.std.proofs.Common.{◌≡◌, ◌∙◌, Bor, Some, sym, length, refl}
use Rattle.std.specs.Prelude.{slice_get}
use Rattle.std.proofs.lemmas.Option.{slice_get_read}
use Rattle.frs_pmap.proofs.Changes.{part_at, part_lows, seen_in}
use Rattle.frs_pmap.proofs.Firsts.{found_here, found_later}
use Rattle.frs_pmap.proofs.ahead.group_beyond.Goals as goal

pub part_of-at-requires-clause-rising : goal.part_of-at-requires-clause-rising
part_of-at-requires-clause-rising g c = part_lows g.met.K.Ord.total c.args.group.now.items.items c.requires.rising c.requires.parts

pub part_beyond-found-requires : goal.part_beyond-found-requires
part_beyond-found-requires g c =
    let cs = c.args.group.now.items.items in
    let at = c.part_of-at.result in
    let x = c.index.result.now in
    let got : slice_get cs at ≡ Some x = slice_get_read cs (length cs) at x refl c.part_of-at.ensures.within c.index.ensures in
    let b = part_at g.met.K.Ord.total c.args.key.now cs at x c.requires.rising c.requires.parts c.part_of-at.ensures.part got in
    b.rising

pub returns-then-is_some : goal.returns-then-is_some
returns-then-is_some g c =
    let cs = c.args.group.now.items.items in
    let at = c.part_of-at.result in
    let x = c.index.result.now in
    let got : slice_get cs at ≡ Some x = slice_get_read cs (length cs) at x refl c.part_of-at.ensures.within c.index.ensures in
    let b = part_at g.met.K.Ord.total c.args.key.now cs at x c.requires.rising c.requires.parts c.part_of-at.ensures.part got in
    found_here g.met.K.Ord.total (seen_in {K = g.row.K.Denot} {V = g.row.V.Denot}) (λ (e : g.row.K.Denot × Bor g.row.V.Denot). (e.0, e.1.now)) c.part_beyond-found.result c.args.past c.args.key.now cs at x b c.part_beyond-found.ensures
    (sym c.is_some.ensures ∙ c.if-is_some.true)

pub returns : goal.returns
returns g c =
    let cs = c.args.group.now.items.items in
    let at = c.part_of-at.result in
    let x = c.index.result.now in
    let got : slice_get cs at ≡ Some x = slice_get_read cs (length cs) at x refl c.part_of-at.ensures.within c.index.ensures in
    let b = part_at g.met.K.Ord.total c.args.key.now cs at x c.requires.rising c.requires.parts c.part_of-at.ensures.part got in
    c.group_first.ensures
    ∙ sym (found_later g.met.K.Ord.total (seen_in {K = g.row.K.Denot} {V = g.row.V.Denot}) (λ (e : g.row.K.Denot × Bor g.row.V.Denot). (e.0, e.1.now)) c.part_beyond-found.result c.args.past c.args.key.now cs at x b c.part_beyond-found.ensures
    (sym c.is_some.ensures ∙ c.if-is_some.false))
