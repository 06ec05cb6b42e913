use Rattle.std.proofs.Common.{◌∙◌, ap, sym, subst}
use Rattle.std.specs.Prelude.{find, slice_get}
use Rattle.std.specs.List.{prefix_len}
use Rattle.frs_pmap.specs.Entries.{IsRising, is_below, is_beyond, is_upto, seen}
use Rattle.frs_pmap.proofs.Firsts.{above_place, from_place}
use Rattle.frs_pmap.proofs.Places.{below_seen, place_seen, rising_seen}
use Rattle.frs_pmap.proofs.row.Row.beyond.Goals as goal

pub place-requires : goal.place-requires
place-requires g c = rising_seen g.K.Ord.cmp c.as_slice.result.now (subst (IsRising g.K.Ord.cmp) (sym (ap seen c.as_slice.ensures.value ∙ c.self.view_is)) c.requires)

pub returns-then-past : goal.returns-then-past
returns-then-past g c =
    let cmp = g.K.Ord.cmp in
    let k = c.args.key.now in
    let same = ap seen c.as_slice.ensures.value ∙ c.self.view_is in
    ap (slice_get c.args.self.now) (c.place.ensures.place ∙ sym (place_seen cmp k c.as_slice.result.now) ∙ ap (prefix_len (is_upto cmp k)) same)
    ∙ above_place g.met.K.Ord.total k c.args.self.now ∙ ap (λ b. find (is_beyond cmp b k) c.args.self.now) (sym c.if-past.true)

pub place_below-requires : goal.place_below-requires
place_below-requires g c = rising_seen g.K.Ord.cmp c.as_slice-2.result.now (subst (IsRising g.K.Ord.cmp) (sym (ap seen c.as_slice-2.ensures.value ∙ c.self.view_is)) c.requires)

pub returns : goal.returns
returns g c =
    let cmp = g.K.Ord.cmp in
    let k = c.args.key.now in
    let same = ap seen c.as_slice-2.ensures.value ∙ c.self.view_is in
    ap (slice_get c.args.self.now) (c.place_below.ensures.place ∙ sym (below_seen cmp k c.as_slice-2.result.now) ∙ ap (prefix_len (is_below cmp k)) same)
    ∙ from_place g.met.K.Ord.total k c.args.self.now ∙ ap (λ b. find (is_beyond cmp b k) c.args.self.now) (sym c.if-past.false)
