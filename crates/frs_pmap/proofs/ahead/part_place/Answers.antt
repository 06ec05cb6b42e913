use Rattle.std.proofs.Common.{◌∙◌, ap, sym, subst}
use Rattle.std.specs.Prelude.{find, slice_get}
use Rattle.std.specs.List.{prefix_len}
use Rattle.frs_pmap.specs.Entries.{IsRising, is_below, is_beyond, is_upto, seen}
use Rattle.frs_pmap.proofs.Firsts.{above_place, from_place}
use Rattle.frs_pmap.proofs.Places.{below_seen, place_seen, rising_seen}
use Rattle.frs_pmap.proofs.ahead.part_place.Goals as goal

pub place-requires : goal.place-requires
place-requires g c = rising_seen g.K.Ord.cmp c.as_slice.result.now (subst (λ l. IsRising g.K.Ord.cmp (seen l)) (sym c.as_slice.ensures.value) c.requires)

pub returns-then-past : goal.returns-then-past
returns-then-past g c =
    let cmp = g.K.Ord.cmp in
    let k = c.args.key.now in
    let es = c.args.part.now.items.items in
    ap (slice_get (seen es)) (c.place.ensures.place ∙ sym (place_seen cmp k c.as_slice.result.now) ∙ ap (λ l. prefix_len (is_upto cmp k) (seen l)) c.as_slice.ensures.value)
    ∙ above_place g.met.K.Ord.total k (seen es) ∙ ap (λ b. find (is_beyond cmp b k) (seen es)) (sym c.if-past.true)

pub place_below-requires : goal.place_below-requires
place_below-requires g c = rising_seen g.K.Ord.cmp c.as_slice-2.result.now (subst (λ l. IsRising g.K.Ord.cmp (seen l)) (sym c.as_slice-2.ensures.value) c.requires)

pub returns : goal.returns
returns g c =
    let cmp = g.K.Ord.cmp in
    let k = c.args.key.now in
    let es = c.args.part.now.items.items in
    ap (slice_get (seen es)) (c.place_below.ensures.place ∙ sym (below_seen cmp k c.as_slice-2.result.now) ∙ ap (λ l. prefix_len (is_below cmp k) (seen l)) c.as_slice-2.ensures.value)
    ∙ from_place g.met.K.Ord.total k (seen es) ∙ ap (λ b. find (is_beyond cmp b k) (seen es)) (sym c.if-past.false)
