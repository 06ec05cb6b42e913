use Rattle.std.proofs.Common.{◌≡◌, ◌∙◌, ◌-◌, ◌<◌, ap, sym, subst, arith, length, refl}
use Rattle.std.specs.List.{prefix_len}
use Rattle.std.specs.Ordering.{is_eq}
use Rattle.std.proofs.lemmas.Option.{slice_get_read}
use Rattle.frs_pmap.specs.Entries.{IsRising, is_upto, seen}
use Rattle.frs_pmap.proofs.Places.{rising_seen}
use Rattle.frs_pmap.proofs.Slots.{slot_cut, slot_stays}
use Rattle.frs_pmap.proofs.part.part_cut.Goals as goal

pub place-at-requires : goal.place-at-requires
place-at-requires g c = rising_seen g.K.Ord.cmp c.as_slice.result.now (subst (λ l. IsRising g.K.Ord.cmp (seen l)) (sym c.as_slice.ensures.value) c.requires)

pub returns-then-is_eq-clause-cut : goal.returns-then-is_eq-clause-cut
returns-then-is_eq-clause-cut g c =
    let es = c.args.part.now.items.items in
    let at = c.place-at.result in
    let place : at ≡ prefix_len (is_upto g.K.Ord.cmp c.args.key.now) es = c.place-at.ensures.place ∙ ap (prefix_len (is_upto g.K.Ord.cmp c.args.key.now)) c.as_slice.ensures.value in
    let within : at - 1 < length es = omega (arith, c.place-at.ensures.within, ap length c.as_slice.ensures.value, c.if-at-gt0.true) in
    let got = slice_get_read es (length es) (at - 1) c.index.result.now refl within c.index.ensures in
    ap seen c.remove.ensures.items
    ∙ slot_cut g.met.K.Ord.total c.args.key.now es at c.index.result.now c.requires c.if-at-gt0.true place got
    (ap is_eq (sym c.cmp.ensures) ∙ sym c.is_eq.ensures ∙ c.if-is_eq.true)

pub returns-else-is_eq-clause-cut : goal.returns-else-is_eq-clause-cut
returns-else-is_eq-clause-cut g c =
    let es = c.args.part.now.items.items in
    let at = c.place-at.result in
    let place : at ≡ prefix_len (is_upto g.K.Ord.cmp c.args.key.now) es = c.place-at.ensures.place ∙ ap (prefix_len (is_upto g.K.Ord.cmp c.args.key.now)) c.as_slice.ensures.value in
    let within : at - 1 < length es = omega (arith, c.place-at.ensures.within, ap length c.as_slice.ensures.value, c.if-at-gt0.true) in
    let got = slice_get_read es (length es) (at - 1) c.index.result.now refl within c.index.ensures in
    slot_stays g.met.K.Ord.total c.args.key.now es at c.requires place (λ some. (c.index.result.now, got, ap is_eq (sym c.cmp.ensures) ∙ sym c.is_eq.ensures ∙ c.if-is_eq.false))

pub returns-else-at-gt0-clause-cut : goal.returns-else-at-gt0-clause-cut
returns-else-at-gt0-clause-cut g c =
    let es = c.args.part.now.items.items in
    let at = c.place-at.result in
    let place : at ≡ prefix_len (is_upto g.K.Ord.cmp c.args.key.now) es = c.place-at.ensures.place ∙ ap (prefix_len (is_upto g.K.Ord.cmp c.args.key.now)) c.as_slice.ensures.value in
    slot_stays g.met.K.Ord.total c.args.key.now es at c.requires place (λ some. absurd (omega (arith, c.if-at-gt0.false, some)))
