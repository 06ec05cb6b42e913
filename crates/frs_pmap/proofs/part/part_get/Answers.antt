use Rattle.std.proofs.Common.{◌≡◌, ◌∙◌, ◌-◌, ◌<◌, Some, ap, sym, subst, arith, length, refl}
use Rattle.std.specs.List.{prefix_len}
use Rattle.std.specs.Ordering.{is_eq}
use Rattle.std.proofs.lemmas.Option.{slice_get_read}
use Rattle.frs_pmap.specs.Entries.{IsRising, is_upto, seen}
use Rattle.frs_pmap.proofs.Places.{rising_seen}
use Rattle.frs_pmap.proofs.Slots.{slot_missing, slot_value}
use Rattle.frs_pmap.proofs.part.part_get.Goals as goal
use Rattle.frs_pmap.proofs.part.part_get.Goals.{then-at-gt0+else-is_eq, else-at-gt0}

pub place-at-requires : goal.place-at-requires
place-at-requires g c = rising_seen g.K.Ord.cmp c.as_slice.result.now (subst (λ l. IsRising g.K.Ord.cmp (seen l)) (sym c.as_slice.ensures.value) c.requires)

pub returns-then-is_eq : goal.returns-then-is_eq
returns-then-is_eq g c =
    let es = c.args.part.now.items.items in
    let at = c.place-at.result in
    let place : at ≡ prefix_len (is_upto g.K.Ord.cmp c.args.key.now) es = c.place-at.ensures.place ∙ ap (prefix_len (is_upto g.K.Ord.cmp c.args.key.now)) c.as_slice.ensures.value in
    let within : at - 1 < length es = omega (arith, c.place-at.ensures.within, ap length c.as_slice.ensures.value, c.if-at-gt0.true) in
    let got = slice_get_read es (length es) (at - 1) c.index-item.result.now refl within c.index-item.ensures in
    ap Some c.deref.ensures
    ∙ slot_value g.met.K.Ord.total c.args.key.now es at c.index-item.result.now c.requires c.if-at-gt0.true place got (ap is_eq (sym c.cmp.ensures) ∙ sym c.is_eq.ensures ∙ c.if-is_eq.true)

pub returns : goal.returns
returns g c =
    let es = c.args.part.now.items.items in
    let at = c.place-at.result in
    let place : at ≡ prefix_len (is_upto g.K.Ord.cmp c.args.key.now) es = c.place-at.ensures.place ∙ ap (prefix_len (is_upto g.K.Ord.cmp c.args.key.now)) c.as_slice.ensures.value in
    slot_missing g.met.K.Ord.total c.args.key.now es at c.requires place
    (λ some. elim c.if-at-gt0.branch [
      | then-at-gt0+else-is_eq w ↦
          let within : at - 1 < length es = omega (arith, c.place-at.ensures.within, ap length c.as_slice.ensures.value, some) in
          (w.index-item.result.now, slice_get_read es (length es) (at - 1) w.index-item.result.now refl within w.index-item.ensures, ap is_eq (sym w.cmp.ensures) ∙ sym w.is_eq.ensures ∙ w.if-is_eq.false)
      | else-at-gt0 w ↦ absurd (omega (arith, w.if-at-gt0.false, some))
    ])
