use Rattle.std.proofs.Common.{◌≡◌, ◌∙◌, ◌-◌, ◌<◌, ap, sym, subst, arith, length, refl, set}
use Rattle.std.specs.List.{prefix_len}
use Rattle.std.specs.Ordering.{is_eq}
use Rattle.std.proofs.lemmas.Option.{slice_get_read}
use Rattle.frs_pmap.specs.Entries.{IsRising, is_upto, seen}
use Rattle.frs_pmap.proofs.Places.{rising_seen}
use Rattle.frs_pmap.proofs.Slots.{one_read, slot_new, slot_over}
use Rattle.frs_pmap.proofs.part.part_put.Goals as goal
use Rattle.frs_pmap.proofs.part.part_put.Goals.{then-at-gt0+else-is_eq, else-at-gt0}

pub place-at-requires : goal.place-at-requires
place-at-requires g c = rising_seen g.K.Ord.cmp c.as_slice.result.now (subst (λ l. IsRising g.K.Ord.cmp (seen l)) (sym c.as_slice.ensures.value) c.requires.rising)

pub returns-then-is_eq-clause-put : goal.returns-then-is_eq-clause-put
returns-then-is_eq-clause-put g c =
    let es = c.args.part.now.items.items in
    let at = c.place-at.result in
    let place : at ≡ prefix_len (is_upto g.K.Ord.cmp c.args.key) es = c.place-at.ensures.place ∙ ap (prefix_len (is_upto g.K.Ord.cmp c.args.key)) c.as_slice.ensures.value in
    let within : at - 1 < length es = omega (arith, c.place-at.ensures.within, ap length c.as_slice.ensures.value, c.if-at-gt0.true) in
    let got = slice_get_read es (length es) (at - 1) c.index.result.now refl within c.index.ensures in
    let again = slice_get_read es (length es) (at - 1) c.index_mut.result.now refl within c.index_mut.ensures.value in
    ap (λ (y : g.row.K.Denot × _). seen (set es (at - 1) (y.0, c.args.value))) (one_read es (at - 1) c.index_mut.result.now c.index.result.now again got)
    ∙ slot_over g.met.K.Ord.total c.args.key c.args.value es at c.index.result.now c.requires.rising c.if-at-gt0.true place got
    (ap is_eq (sym c.cmp.ensures) ∙ sym c.is_eq.ensures ∙ c.if-is_eq.true)

pub returns-clause-put : goal.returns-clause-put
returns-clause-put g c =
    let es = c.args.part.now.items.items in
    let at = c.place-at.result in
    let place : at ≡ prefix_len (is_upto g.K.Ord.cmp c.args.key) es = c.place-at.ensures.place ∙ ap (prefix_len (is_upto g.K.Ord.cmp c.args.key)) c.as_slice.ensures.value in
    ap seen c.insert_reserved.ensures.items
    ∙ slot_new g.met.K.Ord.total c.args.key c.args.value es at c.requires.rising place
    (λ some. elim c.if-at-gt0.branch [
      | then-at-gt0+else-is_eq w ↦
          let within : at - 1 < length es = omega (arith, c.place-at.ensures.within, ap length c.as_slice.ensures.value, some) in
          (w.index.result.now, slice_get_read es (length es) (at - 1) w.index.result.now refl within w.index.ensures, ap is_eq (sym w.cmp.ensures) ∙ sym w.is_eq.ensures ∙ w.if-is_eq.false)
      | else-at-gt0 w ↦ absurd (omega (arith, w.if-at-gt0.false, some))
    ])
