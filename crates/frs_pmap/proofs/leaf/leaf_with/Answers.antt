use Rattle.std.proofs.Common.{◌∙◌, sym, ap, arith}
use Rattle.std.specs.Ordering.{is_eq}
use Rattle.frs_pmap.proofs.Leaves.{put_new, put_over}
use Rattle.frs_pmap.proofs.leaf.leaf_with.Goals as goal
use Rattle.frs_pmap.proofs.leaf.leaf_with.Goals.{then-at-gt0+else-is_eq, else-at-gt0}

pub returns-then-is_eq : goal.returns-then-is_eq
returns-then-is_eq g c =
    put_over g.met.K.Ord.total c.args.key c.args.value c.args.leaf.now c.place-at.result (c.item-found.result.0, c.item-found.result.1.now) c.len-len.result _ _ _ _ c.len-len.ensures c.requires c.if-at-gt0.true c.place-at.ensures.place c.item-found.ensures
    (ap is_eq (sym c.cmp.ensures) ∙ sym c.is_eq.ensures ∙ c.if-is_eq.true) c.in_ok-row.ensures c.in_ok-extend.ensures c.in_ok-push.ensures c.in_ok-extend-2.ensures

pub returns : goal.returns
returns g c =
    put_new g.met.K.Ord.total c.args.key c.args.value c.args.leaf.now c.place-at.result c.len-len.result _ _ _ _ c.len-len.ensures c.requires c.place-at.ensures.place
    (λ some. elim c.if-at-gt0.branch [
      | then-at-gt0+else-is_eq w ↦ ((w.item-found.result.0, w.item-found.result.1.now), w.item-found.ensures, ap is_eq (sym w.cmp.ensures) ∙ sym w.is_eq.ensures ∙ w.if-is_eq.false)
      | else-at-gt0 w ↦ absurd (omega (arith, w.if-at-gt0.false))
    ]) c.in_ok-row.ensures c.in_ok-extend-3.ensures c.in_ok-push-2.ensures c.in_ok-extend-4.ensures
