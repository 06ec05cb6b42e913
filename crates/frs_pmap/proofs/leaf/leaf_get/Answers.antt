use Rattle.std.proofs.Common.{◌∙◌, ◌-◌, sym, ap}
use Rattle.std.specs.Ordering.{is_eq}
use Rattle.frs_pmap.proofs.Leaves.{around, get_beside, get_none, get_there}
use Rattle.frs_pmap.proofs.leaf.leaf_get.Goals as goal
use Rattle.frs_pmap.proofs.leaf.leaf_get.Goals.{then-at-gt0+else-is_eq, else-at-gt0}

pub returns-then-is_eq : goal.returns-then-is_eq
returns-then-is_eq g c =
    let es = c.args.leaf.now in
    let x : g.row.K.Denot × g.row.V.Denot = (c.item-found.result.0, c.item-found.result.1.now) in
    let a = around g.met.K.Ord.total c.args.key.now es c.place-at.result x c.requires c.if-at-gt0.true c.place-at.ensures.place c.item-found.ensures in
    sym (get_there g.met.K.Ord.total c.args.key.now es (c.place-at.result - 1) x a (ap is_eq (sym c.cmp.ensures) ∙ sym c.is_eq.ensures ∙ c.if-is_eq.true))

pub returns : goal.returns
returns g c =
    let es = c.args.leaf.now in
    elim c.if-at-gt0.branch [
      | then-at-gt0+else-is_eq w ↦
          let x : g.row.K.Denot × g.row.V.Denot = (w.item-found.result.0, w.item-found.result.1.now) in
          let a = around g.met.K.Ord.total c.args.key.now es c.place-at.result x c.requires w.if-at-gt0.true c.place-at.ensures.place w.item-found.ensures in
          sym (get_beside g.met.K.Ord.total c.args.key.now es (c.place-at.result - 1) x a (ap is_eq (sym w.cmp.ensures) ∙ sym w.is_eq.ensures ∙ w.if-is_eq.false))
      | else-at-gt0 w ↦ sym (get_none g.met.K.Ord.total c.args.key.now es c.place-at.result c.requires w.if-at-gt0.false c.place-at.ensures.place)
    ]
