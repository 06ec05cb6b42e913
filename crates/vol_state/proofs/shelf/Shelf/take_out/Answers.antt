use Rattle.std.proofs.Common.{◌≡◌, sym, ap, subst, List}
use Rattle.frs_base.specs.Reserved.{reserved_of}
use Rattle.vol_state.specs.declared.object.Object.{Object}
use Rattle.vol_state.specs.Tree.{IsTree}
use Rattle.vol_state.specs.Effects.{without}
use Rattle.vol_state.proofs.Hinted.{shelf_without}
use Rattle.vol_state.proofs.shelf.Shelf.take_out.Goals as goal

pub invariant_of-self : goal.invariant_of-self
invariant_of-self c =
    let e : (reserved_of c.self.inside.objects).items ≡ c.args.self.now.items = ap (λ s. s.items) c.self.view_is in
    let P : List Object → Type 0 = λ os. IsTree (without c.args.fid os) in
    rw c.take_from.ensures (shelf_without c.self.inside.own c.self.inside.places.links c.self.inside.uids.links (reserved_of c.self.inside.objects).items c.args.fid c.self.invariant (subst P (sym e) c.requires.tree))
