use Rattle.std.proofs.Common.{◌≡◌, sym, ap, subst, List}
use Rattle.frs_base.specs.Reserved.{reserved_of}
use Rattle.vol_state.specs.declared.object.Object.{Object}
use Rattle.vol_state.specs.Tree.{IsTree}
use Rattle.vol_state.specs.Effects.{edit, stamp, with_bytes}
use Rattle.vol_state.proofs.Hinted.{shelf_filled}
use Rattle.vol_state.proofs.shelf.Shelf.fill.Goals as goal

pub invariant_of-self : goal.invariant_of-self
invariant_of-self c =
    let e : (reserved_of c.self.inside.objects).items ≡ c.args.self.now.items = ap (λ s. s.items) c.self.view_is in
    let P : List Object → Type 0 = λ os. IsTree (edit c.args.fid (λ o. stamp c.args.local c.args.usn (with_bytes c.args.bytes o)) os) in
    rw c.fill_in.ensures (shelf_filled c.self.inside.own c.self.inside.places.links c.self.inside.uids.links (reserved_of c.self.inside.objects).items c.args.fid c.args.bytes c.args.local c.args.usn c.self.invariant (subst P (sym e) c.requires.tree))
