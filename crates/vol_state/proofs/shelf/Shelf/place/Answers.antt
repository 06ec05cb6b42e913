use Rattle.std.proofs.Common.{◌≡◌, sym, ap, subst, List}
use Rattle.frs_base.specs.Reserved.{reserved_of}
use Rattle.vol_state.specs.declared.object.Object.{Object}
use Rattle.vol_state.specs.Tree.{IsTree}
use Rattle.vol_state.specs.Effects.{at_place, edit, stamp}
use Rattle.vol_state.specs.Hints.{AreHinted, place_keys}
use Rattle.vol_state.proofs.Hinted.{shelf_placed}
use Rattle.vol_state.proofs.shelf.Shelf.place.Goals as goal

pub invariant_of-self : goal.invariant_of-self
invariant_of-self c =
    let e : (reserved_of c.self.inside.objects).items ≡ c.args.self.now.items = ap (λ s. s.items) c.self.view_is in
    let P : List Object → Type 0 = λ os. IsTree (edit c.args.fid (λ o. stamp c.args.local c.args.usn (at_place c.args.place o)) os) in
    rw c.place_in.ensures (shelf_placed c.self.inside.own c.self.inside.places.links c.self.inside.uids.links c.hint_place.new.hints.links (reserved_of c.self.inside.objects).items c.args.fid c.args.place c.args.local c.args.usn c.self.invariant
    (subst (AreHinted place_keys c.hint_place.new.hints.links) c.objects_in.ensures c.hint_place.ensures.hinted)
    c.hint_place.ensures.there
    (subst P (sym e) c.requires.tree))
