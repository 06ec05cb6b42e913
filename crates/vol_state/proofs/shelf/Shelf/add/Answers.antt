use Rattle.std.proofs.Common.{◌≡◌, ◌∷◌, ◌++◌, [], sym, ap, subst, List}
use Rattle.frs_base.specs.Reserved.{reserved_of}
use Rattle.vol_state.specs.declared.object.Object.{Object}
use Rattle.vol_state.specs.Tree.{IsTree}
use Rattle.vol_state.specs.Hints.{AreHinted, Leads, place_keys, uid_key, uid_keys}
use Rattle.vol_state.proofs.Hinted.{shelf_pushed}
use Rattle.vol_state.proofs.shelf.Shelf.add.Goals as goal

pub invariant_of-self : goal.invariant_of-self
invariant_of-self c =
    let e : (reserved_of c.self.inside.objects).items ≡ c.args.self.now.items = ap (λ s. s.items) c.self.view_is in
    let P : List Object → Type 0 = λ os. IsTree (os ++ c.args.object ∷ []) in
    rw c.add_to.ensures (shelf_pushed c.self.inside.own c.self.inside.places.links c.self.inside.uids.links c.hint_place.new.hints.links c.hint_uid.new.hints.links (reserved_of c.self.inside.objects).items c.args.object c.self.invariant
    (subst (AreHinted place_keys c.hint_place.new.hints.links) c.objects_in-objects.ensures c.hint_place.ensures.hinted)
    c.hint_place.ensures.there
    (subst (AreHinted (uid_keys c.self.inside.own) c.hint_uid.new.hints.links) c.objects_in-objects.ensures c.hint_uid.ensures.hinted)
    (subst (λ u. Leads c.hint_uid.new.hints.links (uid_key u) c.args.object.fid) c.uid-uid.ensures c.hint_uid.ensures.there)
    (subst P (sym e) c.requires.tree))
