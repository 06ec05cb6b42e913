use Rattle.std.proofs.Common.{◌≡◌, sym, ap, subst}
use Rattle.vol_state.specs.State.{State}
use Rattle.vol_state.specs.Tree.{IsTree}
use Rattle.vol_state.specs.Effects.{edited, edit, stamp, at_place}
use Rattle.vol_state.specs.Valid.{IsKept}
use Rattle.vol_state.proofs.Kept.{kept_place}
use Rattle.vol_state.proofs.volume.Volume.place_object.Goals as goal

pub place-requires-clause-tree : goal.place-requires-clause-tree
place-requires-clause-tree c =
    let v : State = record { own = c.self.inside.shelf.own; objects = c.self.inside.shelf.items; journal = c.self.inside.journal.items; next_fid = c.self.inside.next_fid; next_usn = c.self.inside.next_usn } in
    let e : v ≡ c.args.self.now.state = ap (λ s. s.state) c.self.view_is in
    let P : State → Type 0 = λ s. IsTree (edit c.args.fid (λ o. stamp c.args.local s.next_usn (at_place c.args.place o)) s.objects) in
    subst P (sym e) c.requires.valid.tree

pub invariant_of-self : goal.invariant_of-self
invariant_of-self c =
    let v : State = record { own = c.self.inside.shelf.own; objects = c.self.inside.shelf.items; journal = c.self.inside.journal.items; next_fid = c.self.inside.next_fid; next_usn = c.self.inside.next_usn } in
    let e : v ≡ c.args.self.now.state = ap (λ s. s.state) c.self.view_is in
    let Was : State → Type 0 = λ s. IsKept s c.self.inside.top_fid c.self.inside.top_usn in
    let Is : State → Type 0 = λ s. IsKept (edited c.args.op c.args.local c.args.fid (at_place c.args.place) s) c.self.inside.top_fid s.next_usn in
    rw (c.place.ensures.own, c.place.ensures.items, c.push.ensures, c.uid_found-uid.ensures, c.object_at.ensures, c.own.ensures)
    (subst Is (sym e) (kept_place c.args.op c.args.local c.args.fid c.args.place c.args.self.now.state c.self.inside.top_fid c.self.inside.top_usn (subst Was e c.self.invariant) c.requires.usn c.requires.there c.requires.valid))
