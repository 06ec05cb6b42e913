use Rattle.std.proofs.Common.{◌≡◌, sym, ap, subst}
use Rattle.vol_state.specs.State.{State}
use Rattle.vol_state.specs.Tree.{IsTree}
use Rattle.vol_state.specs.Effects.{edited, edit, stamp, with_bytes}
use Rattle.vol_state.specs.Valid.{IsKept}
use Rattle.vol_state.proofs.Kept.{kept_fill}
use Rattle.vol_state.proofs.volume.Volume.fill_object.Goals as goal

pub fill-requires-clause-tree : goal.fill-requires-clause-tree
fill-requires-clause-tree c =
    let v : State = record { own = c.self.inside.shelf.own; objects = c.self.inside.shelf.items; journal = c.self.inside.journal.items; next_fid = c.self.inside.next_fid; next_usn = c.self.inside.next_usn } in
    let e : v ≡ c.args.self.now.state = ap (λ s. s.state) c.self.view_is in
    let P : State → Type 0 = λ s. IsTree (edit c.args.fid (λ o. stamp c.args.local s.next_usn (with_bytes c.args.bytes o)) s.objects) in
    subst P (sym e) c.requires.valid.tree

pub invariant_of-self : goal.invariant_of-self
invariant_of-self c =
    let v : State = record { own = c.self.inside.shelf.own; objects = c.self.inside.shelf.items; journal = c.self.inside.journal.items; next_fid = c.self.inside.next_fid; next_usn = c.self.inside.next_usn } in
    let e : v ≡ c.args.self.now.state = ap (λ s. s.state) c.self.view_is in
    let Was : State → Type 0 = λ s. IsKept s c.self.inside.top_fid c.self.inside.top_usn in
    let Is : State → Type 0 = λ s. IsKept (edited c.args.op c.args.local c.args.fid (with_bytes c.args.bytes) s) c.self.inside.top_fid s.next_usn in
    rw (c.fill.ensures.own, c.fill.ensures.items, c.push.ensures, c.uid_found-uid.ensures, c.object_at.ensures, c.own.ensures)
    (subst Is (sym e) (kept_fill c.args.op c.args.local c.args.fid c.args.bytes c.args.self.now.state c.self.inside.top_fid c.self.inside.top_usn (subst Was e c.self.invariant) c.requires.usn c.requires.there c.requires.valid))
