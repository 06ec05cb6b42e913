use Rattle.std.proofs.Common.{◌≡◌, ◌∷◌, ◌++◌, [], max, sym, ap, subst}
use Rattle.vol_state.specs.State.{State}
use Rattle.vol_state.specs.Numbers.{own_version}
use Rattle.vol_state.specs.Tree.{IsTree}
use Rattle.vol_state.specs.Effects.{added, new_object}
use Rattle.vol_state.specs.Valid.{IsKept}
use Rattle.vol_state.proofs.Kept.{kept_added}
use Rattle.vol_state.proofs.volume.Volume.add.Goals as goal

pub add-requires-clause-tree : goal.add-requires-clause-tree
add-requires-clause-tree c =
    let v : State = record { own = c.self.inside.shelf.own; objects = c.self.inside.shelf.items; journal = c.self.inside.journal.items; next_fid = c.self.inside.next_fid; next_usn = c.self.inside.next_usn } in
    let e : v ≡ c.args.self.now.state = ap (λ s. s.state) c.self.view_is in
    let P : State → Type 0 = λ s. IsTree (s.objects ++ new_object s c.args.place c.args.kind c.args.bytes c.args.tag c.args.local ∷ []) in
    rw (c.first_local.ensures, c.sum_with-sum.ensures) (subst P (sym e) c.requires.valid.tree)

pub invariant_of-self : goal.invariant_of-self
invariant_of-self c =
    let v : State = record { own = c.self.inside.shelf.own; objects = c.self.inside.shelf.items; journal = c.self.inside.journal.items; next_fid = c.self.inside.next_fid; next_usn = c.self.inside.next_usn } in
    let e : v ≡ c.args.self.now.state = ap (λ s. s.state) c.self.view_is in
    let Is : State → Type 0 = λ s. IsKept (added c.args.op c.args.local (new_object s c.args.place c.args.kind c.args.bytes c.args.tag c.args.local) s) s.next_fid (max s.next_usn (own_version s.own c.args.tag)) in
    rw (c.add.ensures.own, c.add.ensures.items, c.push.ensures, c.max-self-inside.ensures, c.own_version.ensures, c.uid-uid.ensures, c.own-own.ensures, c.first_local.ensures, c.sum_with-sum.ensures)
    (subst Is (sym e) (kept_added c.args.op c.args.local c.args.place c.args.kind c.args.bytes c.args.tag c.args.self.now.state c.requires.usn c.requires.fid c.requires.valid))
