-- The condition of a command that an operation resolves to holds.
use Rattle.std.proofs.Common.{◌≡◌, ℕ, Bool, true, false, eqb, leb, ltb, List, length, Option, Some, None, Ok, Err, refl, subst, arith}
use Rattle.std.proofs.lemmas.Bool.Decides.{nat_tests}
use Rattle.std.specs.Prelude.{if◌then◌else◌}
use Rattle.vol_state.specs.declared.object.Object.{Object}
use Rattle.vol_state.specs.declared.operation.LocalOp.{LocalOp}
use Rattle.vol_state.specs.declared.operation.LocalOp.TheVariants as op
use Rattle.vol_state.specs.declared.operation.Refused.TheVariants.{TooLarge, Looped, NameTaken, NotEmpty}
use Rattle.vol_state.specs.declared.command.VolCmd.{VolCmd}
use Rattle.vol_state.specs.declared.command.VolCmd.TheVariants.{PutNew, PutOver, Mkdir, Move, Remove}
use Rattle.frs_base.specs.Options.{none_or}
use Rattle.vol_state.specs.Places.{object_at, is_directory, child, has_children, is_beneath, is_reached}
use Rattle.vol_state.specs.Paths.{then_, home, last_name, largest, put_over, make_over, move_over, target, resolve_put, resolve_mkdir, resolve_move, resolve_remove, resolve}
use Rattle.vol_state.specs.State.{State}
use Rattle.vol_state.specs.Conditions.{is_allowed, is_open}
use Rattle.vol_state.specs.Valid.{IsVolume}
use Rattle.vol_state.proofs.Reaching.{steps, home_open, child_reached, target_reached}

put_allowed : (v : State) → IsVolume v → (path : List (List ℕ)) (bytes : List ℕ) (cmd : VolCmd) → resolve_put v.objects path bytes ≡ Ok cmd → is_allowed cmd v ≡ true
put_allowed v h path bytes cmd e = first (ltb largest (length bytes)) refl e
  where
    over : (o : Object) (b : Bool) → is_directory o.kind ≡ b → leb (length bytes) largest ≡ true → object_at v.objects o.fid ≡ Some o → is_reached v.objects o.fid ≡ true → (if b then Err NameTaken else Ok (PutOver o.fid bytes)) ≡ Ok cmd → is_allowed cmd v ≡ true
    over o true d l t r e = absurd (cc)
    over o false d l t r e =
        let s : PutOver o.fid bytes ≡ cmd = cc in
        subst (λ c. is_allowed c v ≡ true) s (rw l (rw t (rw d r)))

    last : (at : ℕ) → home v.objects path ≡ Ok at → leb (length bytes) largest ≡ true → (c : Option Object) → child v.objects at (last_name path) ≡ c → put_over bytes at (last_name path) c ≡ Ok cmd → is_allowed cmd v ≡ true
    last at w l None c e =
        let s : PutNew at (last_name path) bytes ≡ cmd = cc in
        let d = home_open v.objects h.tree path at w in
        subst (λ c. is_allowed c v ≡ true) s (rw l (rw d (rw c refl)))
    last at w l (Some o) c e = let t = child_reached v.objects h.tree path at (last_name path) o w c in over o (is_directory o.kind) refl l t.0 t.1 e

    first : (b : Bool) → ltb largest (length bytes) ≡ b → (if b then Err (TooLarge (length bytes)) else then_ (home v.objects path) (λ at. put_over bytes at (last_name path) (child v.objects at (last_name path)))) ≡ Ok cmd → is_allowed cmd v ≡ true
    first true b e = absurd (cc)
    first false b e =
        let (at, w, p) = steps (home v.objects path) (λ at. put_over bytes at (last_name path) (child v.objects at (last_name path))) cmd e in
        last at w (grind (arith, nat_tests)) (child v.objects at (last_name path)) refl p

mkdir_allowed : (v : State) → IsVolume v → (path : List (List ℕ)) (cmd : VolCmd) → resolve_mkdir v.objects path ≡ Ok cmd → is_allowed cmd v ≡ true
mkdir_allowed v h path cmd e =
    let (at, w, p) = steps (home v.objects path) (λ at. make_over at (last_name path) (child v.objects at (last_name path))) cmd e in
    last at (home_open v.objects h.tree path at w) (child v.objects at (last_name path)) refl p
  where
    last : (at : ℕ) → is_open v.objects at ≡ true → (c : Option Object) → child v.objects at (last_name path) ≡ c → make_over at (last_name path) c ≡ Ok cmd → is_allowed cmd v ≡ true
    last at d None c e =
        let s : Mkdir at (last_name path) ≡ cmd = cc in
        subst (λ c. is_allowed c v ≡ true) s (rw d (rw c refl))
    last at d (Some o) c e = absurd (cc)

remove_allowed : (v : State) → IsVolume v → (path : List (List ℕ)) (cmd : VolCmd) → resolve_remove v.objects path ≡ Ok cmd → is_allowed cmd v ≡ true
remove_allowed v h path cmd e =
    let (o, w, p) = steps (target v.objects path) (λ o. if has_children v.objects o.fid then Err NotEmpty else Ok (Remove o.fid)) cmd e in
    let t = target_reached v.objects h.tree path o w in
    last o t.0 t.1 (has_children v.objects o.fid) refl p
  where
    last : (o : Object) → object_at v.objects o.fid ≡ Some o → is_reached v.objects o.fid ≡ true → (b : Bool) → has_children v.objects o.fid ≡ b → (if b then Err NotEmpty else Ok (Remove o.fid)) ≡ Ok cmd → is_allowed cmd v ≡ true
    last o t r true b e = absurd (cc)
    last o t r false b e =
        let s : Remove o.fid ≡ cmd = cc in
        subst (λ c. is_allowed c v ≡ true) s (rw t (rw r (rw b refl)))

move_allowed : (v : State) → IsVolume v → (from to : List (List ℕ)) (cmd : VolCmd) → resolve_move v.objects from to ≡ Ok cmd → is_allowed cmd v ≡ true
move_allowed v h from to cmd e =
    let (o, w, p) = steps (target v.objects from) (λ o. then_ (home v.objects to) (λ at. if is_beneath v.objects o.fid at then Err Looped else move_over o.fid at (last_name to) (child v.objects at (last_name to)))) cmd e in
    let t = target_reached v.objects h.tree from o w in
    let (at, w', p') = steps (home v.objects to) (λ at. if is_beneath v.objects o.fid at then Err Looped else move_over o.fid at (last_name to) (child v.objects at (last_name to))) cmd p in
    under o at t.0 t.1 (home_open v.objects h.tree to at w') (is_beneath v.objects o.fid at) refl p'
  where
    done : (o : Object) (at : ℕ) → object_at v.objects o.fid ≡ Some o → is_reached v.objects o.fid ≡ true → is_open v.objects at ≡ true → is_beneath v.objects o.fid at ≡ false
        → none_or (λ x. eqb x.fid o.fid) (child v.objects at (last_name to)) ≡ true → Move o.fid at (last_name to) ≡ cmd → is_allowed cmd v ≡ true
    done o at t r d u n s = subst (λ c. is_allowed c v ≡ true) s (rw t (rw r (rw d (rw u n))))

    same : (o x : Object) (at : ℕ) (b : Bool) → eqb x.fid o.fid ≡ b → (if b then Ok (Move o.fid at (last_name to)) else Err NameTaken) ≡ Ok cmd → (eqb x.fid o.fid ≡ true) × (Move o.fid at (last_name to) ≡ cmd)
    same o x at true b e = (b, cc)
    same o x at false b e = absurd (cc)

    over : (o : Object) (at : ℕ) → object_at v.objects o.fid ≡ Some o → is_reached v.objects o.fid ≡ true → is_open v.objects at ≡ true → is_beneath v.objects o.fid at ≡ false
        → (c : Option Object) → child v.objects at (last_name to) ≡ c → move_over o.fid at (last_name to) c ≡ Ok cmd → is_allowed cmd v ≡ true
    over o at t r d u None c e = done o at t r d u (rw c refl) (cc)
    over o at t r d u (Some x) c e = let s = same o x at (eqb x.fid o.fid) refl e in done o at t r d u (rw c s.0) s.1

    under : (o : Object) (at : ℕ) → object_at v.objects o.fid ≡ Some o → is_reached v.objects o.fid ≡ true → is_open v.objects at ≡ true
        → (b : Bool) → is_beneath v.objects o.fid at ≡ b → (if b then Err Looped else move_over o.fid at (last_name to) (child v.objects at (last_name to))) ≡ Ok cmd → is_allowed cmd v ≡ true
    under o at t r d true u e = absurd (cc)
    under o at t r d false u e = over o at t r d u (child v.objects at (last_name to)) refl e

-- each row of the table
pub resolve_allowed : (v : State) → IsVolume v → (operation : LocalOp) (cmd : VolCmd) → resolve v.objects operation ≡ Ok cmd → is_allowed cmd v ≡ true
resolve_allowed v h (op.Put path bytes) cmd e = put_allowed v h path bytes cmd e
resolve_allowed v h (op.Mkdir path) cmd e = mkdir_allowed v h path cmd e
resolve_allowed v h (op.Move from to) cmd e = move_allowed v h from to cmd e
resolve_allowed v h (op.Remove path) cmd e = remove_allowed v h path cmd e
