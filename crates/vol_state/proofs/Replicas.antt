-- The condition of a command of a replica operation holds.
use Rattle.std.proofs.Common.{◌≡◌, ◌&&◌, not, ℕ, Bool, true, false, List, Option, Some, None, refl, ap, ◌∙◌, subst}
use Rattle.std.specs.Prelude.{IsSome}
use Rattle.frs_base.specs.declared.version.Uid.{Uid}
use Rattle.frs_base.specs.Versions.{same_uid}
use Rattle.vol_state.specs.declared.object.Object.{Object}
use Rattle.vol_state.specs.declared.command.VolCmd.{VolCmd}
use Rattle.vol_state.specs.declared.command.VolCmd.TheVariants as cmd
use Rattle.frs_base.specs.Options.{some_is}
use Rattle.vol_state.specs.Places.{object_at, has_children}
use Rattle.vol_state.specs.State.{State, uid_of, object_of}
use Rattle.vol_state.specs.Conditions.{is_allowed, is_placed, is_in_limbo, is_file, can_stand, can_make}
use Rattle.vol_state.specs.Replica.{ReplicaOp, Park, Erase, Make, Rewrite, Place, only_if, and_then, parent_fid, replica}
use Rattle.vol_state.specs.Valid.{IsVolume}
use Rattle.vol_state.proofs.Finding.{in_at}
use Rattle.vol_state.proofs.Volumes.{both, find_in}

-- the object with a UID is the one with its number
pub object_of_at : (v : State) → IsVolume v → (uid : Uid) (o : Object) → object_of v uid ≡ Some o → object_at v.objects o.fid ≡ Some o
object_of_at v h uid o e = in_at 0 o v.objects h.tree.rising (find_in (λ x. same_uid (uid_of v.own x) uid) v.objects o e).0

-- both were there
and_some : {A B : Type 0} (x : Option A) (next : A → Option B) (b : B) → and_then x next ≡ Some b → (a : A) × (x ≡ Some a) × (next a ≡ Some b)
and_some None next b e = absurd (cc)
and_some (Some a) next b e = (a, refl, e)

held : (condition : Bool) (made c : VolCmd) → only_if condition made ≡ Some c → (condition ≡ true) × (made ≡ c)
held true made c e = (refl, cc)
held false made c e = absurd (cc)

tested : (v : State) → IsVolume v → (uid : Uid) (o : Object) (test : Object → Bool) → object_of v uid ≡ Some o → test o ≡ true → some_is test (object_at v.objects o.fid) ≡ true
tested v h uid o test e t = ap (some_is test) (object_of_at v h uid o e) ∙ t

as_made : (v : State) (made c : VolCmd) → made ≡ c → is_allowed made v ≡ true → is_allowed c v ≡ true
as_made v made c is a = subst (λ x. is_allowed x v ≡ true) is a

-- each row of the table
pub replica_allowed : (v : State) → IsVolume v → (operation : ReplicaOp) (c : VolCmd) → replica v operation ≡ Some c → is_allowed c v ≡ true
replica_allowed v h (Park uid) c e =
    let (o, there, made) = and_some (object_of v uid) (λ o. only_if (is_placed o) (cmd.Park o.fid)) c e in
    let (test, is) = held (is_placed o) (cmd.Park o.fid) c made in
    as_made v (cmd.Park o.fid) c is (tested v h uid o is_placed there test)
replica_allowed v h (Erase uid) c e =
    let (o, there, made) = and_some (object_of v uid) (λ o. only_if (is_in_limbo o && not (has_children v.objects o.fid)) (cmd.Erase o.fid)) c e in
    let (test, is) = held (is_in_limbo o && not (has_children v.objects o.fid)) (cmd.Erase o.fid) c made in
    let (limbo, bare) = both (is_in_limbo o) (not (has_children v.objects o.fid)) test in
    as_made v (cmd.Erase o.fid) c is (rw (tested v h uid o is_in_limbo there limbo) bare)
replica_allowed v h (Make uid kind bytes) c e =
    let (test, is) = held (can_make uid kind bytes v) (cmd.Make uid kind bytes) c e in
    as_made v (cmd.Make uid kind bytes) c is test
replica_allowed v h (Rewrite uid bytes) c e =
    let (o, there, made) = and_some (object_of v uid) (λ o. only_if (is_file o) (cmd.Rewrite o.fid bytes)) c e in
    let (test, is) = held (is_file o) (cmd.Rewrite o.fid bytes) c made in
    as_made v (cmd.Rewrite o.fid bytes) c is (tested v h uid o is_file there test)
replica_allowed v h (Place uid parent name) c e =
    let (o, there, rest) = and_some (object_of v uid) (λ o. and_then (parent_fid v parent) (λ at. only_if (is_in_limbo o && can_stand v.objects o.fid at name) (cmd.Place o.fid at name))) c e in
    let (at, _, made) = and_some (parent_fid v parent) (λ at. only_if (is_in_limbo o && can_stand v.objects o.fid at name) (cmd.Place o.fid at name)) c rest in
    let (test, is) = held (is_in_limbo o && can_stand v.objects o.fid at name) (cmd.Place o.fid at name) c made in
    let (limbo, stands) = both (is_in_limbo o) (can_stand v.objects o.fid at name) test in
    as_made v (cmd.Place o.fid at name) c is (rw (tested v h uid o is_in_limbo there limbo) stands)

only_held : (condition : Bool) (made : VolCmd) → IsSome (only_if condition made) → only_if condition made ≡ Some made
only_held true made s = refl
only_held false made s = absurd (cc)

-- a place that is answered is the one of the row
pub place_is : (v : State) (uid parent : Uid) (name : List ℕ) (o : Object) (at : ℕ) → object_of v uid ≡ Some o → parent_fid v parent ≡ Some at → IsSome (replica v (Place uid parent name)) → replica v (Place uid parent name) ≡ Some (cmd.Place o.fid at name)
place_is v uid parent name o at there home s =
    let Row : Object → Option VolCmd = λ x. and_then (parent_fid v parent) (λ y. only_if (is_in_limbo x && can_stand v.objects x.fid y name) (cmd.Place x.fid y name)) in
    let last : ℕ → Option VolCmd = λ y. only_if (is_in_limbo o && can_stand v.objects o.fid y name) (cmd.Place o.fid y name) in
    let e : replica v (Place uid parent name) ≡ last at = ap (λ x. and_then x Row) there ∙ ap (λ y. and_then y last) home in
    e ∙ only_held (is_in_limbo o && can_stand v.objects o.fid at name) (cmd.Place o.fid at name) (subst IsSome e s)
