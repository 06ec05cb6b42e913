-- The next step of the installer may be done.
use Rattle.std.proofs.Common.{◌≡◌, ◌≢◌, cond, ◌&&◌, ℕ, Bool, true, false, not, List, [], Option, Some, None, Result, Ok, Err, refl, sym, ap, ◌∙◌, subst, inl, inr}
use Rattle.std.specs.Prelude.{IfOk, IsSome, MatchOption, option_map}
use Rattle.std.specs.declared.alloc.AllocError.{AllocError}
use Rattle.frs_base.specs.Options.{In, some_is}
use Rattle.frs_base.specs.declared.kind.Kind.TheVariants as kind
use Rattle.frs_base.specs.declared.version.Uid.{Uid}
use Rattle.frs_base.specs.Versions.{same_uid}
use Rattle.win_order.specs.declared.update.Update.{Update}
use Rattle.vol_state.specs.declared.command.VolCmd.{VolCmd}
use Rattle.vol_state.specs.declared.command.VolCmd.TheVariants as vol
use Rattle.vol_state.specs.declared.object.Object.{Object}
use Rattle.vol_state.specs.Conditions.{can_stand, is_allowed, is_file as is_file_object, is_in_limbo, is_placed, root_uid}
use Rattle.vol_state.specs.Effects.{uid_at, uid_found}
use Rattle.vol_state.specs.Maps.{maps_of}
use Rattle.vol_state.specs.Places.{has_children}
use Rattle.vol_state.specs.Replica.{and_then, only_if, parent_fid, replica}
use Rattle.vol_state.specs.Replica as rep
use Rattle.vol_state.specs.State.{object_of, uid_of}
use Rattle.vol_state.specs.Sums.{content_sum}
use Rattle.vol_state.specs.Tables.{IsAt, IsReplica}
use Rattle.vol_state.proofs.Finding.{at_in}
use Rattle.vol_state.proofs.Tabling.{tables_are_tests}
use Rattle.record_db.specs.State.{form_of}
use Rattle.record_db.proofs.Lists.{find_at}
use Rattle.record_db.proofs.Keys.{same_uid_is, same_uid_refl}
use Rattle.name_rules.specs.Recorded.{held_of, parent_uid}
use Rattle.name_rules.specs.Next.{IsAnswer, IsCandidate, IsThere}
use Rattle.name_rules.specs.Shown.{Among}
use Rattle.name_rules.specs.Tree.{kind_of}
use Rattle.name_rules.specs.declared.step.Next.{Next}
use Rattle.name_rules.specs.declared.step.Next.TheVariants as next
use Rattle.name_rules.specs.declared.step.Step.{Step}
use Rattle.name_rules.specs.declared.step.Step.TheVariants.{Erase, Make, Park, Place, Rewrite}
use Rattle.name_rules.proofs.Parents.{parent_is}
use Rattle.name_rules.proofs.Showing.{shown_record}
use Rattle.install_plan.specs.Done.{Needs}
use Rattle.install_plan.specs.Staged.{staged_hash, staged_hashes}
use Rattle.world_model.specs.Folder.{AreStaged, GivesStaged}
use Rattle.world_model.proofs.Alone.{has_home, steps_fit}
use Rattle.world_model.proofs.Progress.{HasHome}
use Rattle.folder_core.specs.Install.{GivesContents, HasRecord, IsNextOf, IsOperation, IsRecordOf, MayInstall, contents_in}
use Rattle.folder_core.specs.Machine.{Machine}
use Rattle.folder_core.specs.Notes.{form_sum}
use Rattle.folder_core.specs.Sound.{IsSound, member_of, staged_sums}
use Rattle.folder_core.proofs.Alike.{stands_for_maps}
use Rattle.folder_core.proofs.Fitting.{object_found}
use Rattle.folder_core.proofs.Giving.{sum_is}

-- ---- contents

-- the contents in the form that is staged of a file have the sum that is staged
contents_staged : (m : Machine) → IsSound m → (uid : Uid) (bytes : List ℕ) → bytes ≡ contents_in (form_of m.book uid) → AreStaged (member_of m) uid bytes
contents_staged m h uid bytes is = by (form_of m.book uid) refl
  where
    by : (form : Option (List ℕ)) → form_of m.book uid ≡ form → MatchOption (option_map form_sum form) (bytes ≡ []) (λ sum. content_sum kind.File bytes ≡ sum)
    by None e = is ∙ ap contents_in e
    by (Some form) e =
        let stageable = h.forms uid form e in
        let same : bytes ≡ stageable.contents = is ∙ (ap contents_in e ∙ stageable.is.behind) in
        ap (content_sum kind.File) same ∙ (sum_is stageable.contents ∙ ap form_sum (sym stageable.spelled))

gives_staged : (m : Machine) → IsSound m → (op : VolCmd) → GivesContents m op → GivesStaged m.book.own (member_of m) op
gives_staged m h (vol.PutNew parent name bytes) is = tt
gives_staged m h (vol.PutOver fid bytes) is = tt
gives_staged m h (vol.Mkdir parent name) is = tt
gives_staged m h (vol.Move fid parent name) is = tt
gives_staged m h (vol.Remove fid) is = tt
gives_staged m h (vol.Park fid) is = tt
gives_staged m h (vol.Erase fid) is = tt
gives_staged m h (vol.Make uid kind bytes) is = contents_staged m h uid bytes is
gives_staged m h (vol.Rewrite fid bytes) is = λ o at.
    subst (λ id. AreStaged (member_of m) id bytes) (ap (uid_found m.volume.own) at ∙ ap (λ own. uid_of own o) h.order.own) (contents_staged m h (uid_at m.volume fid) bytes is)
gives_staged m h (vol.Place fid parent name) is = tt

-- ---- conditions

-- the operation of the next step may be done
pub may_install : (m : Machine) → IsSound m → (step : Step) (op : VolCmd) → IsNextOf m (next.Do step) → IsOperation m step op → MayInstall m op
may_install m h step op (quiet, n) is =
    let (due, ok) = steps_fit m.book.own (member_of m) m.book.records h.agrees quiet step op n is.of_step (gives_staged m h op is.contents) in
    record { quiet = quiet; due = due; replica = ok }

-- so the volume's test of it holds
pub allowed_of : (m : Machine) → IsSound m → (op : VolCmd) → MayInstall m op → is_allowed op m.volume ≡ true
allowed_of m h op may =
    tables_are_tests op m.volume (maps_of m.volume) h.order.volume h.order.free (stands_for_maps m.volume) (inr (subst (λ own. IsReplica own (maps_of m.volume) op) (sym h.order.own) may.replica))

-- ---- commands

-- a step whose command the volume gives
pub record IsReady (m : Machine) (step : Step) (of : rep.ReplicaOp) : Type 0 where
  pub op : VolCmd
  pub is : IsOperation m step op
  pub given : replica m.volume of ≡ Some op

both_true : (a b : Bool) → (a && b) ≡ true → (a ≡ true) × (b ≡ true)
both_true true true e = (refl, refl)
both_true true false e = absurd (cc)
both_true false b e = absurd (cc)

given_if : (b : Bool) (op : VolCmd) → b ≡ true → only_if b op ≡ Some op
given_if true op e = refl
given_if false op e = absurd (cc)

-- the object of a file, and its number
there : (m : Machine) → IsSound m → (uid : Uid) (fid : ℕ) (o : Object) → IsAt (maps_of m.volume) fid o → uid_of m.book.own o ≡ uid → object_of m.volume uid ≡ Some o
there m h uid fid o at is = object_found m.volume h.order.volume fid o uid at (ap (λ own. uid_of own o) h.order.own ∙ is)

number : (m : Machine) (fid : ℕ) (o : Object) → IsAt (maps_of m.volume) fid o → o.fid ≡ fid
number m fid o at = (at_in fid o m.volume.objects at).1

-- the operation of a next step may be done, by the volume's test
pub test_of : (m : Machine) → IsSound m → (step : Step) (op : VolCmd) → IsNextOf m (next.Do step) → IsOperation m step op → is_allowed op m.volume ≡ true
test_of m h step op n is = allowed_of m h op (may_install m h step op n is)

pub parks : (m : Machine) → IsSound m → (uid : Uid) → IsNextOf m (next.Do (Park uid)) → IsReady m (Park uid) (rep.Park uid)
parks m h uid (quiet, n) =
    let (f, o, p, at, is, place, out) = n.candidate in
    let operation : IsOperation m (Park uid) (vol.Park f) = record { of_step = (f, o, at, is, refl); contents = tt } in
    let test : is_placed o ≡ true = ap (λ x. some_is is_placed x) (sym at) ∙ test_of m h (Park uid) (vol.Park f) (quiet, n) operation in
    record {
      op = vol.Park f;
      is = operation;
      given = ap (λ x. and_then x (λ q. only_if (is_placed q) (vol.Park q.fid))) (there m h uid f o at is) ∙ (given_if (is_placed o) (vol.Park o.fid) test ∙ ap (λ k. Some (vol.Park k)) (number m f o at));
    }

pub erases : (m : Machine) → IsSound m → (uid : Uid) → IsNextOf m (next.Do (Erase uid)) → IsReady m (Erase uid) (rep.Erase uid)
erases m h uid (quiet, n) =
    let (f, o, u, at, is, r, id, absent) = n.candidate in
    let operation : IsOperation m (Erase uid) (vol.Erase f) = record { of_step = (f, o, at, is, refl); contents = tt } in
    let tests : (some_is is_in_limbo (Some o) && not (has_children m.volume.objects f)) ≡ true =
    ap (λ x. some_is is_in_limbo x && not (has_children m.volume.objects f)) (sym at) ∙ test_of m h (Erase uid) (vol.Erase f) (quiet, n) operation in
    record {
      op = vol.Erase f;
      is = operation;
      given = ap (λ x. and_then x (λ q. only_if (is_in_limbo q && not (has_children m.volume.objects q.fid)) (vol.Erase q.fid))) (there m h uid f o at is)
          ∙ (ap (λ k. only_if (is_in_limbo o && not (has_children m.volume.objects k)) (vol.Erase k)) (number m f o at) ∙ given_if (is_in_limbo o && not (has_children m.volume.objects f)) (vol.Erase f) tests);
    }

pub makes : (m : Machine) → IsSound m → (uid : Uid) (u : Update) (bytes : List ℕ) → IsNextOf m (next.Do (Make uid)) → IsRecordOf m uid u → bytes ≡ contents_in (form_of m.book uid)
    → IsReady m (Make uid) (rep.Make uid (kind_of u) bytes)
makes m h uid u bytes n (r, id) is =
    let operation : IsOperation m (Make uid) (vol.Make uid (kind_of u) bytes) = record { of_step = (u, bytes, r, id, refl); contents = is } in
    record {
      op = vol.Make uid (kind_of u) bytes;
      is = operation;
      given = given_if _ (vol.Make uid (kind_of u) bytes) (test_of m h (Make uid) (vol.Make uid (kind_of u) bytes) n operation);
    }

pub rewrites : (m : Machine) → IsSound m → (uid : Uid) (bytes : List ℕ) → IsNextOf m (next.Do (Rewrite uid)) → bytes ≡ contents_in (form_of m.book uid) → IsReady m (Rewrite uid) (rep.Rewrite uid bytes)
rewrites m h uid bytes (quiet, n) given =
    let (f, o, u, at, is, r, id, file, differs) = n.candidate in
    let same : uid_at m.volume f ≡ uid = ap (uid_found m.volume.own) at ∙ (ap (λ own. uid_of own o) h.order.own ∙ is) in
    let operation : IsOperation m (Rewrite uid) (vol.Rewrite f bytes) = record { of_step = (f, o, bytes, at, is, refl); contents = given ∙ ap (λ i. contents_in (form_of m.book i)) (sym same) } in
    let test : is_file_object o ≡ true = ap (λ x. some_is is_file_object x) (sym at) ∙ test_of m h (Rewrite uid) (vol.Rewrite f bytes) (quiet, n) operation in
    record {
      op = vol.Rewrite f bytes;
      is = operation;
      given = ap (λ x. and_then x (λ q. only_if (is_file_object q) (vol.Rewrite q.fid bytes))) (there m h uid f o at is)
          ∙ (given_if (is_file_object o) (vol.Rewrite o.fid bytes) test ∙ ap (λ k. Some (vol.Rewrite k bytes)) (number m f o at));
    }

-- the directory of a record that is placed: the root, or an object
pub record HasParent (m : Machine) (u : Update) : Type 0 where
  pub fid : ℕ
  pub there : IsThere (maps_of m.volume) fid
  pub is : u.parent ≡ parent_uid m.book.own (maps_of m.volume) fid
  pub found : parent_fid m.volume u.parent ≡ Some fid

pub places : (m : Machine) → IsSound m → (uid : Uid) (u : Update) → IsNextOf m (next.Do (Place uid)) → IsRecordOf m uid u → HasParent m u → IsReady m (Place uid) (rep.Place uid u.parent u.name)
places m h uid u (quiet, n) (r, id) parent =
    let (f, o, v, at, is, limbo, shown, same) = n.candidate in
    let operation : IsOperation m (Place uid) (vol.Place f parent.fid u.name) = record { of_step = (f, o, u, parent.fid, at, is, r, id, parent.there, parent.is, refl); contents = tt } in
    let tests : (some_is is_in_limbo (Some o) && can_stand m.volume.objects f parent.fid u.name) ≡ true =
    ap (λ x. some_is is_in_limbo x && can_stand m.volume.objects f parent.fid u.name) (sym at) ∙ test_of m h (Place uid) (vol.Place f parent.fid u.name) (quiet, n) operation in
    record {
      op = vol.Place f parent.fid u.name;
      is = operation;
      given = ap (λ x. and_then x (λ q. and_then (parent_fid m.volume u.parent) (λ k. only_if (is_in_limbo q && can_stand m.volume.objects q.fid k u.name) (vol.Place q.fid k u.name)))) (there m h uid f o at is)
          ∙ (ap (λ x. and_then x (λ k. only_if (is_in_limbo o && can_stand m.volume.objects o.fid k u.name) (vol.Place o.fid k u.name))) parent.found
          ∙ (ap (λ j. only_if (is_in_limbo o && can_stand m.volume.objects j parent.fid u.name) (vol.Place j parent.fid u.name)) (number m f o at)
          ∙ given_if (is_in_limbo o && can_stand m.volume.objects f parent.fid u.name) (vol.Place f parent.fid u.name) tests));
    }

-- ---- the directory of a record that is placed

root_found : (m : Machine) (parent : Uid) → parent ≡ root_uid → parent_fid m.volume parent ≡ Some 0
root_found m parent e = subst (λ i. parent_fid m.volume i ≡ Some 0) (sym e) (by (same_uid root_uid root_uid) (same_uid_refl root_uid))
  where
    by : (b : Bool) → b ≡ true → cond b (Some 0) (option_map (λ o. o.fid) (object_of m.volume root_uid)) ≡ Some 0
    by true e = refl
    by false e = absurd (cc)

object_parent : (m : Machine) (parent : Uid) (fid : ℕ) (q : Object) → parent ≢ root_uid → object_of m.volume parent ≡ Some q → q.fid ≡ fid → parent_fid m.volume parent ≡ Some fid
object_parent m parent fid q other found is = by (same_uid parent root_uid) refl
  where
    by : (b : Bool) → same_uid parent root_uid ≡ b → cond b (Some 0) (option_map (λ o. o.fid) (object_of m.volume parent)) ≡ Some fid
    by true e = absurd (other (same_uid_is parent root_uid e))
    by false e = ap (option_map (λ o. o.fid)) found ∙ ap (λ k. Some k) is

pub has_parent : (m : Machine) → IsSound m → (uid : Uid) (u : Update) → IsNextOf m (next.Do (Place uid)) → IsRecordOf m uid u → HasParent m u
has_parent m h uid u (quiet, n) (r, id) = by (has_home m.book.own (member_of m) m.book.records h.agrees uid u n r id)
  where
    by : HasHome (λ v. In v m.book.records) m.book.own (member_of m) u → HasParent m u
    by (inl root) = record { fid = 0; there = inl refl; is = root; found = root_found m u.parent root }
    by (inr (p, g, q, pid, at, is, dir, rp)) = record {
      fid = g;
      there = inr (q, at);
      is = sym pid ∙ (sym is ∙ sym (parent_is m.book.own (maps_of m.volume) g q h.agrees.member.numbers.root at));
      found = object_parent m u.parent g q (λ e. h.agrees.no_root p rp (pid ∙ e)) (there m h u.parent g q at (is ∙ pid)) (number m g q at);
    }

-- ---- the command that the volume gives

-- it gives one
pub is_given : (m : Machine) (step : Step) (of : rep.ReplicaOp) → IsReady m step of → IsSome (replica m.volume of)
is_given m step of ready = by (replica m.volume of) ready.given
  where
    by : (x : Option VolCmd) → x ≡ Some ready.op → IsSome x
    by (Some op) e = refl
    by None e = absurd (cc)

-- which is the operation
pub given_is : (m now : Machine) (step : Step) (of : rep.ReplicaOp) (op : VolCmd) → m ≡ now → IsReady m step of → replica m.volume of ≡ Some op → IsOperation now step op
given_is m now step of op path ready e = subst (λ x. IsOperation x step op) path (subst (IsOperation m step) (one_op ready.op op (sym ready.given ∙ e)) ready.is)
  where
    one_op : (a b : VolCmd) → Some a ≡ Some b → a ≡ b
    one_op a b e = cc

-- the next step, of what equals the machine
pub next_at : (m now : Machine) (step : Step) → m ≡ now → IsNextOf now (next.Do step) → IsNextOf m (next.Do step)
next_at m now step path n = subst (λ x. IsNextOf x (next.Do step)) (sym path) n

-- ---- what the installer does next

-- the hash of a file's record is the sum of the form that is staged of it
pub hash_is : (m : Machine) → IsSound m → (uid : Uid) → staged_hashes m.book uid ≡ staged_sums m.book uid
hash_is m h uid = by (form_of m.book uid) refl
  where
    by : (form : Option (List ℕ)) → form_of m.book uid ≡ form → staged_hash form (held_of m.book.records uid) ≡ option_map form_sum form
    by None e = refl
    by (Some form) e =
        let (v, among, id, file, hash) = h.agrees.member.contents.staged uid (form_sum form) (ap (λ f. option_map form_sum f) e) in
        ap (λ held. option_map (λ (u : Update). u.hash) held) (find_at m.book.records uid v h.order.book.rising among id) ∙ ap (λ s. Some s) hash

-- so the plan's answer is the machine's
pub next_is : (m now : Machine) (r : Result Next AllocError) → m ≡ now → IsSound m
    → IfOk r (λ n. IsAnswer (λ u. In u m.book.records) m.book.own (maps_of m.volume) (staged_hashes m.book) m.book.consumed n) → IfOk r (IsNextOf now)
next_is m now (Ok n) path h a =
    subst (λ x. IsNextOf x n) path (subst (λ s. IsAnswer (λ u. In u m.book.records) m.book.own (maps_of m.volume) s m.book.consumed n) (λ i. λ uid. hash_is m h uid i) a)
next_is m now (Err e) path h a = tt

-- and what the machine does next is needed by the plan
pub needs_of : (m : Machine) → IsSound m → (step : Step) → IsNextOf m (next.Do step) → Needs m.volume m.book step
needs_of m h step (quiet, n) =
    subst (λ own. IsCandidate (Among m.book.records) own (maps_of m.volume) (staged_hashes m.book) m.book.consumed step) (sym h.order.own)
    (subst (λ s. IsCandidate (Among m.book.records) m.book.own (maps_of m.volume) s m.book.consumed step) (λ i. λ uid. sym (hash_is m h uid) i) n.candidate)

-- ---- records

-- a file or directory that has a record
pub record_found : (m now : Machine) (uid : Uid) → m ≡ now → IsSound m → HasRecord now uid → (u : Update) × (held_of m.book.records uid ≡ Some u) × IsRecordOf now uid u
record_found m now uid path h has =
    let (u, is) = subst (λ x. HasRecord x uid) (sym path) has in
    (u, find_at m.book.records uid u h.order.book.rising is.0 is.1, subst (λ x. IsRecordOf x uid u) path is)

-- the next steps that make an object or place one are of files and directories that have records
pub makes_of : (m : Machine) (uid : Uid) → IsNextOf m (next.Do (Make uid)) → HasRecord m uid
makes_of m uid (quiet, n) = let (u, shown, id, fresh) = n.candidate in (u, (shown_record (λ v. In v m.book.records) u shown, id))

pub places_of : (m : Machine) (uid : Uid) → IsNextOf m (next.Do (Place uid)) → HasRecord m uid
places_of m uid (quiet, n) = let (f, o, u, at, is, limbo, shown, id) = n.candidate in (u, (shown_record (λ v. In v m.book.records) u shown, id))

-- ---- answers

-- what is read of a success is this, where it is that
pub ok_with : {T E X : Type 0} (f : T → X) {x y : X} (r : Result T E) → x ≡ y → IfOk r (λ v. f v ≡ x) → IfOk r (λ v. f v ≡ y)
ok_with f (Ok v) e h = h ∙ e
ok_with f (Err w) e h = tt
