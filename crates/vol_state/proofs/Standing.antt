-- Lists of objects and records stand for maps.
use Rattle.std.proofs.Common.{◌≡◌, ◌+◌, ◌<◌, ◌&&◌, not, ℕ, Bool, true, false, eqb, List, [], ◌∷◌, ◌++◌, Option, Some, None, refl, sym, ap, ◌∙◌, arith}
use Rattle.std.proofs.lemmas.Bool.Decides.{nat_tests, eqb_tells}
use Rattle.std.specs.Prelude.{option_map, if◌then◌else◌}
use Rattle.frs_base.specs.declared.kind.Kind.{Kind}
use Rattle.frs_base.specs.declared.kind.Kind.TheVariants.{File, Directory}
use Rattle.frs_base.specs.declared.version.Uid.{Uid}
use Rattle.vol_state.specs.declared.object.Object.{Object}
use Rattle.vol_state.specs.declared.record.VolRecord.{VolRecord}
use Rattle.vol_state.specs.declared.command.VolCmd.TheVariants.{PutNew, PutOver, Mkdir, Move, Remove, Park, Erase, Make, Rewrite, Place}
use Rattle.frs_base.specs.Options.{some_is}
use Rattle.vol_state.specs.Places.{object_at, has_children, is_reached}
use Rattle.vol_state.specs.State.{State, uid_of}
use Rattle.vol_state.specs.Journal.{record_at}
use Rattle.vol_state.specs.Numbers.{greatest, greatest_fid, greatest_usn}
use Rattle.vol_state.specs.Effects.{added, edited, gone, new_object, at_place, with_bytes, stamp, uid_at, uid_found, edit, without}
use Rattle.vol_state.specs.Conditions.{is_within, is_file, is_placed, is_in_limbo, is_open_object, can_move, can_stand}
use Rattle.vol_state.specs.Laws.{AreFree}
use Rattle.vol_state.specs.Valid.{IsVolume}
use Rattle.vol_state.specs.Maps.{Maps, with_at, makes, changes, loses, Stands, StandsOn, BeginsStanding}
use Rattle.vol_state.proofs.Climbing.{by_cases, differ}
use Rattle.vol_state.proofs.Finding.{at_edit_other, at_edit_same, at_without_other, at_without_same, at_push_other}
use Rattle.vol_state.proofs.Trees.{at_new}
use Rattle.vol_state.proofs.Tops.{there_at_most}
use Rattle.vol_state.proofs.Volumes.{both}
use Rattle.vol_state.proofs.Numbering.{some_at, opened_at}

-- a record behind others is found where none of them has its USN
record_push : (rs : List VolRecord) (r : VolRecord) (n : ℕ) → greatest (λ x. x.usn) rs < r.usn → record_at (rs ++ r ∷ []) n ≡ (if eqb n r.usn then Some r else record_at rs n)
record_push [] r n l = by_cases (eqb_tells r.usn n)
    (λ t. let u : eqb n r.usn ≡ true = grind (arith, nat_tests) in rw t.0 (rw u refl))
    (λ t. let u : eqb n r.usn ≡ false = differ n r.usn (λ e. t.1 (sym e)) in rw t.0 (rw u refl))
record_push (x ∷ xs) r n l =
    let more = record_push xs r n (omega arith) in
    by_cases (eqb_tells x.usn n)
    (λ t. let u : eqb n r.usn ≡ false = differ n r.usn (λ e. omega arith) in rw t.0 (rw u refl))
    (λ t. rw t.0 more)

objects_below : (v : State) → AreFree v → (fid : ℕ) (o : Object) → object_at v.objects fid ≡ Some o → fid < v.next_fid
unfolding greatest_fid
objects_below v free fid o at = let h = free.fid in let t = there_at_most fid o v.objects at in omega arith

records_below : (v : State) → AreFree v → greatest (λ (r : VolRecord). r.usn) v.journal < v.next_usn
unfolding greatest_usn
records_below v free = let h = free.usn in omega arith

pub nobody_next : (v : State) → AreFree v → object_at v.objects v.next_fid ≡ None
nobody_next v free = go (object_at v.objects v.next_fid) refl
  where
    go : (a : Option Object) → object_at v.objects v.next_fid ≡ a → object_at v.objects v.next_fid ≡ None
    go None is = is
    go (Some o) is = absurd (let l = objects_below v free v.next_fid o is in omega arith)

-- the journal's part, whatever became of the objects
entries_logged : (v : State) (m : Maps) → AreFree v → Stands v m → (fid : ℕ) (uid uid' : Uid) (op : ℕ) (local : Bool) → uid' ≡ uid → (n : ℕ)
    → with_at m.entry m.next_usn (Some (record { usn = m.next_usn; fid = fid; uid = uid'; op = op; local = local })) n ≡ record_at (v.journal ++ record { usn = v.next_usn; fid = fid; uid = uid; op = op; local = local } ∷ []) n
entries_logged v m free s fid uid uid' op local same n =
    let r : VolRecord = record { usn = v.next_usn; fid = fid; uid = uid; op = op; local = local } in
    let whole : ℕ → Uid → Option VolRecord = λ u i. if eqb n u then Some (record { usn = u; fid = fid; uid = i; op = op; local = local }) else m.entry n in
    ap (λ u. whole u uid') s.next_usn ∙ ap (whole v.next_usn) same ∙ ap (λ x. if eqb n v.next_usn then Some r else x) (s.entries n) ∙ sym (record_push v.journal r n (records_below v free))

stands_made : (op : ℕ) (local : Bool) (place : Option (ℕ × List ℕ)) (kind : Kind) (bytes : List ℕ) (tag : Option Uid) (v : State) (m : Maps) → AreFree v → Stands v m → Stands (added op local (new_object v place kind bytes tag local) v) (makes v.own op local place kind bytes tag m)
stands_made op local place kind bytes tag v m free s = record {
  objects = λ k. by_cases (eqb_tells k m.next_fid)
      (λ t. rw t.0 (ap Some made ∙ sym (ap (object_at (v.objects ++ o ∷ [])) (t.1 ∙ s.next_fid) ∙ at_new o v.objects (nobody_next v free))))
      (λ t. rw t.0 (s.objects k ∙ sym (at_push_other o k (λ e. t.1 (e ∙ sym s.next_fid)) v.objects)));
  entries = λ n. ap (λ f. with_at m.entry m.next_usn (Some (record { usn = m.next_usn; fid = f; uid = uid_of v.own new; op = op; local = local })) n) s.next_fid ∙ entries_logged v m free s v.next_fid (uid_of v.own o) (uid_of v.own new) op local uids n;
  next_fid = let e = s.next_fid in omega arith;
  next_usn = ap (λ n. n + 1) s.next_usn;
}
  where
    o : Object
    o = new_object v place kind bytes tag local

    new : Object
    new = record { fid = m.next_fid; place = place; kind = kind; bytes = bytes; sum = o.sum; born = m.next_usn; tag = tag; last_local = if local then m.next_usn else 0 }

    as_new : ℕ → ℕ → Object
    as_new fid usn = record { fid = fid; place = place; kind = kind; bytes = bytes; sum = o.sum; born = usn; tag = tag; last_local = if local then usn else 0 }

    made : new ≡ o
    made = ap (λ f. as_new f m.next_usn) s.next_fid ∙ ap (as_new v.next_fid) s.next_usn

    uids : uid_of v.own new ≡ uid_of v.own o
    uids = ap (uid_of v.own) made

stands_changed : (op : ℕ) (local : Bool) (fid : ℕ) (f : Object → Object) (o : Object) (v : State) (m : Maps) → ((x : Object) → (f x).fid ≡ x.fid) → object_at v.objects fid ≡ Some o → AreFree v → Stands v m → Stands (edited op local fid f v) (changes v.own op local fid f m)
stands_changed op local fid f o v m keeps at free s = record {
  objects = λ k. by_cases (eqb_tells k fid)
      (λ t. rw t.0 (ap (option_map (λ x. stamp local m.next_usn (f x))) there ∙ ap (λ u. Some (stamp local u (f o))) s.next_usn ∙ sym (ap (object_at (edit fid g v.objects)) t.1 ∙ at_edit_same g keeps fid o v.objects at)))
      (λ t. rw t.0 (s.objects k ∙ sym (at_edit_other g keeps fid k t.1 v.objects)));
  entries = entries_logged v m free s fid (uid_at v fid) (uid_found v.own (m.at fid)) op local (ap (uid_found v.own) (s.objects fid));
  next_fid = let e = s.next_fid in let l = objects_below v free fid o at in omega arith;
  next_usn = ap (λ n. n + 1) s.next_usn;
}
  where
    g : Object → Object
    g x = stamp local v.next_usn (f x)

    there : m.at fid ≡ Some o
    there = s.objects fid ∙ at

stands_gone : (op : ℕ) (local : Bool) (fid : ℕ) (o : Object) (v : State) (m : Maps) → IsVolume v → object_at v.objects fid ≡ Some o → AreFree v → Stands v m → Stands (gone op local fid v) (loses v.own op local fid m)
stands_gone op local fid o v m h at free s = record {
  objects = λ k. by_cases (eqb_tells k fid)
      (λ t. rw t.0 (sym (ap (object_at (without fid v.objects)) t.1 ∙ at_without_same 0 fid v.objects h.tree.rising)))
      (λ t. rw t.0 (s.objects k ∙ sym (at_without_other fid k t.1 v.objects)));
  entries = entries_logged v m free s fid (uid_at v fid) (uid_found v.own (m.at fid)) op local (ap (uid_found v.own) (s.objects fid));
  next_fid = let e = s.next_fid in let l = objects_below v free fid o at in omega arith;
  next_usn = ap (λ n. n + 1) s.next_usn;
}

pub stands_on : StandsOn
stands_on (PutNew parent name bytes) v m h free a s = stands_made 1 true (Some (parent, name)) File bytes None v m free s
stands_on (PutOver fid bytes) v m h free a s =
    let rest = (both (is_within bytes) (some_is is_file (object_at v.objects fid) && is_reached v.objects fid) a).1 in
    let t = some_at is_file (object_at v.objects fid) (both (some_is is_file (object_at v.objects fid)) (is_reached v.objects fid) rest).0 in
    stands_changed 2 true fid (with_bytes bytes) t.0 v m (λ x. refl) t.1 free s
stands_on (Mkdir parent name) v m h free a s = stands_made 3 true (Some (parent, name)) Directory [] None v m free s
stands_on (Move fid parent name) v m h free a s =
    let t = opened_at fid v (both (is_open_object v.objects fid) (can_move v.objects fid parent name) a).0 in
    stands_changed 4 true fid (at_place (Some (parent, name))) t.0 v m (λ x. refl) t.1 free s
stands_on (Remove fid) v m h free a s =
    let t = opened_at fid v (both (is_open_object v.objects fid) (not (has_children v.objects fid)) a).0 in
    stands_gone 5 true fid t.0 v m h t.1 free s
stands_on (Park fid) v m h free a s =
    let t = some_at is_placed (object_at v.objects fid) a in
    stands_changed 6 false fid (at_place None) t.0 v m (λ x. refl) t.1 free s
stands_on (Erase fid) v m h free a s =
    let t = some_at is_in_limbo (object_at v.objects fid) (both (some_is is_in_limbo (object_at v.objects fid)) (not (has_children v.objects fid)) a).0 in
    stands_gone 7 false fid t.0 v m h t.1 free s
stands_on (Make uid kind bytes) v m h free a s = stands_made 8 false None kind bytes (Some uid) v m free s
stands_on (Rewrite fid bytes) v m h free a s =
    let t = some_at is_file (object_at v.objects fid) a in
    stands_changed 9 false fid (with_bytes bytes) t.0 v m (λ x. refl) t.1 free s
stands_on (Place fid parent name) v m h free a s =
    let t = some_at is_in_limbo (object_at v.objects fid) (both (some_is is_in_limbo (object_at v.objects fid)) (can_stand v.objects fid parent name) a).0 in
    stands_changed 10 false fid (at_place (Some (parent, name))) t.0 v m (λ x. refl) t.1 free s

pub begins_standing : BeginsStanding
begins_standing own = record { objects = λ fid. refl; entries = λ usn. refl; next_fid = refl; next_usn = refl }
