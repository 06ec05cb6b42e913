-- Each command leaves a volume.
use Rattle.std.proofs.Common.{◌≡◌, ◌≢◌, ◌<◌, ◌≤◌, ◌||◌, ◌&&◌, not, ◌⊎◌, inl, inr, ℕ, Bool, true, false, cond, eqb, leb, List, [], ◌∷◌, length, Option, Some, None, refl, sym, ap, ◌∙◌, subst, map, arith}
use Rattle.std.proofs.lemmas.Bool.Decides.{nat_tests}
use Rattle.std.proofs.lemmas.Bool.{false≢true}
use Rattle.std.proofs.lemmas.Slice.Eq.{bytes_eq-Decides}
use Rattle.std.specs.Prelude.{is_some, find, unwrap_or, if◌then◌else◌}
use Rattle.frs_base.specs.declared.version.Uid.{Uid}
use Rattle.frs_base.specs.declared.kind.Kind.{Kind}
use Rattle.frs_base.specs.declared.kind.Kind.TheVariants.{File, Directory}
use Rattle.frs_base.specs.Names.{matches, fold_unit}
use Rattle.frs_base.specs.Versions.{same_uid}
use Rattle.vol_state.specs.declared.object.Object.{Object}
use Rattle.vol_state.specs.declared.command.VolCmd.{VolCmd}
use Rattle.vol_state.specs.declared.command.VolCmd.TheVariants.{PutNew, PutOver, Mkdir, Move, Remove, Park, Erase, Make, Rewrite, Place}
use Rattle.frs_base.specs.Options.{In, some_is, none_or}
use Rattle.vol_state.specs.Places.{object_at, is_directory, is_directory_at, is_child, child, has_children, is_beneath, is_reached}
use Rattle.vol_state.specs.Tree.{IsHome, IsTree}
use Rattle.vol_state.specs.State.{State, uid_of, object_of}
use Rattle.vol_state.specs.Numbers.{own_version, usn_in, has_usn, has_fid, has_numbers}
use Rattle.vol_state.specs.Effects.{edit, without, added, edited, gone, effect, new_object, at_place, with_bytes, stamp}
use Rattle.vol_state.specs.Conditions.{is_placed, is_in_limbo, is_file, is_open, is_open_object, is_within, is_free, can_move, can_stand, can_make, root_uid, is_allowed}
use Rattle.vol_state.specs.Valid.{IsSummed, IsVolume}
use Rattle.vol_state.specs.Laws.{ObjectsAreSummed}
use Rattle.vol_state.proofs.Climbing.{by_cases}
use Rattle.vol_state.proofs.Finding.{at_in}
use Rattle.vol_state.proofs.Trees.{in_push, in_edit, in_without, tree_push, tree_without, tree_contents, tree_park, tree_stand}
use Rattle.vol_state.proofs.Tops.{greatest_in, usn_above, fid_above, objects_fid, objects_usn}

-- ---- what is left to show of the objects

volume_added : (op : ℕ) (local : Bool) (o : Object) (v : State) → IsVolume v → o.fid ≡ v.next_fid → has_fid v ≡ true → IsHome v.objects o.place
    → ((b : Object) (parent : ℕ) (name : List ℕ) → In b v.objects → is_child parent name o ≡ true → is_child parent name b ≡ true → ⊥)
    → ((b : Object) → In b v.objects → uid_of v.own b ≢ uid_of v.own o)
    → IsSummed o
    → IsVolume (added op local o v)
volume_added op local o v h fid has home alone fresh summed =
    let above = (fid_above v has).0 in
    let most = objects_fid v in
    let positive : 0 < o.fid = omega arith in
    let last : (b : Object) → In b v.objects → b.fid < o.fid = λ b i. let e = greatest_in (λ (x : Object). x.fid) v.objects b i in omega arith in
    record {
      tree = tree_push o v.objects positive last home alone h.tree;
      uids = λ a b i j e. by_cases (in_push a o v.objects i)
          (λ k. by_cases (in_push b o v.objects j)
          (λ l. h.uids a b k l e)
          (λ l. absurd (fresh a k (e ∙ ap (uid_of v.own) l))))
          (λ k. by_cases (in_push b o v.objects j)
          (λ l. absurd (fresh b l (sym e ∙ ap (uid_of v.own) k)))
          (λ l. k ∙ sym l));
      summed = λ a i. by_cases (in_push a o v.objects i) (λ k. h.summed a k) (λ k. subst IsSummed (sym k) summed);
    }

volume_edited : (op : ℕ) (local : Bool) (fid : ℕ) (f : Object → Object) (o : Object) (v : State) → IsVolume v → object_at v.objects fid ≡ Some o
    → ((x : Object) → (stamp local v.next_usn (f x)).fid ≡ x.fid) → ((x : Object) → uid_of v.own (stamp local v.next_usn (f x)) ≡ uid_of v.own x)
    → IsTree (edit fid (λ o. stamp local v.next_usn (f o)) v.objects) → (IsSummed o → IsSummed (stamp local v.next_usn (f o))) → IsVolume (edited op local fid f v)
volume_edited op local fid f o v h at keeps_fid keeps_uid tree keeps_sum =
    let g : Object → Object = λ o. stamp local v.next_usn (f o) in
    let objects = edit fid g v.objects in
    let i = at_in fid o v.objects at in
    let inside : (b : Object) → In b objects → (b ≡ g o) ⊎ (In b v.objects × (b.fid ≢ fid)) = λ b j. in_edit g fid o b 0 v.objects h.tree.rising at j in
    record {
      tree = tree;
      uids = λ a b j k e. by_cases (inside a j)
          (λ p. by_cases (inside b k)
          (λ q. p ∙ sym q)
          (λ w. absurd (w.1 (ap (λ y. y.fid) (sym (h.uids o b i.0 w.0 (sym (keeps_uid o) ∙ sym (ap (uid_of v.own) p) ∙ e))) ∙ i.1))))
          (λ w. by_cases (inside b k)
          (λ q. absurd (w.1 (ap (λ y. y.fid) (h.uids a o w.0 i.0 (e ∙ ap (uid_of v.own) q ∙ keeps_uid o)) ∙ i.1)))
          (λ z. h.uids a b w.0 z.0 e));
      summed = λ a j. by_cases (inside a j) (λ p. subst IsSummed (sym p) (keeps_sum (h.summed o i.0))) (λ w. h.summed a w.0);
    }

volume_gone : (op : ℕ) (local : Bool) (fid : ℕ) (v : State) → IsVolume v → has_children v.objects fid ≡ false → IsVolume (gone op local fid v)
volume_gone op local fid v h bare =
    let inside : (o : Object) → In o (without fid v.objects) → In o v.objects × (o.fid ≢ fid) = λ o i. in_without fid o 0 v.objects h.tree.rising i in
    record {
      tree = tree_without fid v.objects bare h.tree;
      uids = λ a b i j. h.uids a b (inside a i).0 (inside b j).0;
      summed = λ a i. h.summed a (inside a i).0;
    }

-- ---- tests

pub both : (a b : Bool) → (a && b) ≡ true → (a ≡ true) × (b ≡ true)
both true b e = (refl, e)
both false b e = absurd (cc)

pub not_so : (b : Bool) → not b ≡ true → b ≡ false
not_so true e = absurd (cc)
not_so false e = refl

pub some_of : {T : Type 0} (test : T → Bool) (x : Option T) → some_is test x ≡ true → (y : T) × (x ≡ Some y) × (test y ≡ true)
some_of test None e = absurd (cc)
some_of test (Some y) e = (y, refl, e)

pub some_there : {T : Type 0} (x : Option T) → is_some x ≡ true → (y : T) × (x ≡ Some y)
some_there None e = absurd (cc)
some_there (Some y) e = (y, refl)

-- ---- who is found, and who isn't

pub find_in : (test : Object → Bool) (os : List Object) (c : Object) → find test os ≡ Some c → In c os × (test c ≡ true)
find_in test [] c e = absurd (cc)
find_in test (o ∷ os) c e = go (test o) refl e (find_in test os c)
  where
    go : (b : Bool) → test o ≡ b → cond b (Some o) (find test os) ≡ Some c → (find test os ≡ Some c → In c os × (test c ≡ true)) → In c (o ∷ os) × (test c ≡ true)
    go true h e more = let s : o ≡ c = cc in (inl (sym s), ap test (sym s) ∙ h)
    go false h e more = let r = more e in (inr r.0, r.1)

pub find_none : (test : Object → Bool) (os : List Object) (b : Object) → is_some (find test os) ≡ false → In b os → test b ≡ false
find_none test [] b e i = absurd i
find_none test (o ∷ os) b e i = go (test o) refl e (find_none test os b)
  where
    go : (c : Bool) → test o ≡ c → is_some (cond c (Some o) (find test os)) ≡ false → (is_some (find test os) ≡ false → In b os → test b ≡ false) → test b ≡ false
    go true h e more = absurd (cc)
    go false h e more = by_cases i (λ is. ap test is ∙ h) (λ j. more e j)

pub is_same : (u : Uid) → same_uid u u ≡ true
is_same u = let s : eqb u.db u.db ≡ true = grind (arith, nat_tests) in let t : eqb u.version u.version ≡ true = grind (arith, nat_tests) in rw s t

-- ---- names

same_names : (a b c : List ℕ) → matches a b ≡ true → matches c b ≡ true → matches c a ≡ true
same_names a b c h k =
    let p = (bytes_eq-Decides (map fold_unit a) (map fold_unit b)).0 h in
    let q = (bytes_eq-Decides (map fold_unit c) (map fold_unit b)).0 k in
    (bytes_eq-Decides (map fold_unit c) (map fold_unit a)).1 (q ∙ sym p)

-- who stands under a matching name stands under the name itself
pub child_meets : (parent : ℕ) (name : List ℕ) (at : ℕ) (other : List ℕ) (b : Object) → (eqb parent at && matches name other) ≡ true → is_child at other b ≡ true → is_child parent name b ≡ true
child_meets parent name at other b h k = go b.place k
  where
    go : (place : Option (ℕ × List ℕ)) → some_is (λ p. eqb p.0 at && matches p.1 other) place ≡ true → some_is (λ p. eqb p.0 parent && matches p.1 name) place ≡ true
    go None e = absurd (cc)
    go (Some p) e =
        let (u, w) = both (eqb p.0 at) (matches p.1 other) e in
        let (x, y) = both (eqb parent at) (matches name other) h in
        let l : eqb p.0 parent ≡ true = grind (arith, nat_tests) in
        rw l (same_names name other p.1 y w)

pub free_of : (v : State) → IsVolume v → (fid parent : ℕ) (name : List ℕ) → none_or (λ o. eqb o.fid fid) (child v.objects parent name) ≡ true → (b : Object) → In b v.objects → is_child parent name b ≡ true → b.fid ≡ fid
free_of v h fid parent name e b i k = go (child v.objects parent name) refl e
  where
    go : (c : Option Object) → child v.objects parent name ≡ c → none_or (λ o. eqb o.fid fid) c ≡ true → b.fid ≡ fid
    go None is e = absurd (false≢true (sym (find_none (is_child parent name) v.objects b (ap is_some is) i) ∙ k))
    go (Some c) is e =
        let (j, l) = find_in (is_child parent name) v.objects c is in
        let s : b ≡ c = h.tree.apart b c parent name i j k l in
        let f : c.fid ≡ fid = grind (arith, nat_tests) in
        ap (λ y. y.fid) s ∙ f

pub nobody_or : {T : Type 0} (test : T → Bool) (x : Option T) → is_some x ≡ false → none_or test x ≡ true
nobody_or test None e = refl
nobody_or test (Some y) e = absurd (cc)

-- ---- new objects

-- the version of a UID of the own database is a USN in use
own_uid : (own : ℕ) (o : Object) (n : ℕ) → uid_of own o ≡ record { db = own; version = n } → n ≤ usn_in own o
own_uid own o n e = go o.tag refl e
  where
    same : (k : ℕ) → eqb k k ≡ true
    same k = grind (arith, nat_tests)

    go : (tag : Option Uid) → o.tag ≡ tag → unwrap_or tag (record { db = own; version = o.born }) ≡ record { db = own; version = n } → n ≤ usn_in own o
    go None is e = let v : o.born ≡ n = ap (λ u. u.version) e in omega arith
    go (Some t) is e =
        let d : t.db ≡ own = ap (λ u. u.db) e in
        let v : t.version ≡ n = ap (λ u. u.version) e in
        let k : own_version own o.tag ≡ t.version = ap (own_version own) is ∙ ap (λ x. if eqb x own then t.version else 0) d ∙ ap (λ b. if b then t.version else 0) (same own) in
        omega arith

new_fresh : (v : State) → has_usn v ≡ true → (b : Object) → In b v.objects → uid_of v.own b ≢ record { db = v.own; version = v.next_usn }
new_fresh v has b i e =
    let above = (usn_above v has).0 in
    let most = objects_usn v in
    let there = greatest_in (usn_in v.own) v.objects b i in
    let here = own_uid v.own b v.next_usn e in
    omega arith

placed_new : (op : ℕ) (parent : ℕ) (name bytes : List ℕ) (kind : Kind) (v : State) → IsVolume v → has_usn v ≡ true → has_fid v ≡ true → is_free v.objects parent name ≡ true
    → (is_directory kind ≡ true → bytes ≡ [])
    → IsVolume (added op true (new_object v (Some (parent, name)) kind bytes None true) v)
placed_new op parent name bytes kind v h usn fid m bare =
    let (opened, free) = both (is_open v.objects parent) (not (is_some (child v.objects parent name))) m in
    let (directory, _) = both (is_directory_at v.objects parent) (is_reached v.objects parent) opened in
    volume_added op true (new_object v (Some (parent, name)) kind bytes None true) v h refl fid directory
    (λ b at other i u k. false≢true (sym (find_none (is_child parent name) v.objects b (not_so (is_some (child v.objects parent name)) free) i) ∙ child_meets parent name at other b u k))
    (new_fresh v usn) (record { sum = refl; bare = bare })

-- nothing is as long as nothing
empty_of : (bytes : List ℕ) → leb (length bytes) 0 ≡ true → bytes ≡ []
empty_of [] e = refl
empty_of (b ∷ bytes) e = absurd (grind (arith, nat_tests, e))

-- a directory is made without contents
made_bare : (d : Bool) (bytes : List ℕ) → (not d || leb (length bytes) 0) ≡ true → d ≡ true → bytes ≡ []
made_bare true bytes e is = empty_of bytes e
made_bare false bytes e is = absurd (cc)

made_new : (uid : Uid) (kind : Kind) (bytes : List ℕ) (v : State) → IsVolume v → has_fid v ≡ true → can_make uid kind bytes v ≡ true
    → IsVolume (added 8 false (new_object v None kind bytes (Some uid) false) v)
made_new uid kind bytes v h fid m =
    let (_, rest) = both (not (same_uid uid root_uid)) (not (is_some (object_of v uid)) && (not (is_directory kind) || leb (length bytes) 0)) m in
    let (free, bare) = both (not (is_some (object_of v uid))) (not (is_directory kind) || leb (length bytes) 0) rest in
    volume_added 8 false (new_object v None kind bytes (Some uid) false) v h refl fid tt
    (λ b parent name i u k. false≢true u)
    (λ b i e. false≢true (sym (find_none (λ o. same_uid (uid_of v.own o) uid) v.objects b (not_so (is_some (object_of v uid)) free) i) ∙ ap (λ u. same_uid u uid) e ∙ is_same uid))
    (record { sum = refl; bare = made_bare (is_directory kind) bytes bare })

-- ---- changed objects

standing : (op : ℕ) (local : Bool) (fid parent : ℕ) (name : List ℕ) (o : Object) (v : State) → IsVolume v → object_at v.objects fid ≡ Some o
    → is_directory_at v.objects parent ≡ true → is_beneath v.objects fid parent ≡ false → none_or (λ o. eqb o.fid fid) (child v.objects parent name) ≡ true
    → IsVolume (edited op local fid (at_place (Some (parent, name))) v)
standing op local fid parent name o v h at directory off free =
    volume_edited op local fid (at_place (Some (parent, name))) o v h at (λ x. refl) (λ x. refl)
    (tree_stand (λ x. stamp local v.next_usn (at_place (Some (parent, name)) x)) fid v.objects o parent name (λ x. refl) (λ x. refl) (λ x. refl) at directory off
    (λ b at' other i u k. free_of v h fid parent name free b i (child_meets parent name at' other b u k)) h.tree)
    (λ s. record { sum = s.sum; bare = s.bare })

-- a file is no directory
no_directory : (o : Object) → is_file o ≡ true → is_directory o.kind ≡ true → ⊥
no_directory o file is = false≢true (sym (not_so (is_directory o.kind) file) ∙ is)

contents : (op : ℕ) (local : Bool) (fid : ℕ) (bytes : List ℕ) (o : Object) (v : State) → IsVolume v → object_at v.objects fid ≡ Some o → is_file o ≡ true
    → IsVolume (edited op local fid (with_bytes bytes) v)
contents op local fid bytes o v h at file =
    volume_edited op local fid (with_bytes bytes) o v h at (λ x. refl) (λ x. refl)
    (tree_contents (λ x. stamp local v.next_usn (with_bytes bytes x)) fid v.objects o (λ x. refl) (λ x. refl) (λ x. refl) at h.tree)
    (λ s. record { sum = refl; bare = λ is. absurd (no_directory o file is) })

parked : (fid : ℕ) (o : Object) (v : State) → IsVolume v → object_at v.objects fid ≡ Some o → IsVolume (edited 6 false fid (at_place None) v)
parked fid o v h at =
    volume_edited 6 false fid (at_place None) o v h at (λ x. refl) (λ x. refl)
    (tree_park (λ x. stamp false v.next_usn (at_place None x)) fid v.objects o (λ x. refl) (λ x. refl) (λ x. refl) at h.tree)
    (λ s. record { sum = s.sum; bare = s.bare })

-- ---- all commands

-- a command whose condition holds leaves a volume, where its numbers can be given out
pub effect_keeps : (cmd : VolCmd) (v : State) → IsVolume v → has_numbers cmd v ≡ true → is_allowed cmd v ≡ true → IsVolume (effect cmd v)
effect_keeps (PutNew parent name bytes) v h n m =
    let (usn, fid) = both (has_usn v) (has_fid v) n in
    placed_new 1 parent name bytes File v h usn fid (both (is_within bytes) (is_free v.objects parent name) m).1 (λ e. absurd (false≢true e))
effect_keeps (PutOver fid bytes) v h n m =
    let (file, _) = both (some_is is_file (object_at v.objects fid)) (is_reached v.objects fid) (both (is_within bytes) (some_is is_file (object_at v.objects fid) && is_reached v.objects fid) m).1 in
    let s = some_of is_file (object_at v.objects fid) file in contents 2 true fid bytes s.0 v h s.1 s.2
effect_keeps (Mkdir parent name) v h n m =
    let (usn, fid) = both (has_usn v) (has_fid v) n in
    placed_new 3 parent name [] Directory v h usn fid m (λ e. refl)
effect_keeps (Move fid parent name) v h n m =
    let (opened, stands) = both (is_open_object v.objects fid) (can_move v.objects fid parent name) m in
    let s = some_there (object_at v.objects fid) (both (is_some (object_at v.objects fid)) (is_reached v.objects fid) opened).0 in
    let (home, rest) = both (is_open v.objects parent) (not (is_beneath v.objects fid parent) && none_or (λ o. eqb o.fid fid) (child v.objects parent name)) stands in
    let (off, free) = both (not (is_beneath v.objects fid parent)) (none_or (λ o. eqb o.fid fid) (child v.objects parent name)) rest in
    standing 4 true fid parent name s.0 v h s.1 (both (is_directory_at v.objects parent) (is_reached v.objects parent) home).0 (not_so (is_beneath v.objects fid parent) off) free
effect_keeps (Remove fid) v h n m =
    volume_gone 5 true fid v h (not_so (has_children v.objects fid) (both (is_open_object v.objects fid) (not (has_children v.objects fid)) m).1)
effect_keeps (Park fid) v h n m = let s = some_of is_placed (object_at v.objects fid) m in parked fid s.0 v h s.1
effect_keeps (Erase fid) v h n m =
    volume_gone 7 false fid v h (not_so (has_children v.objects fid) (both (some_is is_in_limbo (object_at v.objects fid)) (not (has_children v.objects fid)) m).1)
effect_keeps (Make uid kind bytes) v h n m = made_new uid kind bytes v h (both (has_usn v) (has_fid v) n).1 m
effect_keeps (Rewrite fid bytes) v h n m = let s = some_of is_file (object_at v.objects fid) m in contents 9 false fid bytes s.0 v h s.1 s.2
effect_keeps (Place fid parent name) v h n m =
    let (limbo, stands) = both (some_is is_in_limbo (object_at v.objects fid)) (can_stand v.objects fid parent name) m in
    let s = some_of is_in_limbo (object_at v.objects fid) limbo in
    let (directory, rest) = both (is_directory_at v.objects parent) (not (is_beneath v.objects fid parent) && not (is_some (child v.objects parent name))) stands in
    let (off, free) = both (not (is_beneath v.objects fid parent)) (not (is_some (child v.objects parent name))) rest in
    standing 10 false fid parent name s.0 v h s.1 directory (not_so (is_beneath v.objects fid parent) off) (nobody_or (λ o. eqb o.fid fid) (child v.objects parent name) (not_so (is_some (child v.objects parent name)) free))

-- ---- what holds of each object

pub objects_summed : ObjectsAreSummed
objects_summed v h fid o at = let s = h.summed o (at_in fid o v.objects at).0 in (s.sum, λ d. s.bare (ap is_directory d))
