-- What a step of the installer keeps.
use Rattle.std.proofs.Common.{◌≡◌, ◌≢◌, ◌≤◌, ◌⊎◌, ℕ, Bool, true, false, cond, not, ◌&&◌, List, refl, sym, ap, ◌∙◌, subst, arith, inl, inr, Option, Some, None}
use Rattle.std.specs.Prelude.{unwrap_or}
use Rattle.std.proofs.lemmas.Bool.{cases_eq}
use Rattle.frs_base.specs.declared.kind.Kind.{Kind}
use Rattle.frs_base.specs.declared.kind.Kind.TheVariants.{Directory, File}
use Rattle.frs_base.specs.declared.version.Uid.{Uid}
use Rattle.win_order.specs.Order.{is_directory}
use Rattle.win_order.specs.declared.update.Update.{Update}
use Rattle.vol_state.specs.declared.object.Object.{Object}
use Rattle.vol_state.specs.declared.record.VolRecord.{VolRecord}
use Rattle.vol_state.specs.declared.command.VolCmd.{VolCmd}
use Rattle.vol_state.specs.declared.command.VolCmd.TheVariants.{PutNew, PutOver, Mkdir, Move, Remove, Park, Erase, Make, Rewrite, Place}
use Rattle.vol_state.specs.State.{uid_of}
use Rattle.vol_state.specs.Sums.{content_sum}
use Rattle.vol_state.specs.Conditions.{root_uid}
use Rattle.vol_state.specs.Effects.{at_place, stamp, with_bytes}
use Rattle.vol_state.specs.Tables.{IsAt, IsEmpty, IsNew, IsReplica}
use Rattle.record_db.specs.Records.{Has}
use Rattle.name_rules.specs.Next.{IsDue, IsPending, IsQuiet}
use Rattle.name_rules.specs.Tree.{is_file, kind_of}
use Rattle.name_rules.proofs.Showing.{shown_record}
use Rattle.world_model.specs.World.{Member}
use Rattle.world_model.specs.Events.{operated}
use Rattle.world_model.specs.Invariant.{HasSum, JournalIsTrue, MemberIsSound, PlacesAreATree}
use Rattle.world_model.proofs.Facts.{at_case, none_some, some_is, true_false}
use Rattle.world_model.proofs.Writing.{changes_is, logs, loses_is, made_object, wrote}
use Rattle.world_model.proofs.Chains.{beside, journal_quiet, numbers_written, there}
use Rattle.world_model.proofs.Writes.{tree_gone, tree_keep, tree_move, tree_new, tree_park}
use Rattle.world_model.proofs.Locally.{fid_is_new, not_zero, with_volume}

-- a present file is present
pub file_present : (u : Update) → is_file u ≡ true → u.present ≡ true
file_present u e = go u.present e
  where
    go : (b : Bool) → (b && not (is_directory u)) ≡ true → b ≡ true
    go true e = refl
    go false e = absurd (cc)

-- and no directory
pub file_split : (u : Update) → is_file u ≡ true → is_directory u ≡ false
file_split u e = go u.present (is_directory u) e
  where
    go : (p d : Bool) → (p && not d) ≡ true → d ≡ false
    go p false e = refl
    go true true e = absurd (true_false false e refl)
    go false true e = absurd (true_false false e refl)

-- a present file is of the kind of files
pub file_kind : (u : Update) → is_file u ≡ true → kind_of u ≡ File
file_kind u is = go (is_directory u) (file_split u is)
  where
    go : (d : Bool) → d ≡ false → cond d Directory File ≡ File
    go false e = refl
    go true e = absurd (true_false true refl e)

-- it is quiet after a step of the installer
quiet_now : (x : Member) (f : ℕ) (o : Option Object) (e : VolRecord) → IsQuiet x.consumed x.volume → e.local ≡ false → (n : ℕ) (d : VolRecord) → x.consumed ≤ n
    → (wrote x.volume f o e).entry n ≡ Some d → d.local ≡ true → ⊥
quiet_now x f o e quiet remote n d l at t = at_case ⊥ x.volume.entry x.volume.next_usn (Some e) n (Some d) at
    (λ k q. true_false d.local t (ap (λ z. z.local) (sym (some_is e d q)) ∙ remote))
    (λ k q. true_false d.local t (quiet n d l q))

-- where the journal is quiet no file is pending
pub no_pending : (x : Member) (id : Uid) → IsQuiet x.consumed x.volume → IsPending x.consumed x.volume id → ⊥
no_pending x id quiet (n, d, l, at, t, s) = true_false d.local t (quiet n d l at)

-- and no object's last local USN
no_last : (own : ℕ) (x : Member) (f : ℕ) (o : Object) → IsQuiet x.consumed x.volume → JournalIsTrue own x.volume x.consumed → x.volume.at f ≡ Some o → x.consumed ≤ o.last_local → ⊥
no_last own x f o quiet j at l = let (d, q, t, r2, r3, r4) = j.last f o at l in true_false d.local t (quiet o.last_local d l q)

-- an object is written, and no local record is pending
wrote_quiet : (Known Records : Update → Type 0) (own : ℕ) (x : Member) (f : ℕ) (y : Object) (e : VolRecord) → IsQuiet x.consumed x.volume → MemberIsSound Known Records own x
    → e.local ≡ false → e.fid ≡ f → f ≢ 0
    → PlacesAreATree own (wrote x.volume f (Some y) e)
    → (y.born ≤ x.volume.next_usn) × (y.last_local ≤ x.volume.next_usn) × (y.tag ≡ None → y.born ≤ y.last_local)
    → (x.consumed ≤ y.last_local → ⊥)
    → Has Records (uid_of own y)
    → ((u : Update) → Known u → u.uid ≡ uid_of own y → kind_of u ≡ y.kind)
    → ((t : Uid) → y.tag ≡ Some t → Has Records t)
    → (uid_of own y ≢ root_uid)
    → ((u : Update) (o : Object) → Records u → is_file u ≡ true → x.volume.at f ≡ Some o → uid_of own o ≡ u.uid → o.sum ≡ u.hash → (uid_of own y ≡ u.uid) × (y.sum ≡ u.hash))
    → MemberIsSound Known Records own (with_volume x (wrote x.volume f (Some y) e))
wrote_quiet Known Records own x f y e quiet s remote fid apart tree small late has kinds tags root content = record {
  places = tree;
  numbers = numbers_written x.volume x.consumed f (Some y) e s.numbers apart fid (λ z k. subst (λ (o : Object). (o.born ≤ x.volume.next_usn) × (o.last_local ≤ x.volume.next_usn) × (o.tag ≡ None → o.born ≤ o.last_local)) (some_is y z k) small);
  journal = journal_quiet own new.volume x.consumed (quiet_now x f (Some y) e quiet remote)
      (λ g z a l. at_case ⊥ x.volume.at f (Some y) g (Some z) a
      (λ i k. late (subst (λ (o : Object). x.consumed ≤ o.last_local) (sym (some_is y z k)) l))
      (λ i k. no_last own x g z quiet s.journal k l));
  objects = record {
    recorded = λ g z a. at_case (IsPending new.consumed new.volume (uid_of own z) ⊎ Has Records (uid_of own z)) x.volume.at f (Some y) g (Some z) a
        (λ i k. inr (subst (Has Records) (ap (uid_of own) (some_is y z k)) has))
        (λ i k. elim (s.objects.recorded g z k) [ inl p ↦ absurd (no_pending x (uid_of own z) quiet p) | inr r ↦ inr r ]);
    reached = λ g z a p. absurd (quiet_now x f (Some y) e quiet remote p.0 p.1 p.2 p.3 p.4);
    kinds = λ g z u a b k. at_case (kind_of u ≡ z.kind) x.volume.at f (Some y) g (Some z) a
        (λ i q. let same = some_is y z q in kinds u b (k ∙ ap (uid_of own) (sym same)) ∙ ap (λ w. w.kind) same)
        (λ i q. s.objects.kinds g z u q b k);
    tagged = λ g z t a k. at_case (Has Records t) x.volume.at f (Some y) g (Some z) a
        (λ i q. tags t (ap (λ w. w.tag) (some_is y z q) ∙ k))
        (λ i q. s.objects.tagged g z t q k);
    no_root = λ g z a k. at_case ⊥ x.volume.at f (Some y) g (Some z) a
        (λ i q. root (ap (uid_of own) (some_is y z q) ∙ k))
        (λ i q. s.objects.no_root g z q k);
  };
  contents = record { keeps = λ u r i. go u r i (s.contents.keeps u r i); staged = s.contents.staged };
}
  where
    new : Member
    new = with_volume x (wrote x.volume f (Some y) e)

    go : (u : Update) → Records u → is_file u ≡ true → (x.staged u.uid ≡ Some u.hash) ⊎ (HasSum own x.volume u.uid u.hash ⊎ IsPending x.consumed x.volume u.uid) → (x.staged u.uid ≡ Some u.hash) ⊎ (HasSum own new.volume u.uid u.hash ⊎ IsPending new.consumed new.volume u.uid)
    go u r i (inl k) = inl k
    go u r i (inr (inr p)) = absurd (no_pending x u.uid quiet p)
    go u r i (inr (inl (g, z, at, id, c))) = elim (cases_eq g f) [
      | inl k ↦ let (id', c') = content u z r i (subst (λ j. x.volume.at j ≡ Some z) k at) id c in inr (inl (f, y, there x.volume f (Some y) e, id', c'))
      | inr n ↦ inr (inl (g, z, beside x.volume f (Some y) e g (Some z) n at, id, c))
    ]

-- each object has a record then
has_record : (Known Records : Update → Type 0) (own : ℕ) (x : Member) (f : ℕ) (o : Object) → IsQuiet x.consumed x.volume → MemberIsSound Known Records own x
    → x.volume.at f ≡ Some o → Has Records (uid_of own o)
has_record Known Records own x f o quiet s at = elim (s.objects.recorded f o at) [ inl p ↦ absurd (no_pending x (uid_of own o) quiet p) | inr r ↦ r ]

-- an object is changed by a step of the installer
changes_sound : (Known Records : Update → Type 0) (own : ℕ) (x : Member) (op : ℕ) (f : ℕ) (o y : Object) → IsQuiet x.consumed x.volume → MemberIsSound Known Records own x → IsAt x.volume f o
    → y.kind ≡ o.kind → y.born ≡ o.born → y.tag ≡ o.tag → y.last_local ≡ o.last_local
    → PlacesAreATree own (wrote x.volume f (Some y) (logs x.volume f (uid_of own o) op false))
    → ((u : Update) → Records u → is_file u ≡ true → uid_of own o ≡ u.uid → o.sum ≡ u.hash → y.sum ≡ u.hash)
    → MemberIsSound Known Records own (with_volume x (wrote x.volume f (Some y) (logs x.volume f (uid_of own o) op false)))
changes_sound Known Records own x op f o y quiet s at kind born tag last tree sum =
    wrote_quiet Known Records own x f y (logs x.volume f (uid_of own o) op false) quiet s refl refl (not_zero x.volume x.consumed f o s.numbers at) tree
    (let b = s.numbers.born f o at in let l = s.numbers.last f o at in (omega (arith, b, born), omega (arith, l, last), λ k. let c = s.numbers.first f o at (sym tag ∙ k) in omega (arith, c, born, last)))
    (λ l. no_last own x f o quiet s.journal at (subst (λ n. x.consumed ≤ n) last l))
    (subst (Has Records) uid (has_record Known Records own x f o quiet s at))
    (λ u a k. s.objects.kinds f o u at a (k ∙ sym uid) ∙ sym kind)
    (λ t k. s.objects.tagged f o t at (sym tag ∙ k))
    (λ k. s.objects.no_root f o at (uid ∙ k))
    (λ u z q i a id c. let same = some_is z o (sym a ∙ at) in let here : uid_of own o ≡ u.uid = ap (uid_of own) (sym same) ∙ id in (sym uid ∙ here, sum u q i here (ap (λ w. w.sum) (sym same) ∙ c)))
  where
    uid : uid_of own o ≡ uid_of own y
    uid = λ i. unwrap_or (tag_is i) (record { db = own; version = born_is i })
      where
        tag_is : o.tag ≡ y.tag
        tag_is = sym tag

        born_is : o.born ≡ y.born
        born_is = sym born

-- a file or directory of a shown record is made, in limbo
makes_sound : (Known Records : Update → Type 0) (own : ℕ) (x : Member) (id : Uid) (kind : Kind) (bytes : List ℕ) (r : Update) → 9 ≤ x.consumed → ((u : Update) → Records u → Known u)
    → ((u v : Update) → Known u → Known v → u.uid ≡ v.uid → kind_of u ≡ kind_of v) → IsQuiet x.consumed x.volume → MemberIsSound Known Records own x
    → Records r → r.uid ≡ id → kind ≡ kind_of r → id ≢ root_uid → IsNew own x.volume id
    → MemberIsSound Known Records own (with_volume x (wrote x.volume x.volume.next_fid (Some (made_object x.volume false None kind bytes (Some id) 0)) (logs x.volume x.volume.next_fid id 8 false)))
makes_sound Known Records own x id kind bytes r begun inside kinds quiet s is_record uid is_kind root free =
    let has : Has Records id = (r, is_record, uid) in
    let h = s.numbers.next in
    wrote_quiet Known Records own x x.volume.next_fid (made_object x.volume false None kind bytes (Some id) 0) (logs x.volume x.volume.next_fid id 8 false) quiet s refl refl (λ z. omega (arith, h, z))
    (tree_new own x.volume x.volume.next_fid _ _ s.places (fid_is_new x.volume x.consumed s.numbers) free (inl refl)) (omega arith, omega arith, λ k. absurd (none_some id (sym k))) (λ l. omega (arith, l, begun)) has
    (λ u a k. kinds u r a (inside r is_record) (k ∙ sym uid) ∙ sym is_kind) (λ t k. subst (Has Records) (some_is id t k) has) root
    (λ u z q i a k c. absurd (none_some z (sym (fid_is_new x.volume x.consumed s.numbers) ∙ a)))

-- an object of a tombstone goes
erases_sound : (Known Records : Update → Type 0) (own : ℕ) (x : Member) (f : ℕ) (o : Object) (r : Update) → ((u v : Update) → Records u → Records v → u.uid ≡ v.uid → u ≡ v)
    → IsQuiet x.consumed x.volume → MemberIsSound Known Records own x → IsAt x.volume f o → Records r → r.uid ≡ uid_of own o → r.present ≡ false → IsEmpty x.volume f
    → MemberIsSound Known Records own (with_volume x (wrote x.volume f None (logs x.volume f (uid_of own o) 7 false)))
erases_sound Known Records own x f o r one quiet s at is_record uid absent bare = record {
  places = tree_gone own x.volume f e s.places bare;
  numbers = numbers_written x.volume x.consumed f None e s.numbers (not_zero x.volume x.consumed f o s.numbers at) refl (λ z k. absurd (none_some z k));
  journal = journal_quiet own new.volume x.consumed (quiet_now x f None e quiet refl)
      (λ g z a l. at_case ⊥ x.volume.at f None g (Some z) a (λ i k. none_some z k) (λ i k. no_last own x g z quiet s.journal k l));
  objects = record {
    recorded = λ g z a. at_case (IsPending new.consumed new.volume (uid_of own z) ⊎ Has Records (uid_of own z)) x.volume.at f None g (Some z) a
        (λ i k. absurd (none_some z k))
        (λ i k. elim (s.objects.recorded g z k) [ inl p ↦ absurd (no_pending x (uid_of own z) quiet p) | inr r ↦ inr r ]);
    reached = λ g z a p. absurd (quiet_now x f None e quiet refl p.0 p.1 p.2 p.3 p.4);
    kinds = λ g z u a b k. at_case (kind_of u ≡ z.kind) x.volume.at f None g (Some z) a (λ i q. absurd (none_some z q)) (λ i q. s.objects.kinds g z u q b k);
    tagged = λ g z t a k. at_case (Has Records t) x.volume.at f None g (Some z) a (λ i q. absurd (none_some z q)) (λ i q. s.objects.tagged g z t q k);
    no_root = λ g z a k. at_case ⊥ x.volume.at f None g (Some z) a (λ i q. none_some z q) (λ i q. s.objects.no_root g z q k);
  };
  contents = record { keeps = λ u q i. go u q i (s.contents.keeps u q i); staged = s.contents.staged };
}
  where
    e : VolRecord
    e = logs x.volume f (uid_of own o) 7 false

    new : Member
    new = with_volume x (wrote x.volume f None e)

    go : (u : Update) → Records u → is_file u ≡ true → (x.staged u.uid ≡ Some u.hash) ⊎ (HasSum own x.volume u.uid u.hash ⊎ IsPending x.consumed x.volume u.uid) → (x.staged u.uid ≡ Some u.hash) ⊎ (HasSum own new.volume u.uid u.hash ⊎ IsPending new.consumed new.volume u.uid)
    go u q i (inl k) = inl k
    go u q i (inr (inr p)) = absurd (no_pending x u.uid quiet p)
    go u q i (inr (inl (g, z, a, id, c))) = elim (cases_eq g f) [
      | inl k ↦
          let same : z ≡ o = some_is z o (sym (subst (λ j. x.volume.at j ≡ Some z) k a) ∙ at) in
          let is : r ≡ u = one r u is_record q (uid ∙ ap (uid_of own) (sym same) ∙ id) in
          absurd (true_false u.present (file_present u i) (ap (λ w. w.present) (sym is) ∙ absent))
      | inr n ↦ inr (inl (g, z, beside x.volume f None e g (Some z) n a, id, c))
    ]

-- every step of the installer on the volume keeps a member sound
pub replica_sound : (Known Records : Update → Type 0) (own : ℕ) (x : Member) (op : VolCmd) → ((u v : Update) → Records u → Records v → u.uid ≡ v.uid → u ≡ v) → 9 ≤ x.consumed
    → ((u : Update) → Records u → Known u) → ((u v : Update) → Known u → Known v → u.uid ≡ v.uid → kind_of u ≡ kind_of v)
    → IsQuiet x.consumed x.volume → IsDue Records own x.volume x.staged op → IsReplica own x.volume op → MemberIsSound Known Records own x
    → MemberIsSound Known Records own (operated own op x)
replica_sound Known Records own x (Park fid) one begun inside kinds quiet due (o, at, placed) s =
    subst (λ v. MemberIsSound Known Records own (with_volume x v)) (sym (changes_is own 6 false fid (at_place None) x.volume o at))
    (changes_sound Known Records own x 6 fid o (stamp false x.volume.next_usn (at_place None o)) quiet s at refl refl refl refl (tree_park own x.volume fid o _ _ s.places at refl refl refl) (λ u q i id c. c))
replica_sound Known Records own x (Rewrite fid bytes) one begun inside kinds quiet (q, r, at', is_record, uid, file, differs, staged, sum) (o, at, plain) s =
    subst (λ v. MemberIsSound Known Records own (with_volume x v)) (sym (changes_is own 9 false fid (with_bytes bytes) x.volume o at))
    (changes_sound Known Records own x 9 fid o (stamp false x.volume.next_usn (with_bytes bytes o)) quiet s at refl refl refl refl (tree_keep own x.volume fid o _ _ s.places at refl refl refl)
    (λ u a i id c. ap (λ z. content_sum z.kind bytes) (some_is o q (sym at ∙ at')) ∙ sum ∙ ap (λ w. w.hash) (one r u is_record a (uid ∙ ap (uid_of own) (some_is q o (sym at' ∙ at)) ∙ id))))
replica_sound Known Records own x (Place fid parent name) one begun inside kinds quiet due (o, at, limbo, dir, beneath, free) s =
    subst (λ v. MemberIsSound Known Records own (with_volume x v)) (sym (changes_is own 10 false fid (at_place (Some (parent, name))) x.volume o at))
    (changes_sound Known Records own x 10 fid o (stamp false x.volume.next_usn (at_place (Some (parent, name)) o)) quiet s at refl refl refl refl
    (tree_move own x.volume fid o _ (parent, name) _ s.places at refl refl refl dir beneath free) (λ u q i id c. c))
replica_sound Known Records own x (Make id kind bytes) one begun inside kinds quiet (r, shown, uid, is_kind, staged) (root, free, bare) s =
    makes_sound Known Records own x id kind bytes r begun inside kinds quiet s (shown_record Records r shown) uid is_kind root free
replica_sound Known Records own x (Erase fid) one begun inside kinds quiet (q, r, at', is_record, uid, absent) (o, at, limbo, bare) s =
    subst (λ v. MemberIsSound Known Records own (with_volume x v)) (sym (loses_is own 7 false fid x.volume o at))
    (erases_sound Known Records own x fid o r one quiet s at is_record (uid ∙ ap (uid_of own) (some_is q o (sym at' ∙ at))) absent bare)
replica_sound Known Records own x (PutNew parent name bytes) one begun inside kinds quiet due h s = absurd h
replica_sound Known Records own x (PutOver fid bytes) one begun inside kinds quiet due h s = absurd h
replica_sound Known Records own x (Mkdir parent name) one begun inside kinds quiet due h s = absurd h
replica_sound Known Records own x (Move fid parent name) one begun inside kinds quiet due h s = absurd h
replica_sound Known Records own x (Remove fid) one begun inside kinds quiet due h s = absurd h
