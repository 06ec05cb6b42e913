-- What a local operation keeps.
use Rattle.std.proofs.Common.{◌≡◌, ◌≢◌, ◌<◌, ◌≤◌, ◌⊎◌, ℕ, suc, true, false, List, [], refl, sym, ap, ◌∙◌, subst, arith, inl, inr, Option, Some, None}
use Rattle.std.specs.Prelude.{unwrap_or}
use Rattle.std.proofs.lemmas.Bool.{cases_eq}
use Rattle.frs_base.specs.declared.kind.Kind.{Kind}
use Rattle.frs_base.specs.declared.kind.Kind.TheVariants.{File, Directory}
use Rattle.frs_base.specs.declared.version.Uid.{Uid}
use Rattle.win_order.specs.declared.update.Update.{Update}
use Rattle.vol_state.specs.declared.object.Object.{Object}
use Rattle.vol_state.specs.declared.record.VolRecord.{VolRecord}
use Rattle.vol_state.specs.declared.command.VolCmd.{VolCmd}
use Rattle.vol_state.specs.declared.command.VolCmd.TheVariants.{PutNew, PutOver, Mkdir, Move, Remove, Park, Erase, Make, Rewrite, Place}
use Rattle.vol_state.specs.State.{uid_of}
use Rattle.vol_state.specs.Conditions.{root_uid}
use Rattle.vol_state.specs.Effects.{at_place, stamp, with_bytes}
use Rattle.vol_state.specs.Maps.{Maps}
use Rattle.vol_state.specs.Tables.{IsAt, IsBeneath, IsDirectory, IsEmpty, IsFree, IsLocal, IsReached, Leads}
use Rattle.record_db.specs.Records.{Has}
use Rattle.name_rules.specs.Next.{IsPending}
use Rattle.name_rules.specs.Recorded.{is_deletion}
use Rattle.name_rules.specs.Tree.{kind_of}
use Rattle.world_model.specs.World.{Member}
use Rattle.world_model.specs.Events.{operated}
use Rattle.world_model.specs.Invariant.{ContentsAreKept, HasSum, MemberIsSound, NumbersAreFresh, ObjectsHaveRecords, PlacesAreATree}
use Rattle.world_model.proofs.Changing.{at_other, at_same}
use Rattle.world_model.proofs.Facts.{at_case, none_some, some_is}
use Rattle.world_model.proofs.Writing.{changes_is, logs, loses_is, made_object, wrote}
use Rattle.world_model.proofs.Chains.{KeepsPlaces, beside, journal_removed, journal_wrote, leads_beside, leads_kept, leads_through, leads_without, numbers_written, there, written_keeps}
use Rattle.world_model.proofs.Writes.{tree_gone, tree_keep, tree_move, tree_new}

-- ---- numbers that are new

-- no object has the next number
pub fid_is_new : (m : Maps) (c : ℕ) → NumbersAreFresh m c → m.at m.next_fid ≡ None
fid_is_new m c h = go (m.at m.next_fid) refl
  where
    go : (o : Option Object) → m.at m.next_fid ≡ o → o ≡ None
    go None e = refl
    go (Some o) e = let l = h.fids m.next_fid o e in absurd (omega (arith, l))

-- nor the UID that an object with it gets
pub uid_is_new : (own : ℕ) (m : Maps) (c : ℕ) → NumbersAreFresh m c
    → ((f : ℕ) (o : Object) (t : Uid) → m.at f ≡ Some o → o.tag ≡ Some t → t.db ≡ own → t.version < c)
    → (g : ℕ) (y : Object) → m.at g ≡ Some y → uid_of own y ≢ record { db = own; version = m.next_usn }
uid_is_new own m c h tags g y at = go y.tag refl
  where
    go : (t : Option Uid) → y.tag ≡ t → unwrap_or t (record { db = own; version = y.born }) ≢ record { db = own; version = m.next_usn }
    go None e s = let l = h.born g y at in let m' : y.born ≡ m.next_usn = ap (λ z. z.version) s in omega (arith, l, m')
    go (Some t) e s =
        let l : t.version < c = tags g y t at e (ap (λ z. z.db) s) in
        let same : t.version ≡ m.next_usn = ap (λ z. z.version) s in
        let w = h.consumed_is in
        omega (arith, l, w, same)

-- the member with another volume
abbrev pub with_volume : Member → Maps → Member
with_volume x m = record x { volume = m }

-- ---- pending records

-- what is pending stays so after a write
pub pending_kept : (x : Member) (f : ℕ) (o : Option Object) (e : VolRecord) (id : Uid) → NumbersAreFresh x.volume x.consumed → IsPending x.consumed x.volume id
    → IsPending x.consumed (wrote x.volume f o e) id
pending_kept x f o e id h (n, d, l, at, local, s) = let u = h.entries n d at in (n, d, l, at_other x.volume.entry x.volume.next_usn (Some e) n (λ k. omega (arith, k, u)) ∙ at, local, s)

-- the written object is pending after a local one
pub pending_new : (x : Member) (f : ℕ) (o : Option Object) (e : VolRecord) → NumbersAreFresh x.volume x.consumed → e.local ≡ true → IsPending x.consumed (wrote x.volume f o e) e.uid
pending_new x f o e h local = (x.volume.next_usn, e, h.consumed_is, at_same x.volume.entry x.volume.next_usn (Some e), local, refl)

-- and nothing else is
pub pending_old : (x : Member) (f : ℕ) (o : Option Object) (e : VolRecord) (id : Uid) → IsPending x.consumed (wrote x.volume f o e) id → (e.uid ≡ id) ⊎ IsPending x.consumed x.volume id
pending_old x f o e id (n, d, l, at, local, s) = at_case ((e.uid ≡ id) ⊎ IsPending x.consumed x.volume id) x.volume.entry x.volume.next_usn (Some e) n (Some d) at
    (λ k q. inl (ap (λ z. z.uid) (some_is e d q) ∙ s))
    (λ k q. inr (n, d, l, q, local, s))

-- ---- objects

-- objects and records after a local operation that leaves the object
objects_wrote : (Known Records : Update → Type 0) (own : ℕ) (x : Member) (f : ℕ) (y : Object) (e : VolRecord) → NumbersAreFresh x.volume x.consumed → ObjectsHaveRecords Known Records own x
    → e.local ≡ true → e.uid ≡ uid_of own y
    → ((g : ℕ) (z : Object) → g ≢ f → x.volume.at g ≡ Some z → uid_of own z ≢ uid_of own y)
    → ((g : ℕ) → IsReached x.volume g → IsReached (wrote x.volume f (Some y) e) g)
    → IsReached (wrote x.volume f (Some y) e) f
    → ((u : Update) → Known u → u.uid ≡ uid_of own y → kind_of u ≡ y.kind)
    → ((t : Uid) → y.tag ≡ Some t → Has Records t)
    → (uid_of own y ≢ root_uid)
    → ObjectsHaveRecords Known Records own (with_volume x (wrote x.volume f (Some y) e))
objects_wrote Known Records own x f y e h r local uid others reach here kinds tags root = record {
  recorded = λ g z a. at_case (IsPending new.consumed new.volume (uid_of own z) ⊎ Has Records (uid_of own z)) x.volume.at f (Some y) g (Some z) a
      (λ i s. inl (subst (IsPending new.consumed new.volume) (uid ∙ ap (uid_of own) (some_is y z s)) (pending_new x f (Some y) e h local)))
      (λ i s. elim (r.recorded g z s) [ inl p ↦ inl (pending_kept x f (Some y) e (uid_of own z) h p) | inr k ↦ inr k ]);
  reached = λ g z a p. at_case (IsReached new.volume g) x.volume.at f (Some y) g (Some z) a
      (λ i s. subst (IsReached new.volume) (sym i) here)
      (λ i s. elim (pending_old x f (Some y) e (uid_of own z) p) [ inl q ↦ absurd (others g z i s (sym q ∙ uid)) | inr q ↦ reach g (r.reached g z s q) ]);
  kinds = λ g z u a b k. at_case (kind_of u ≡ z.kind) x.volume.at f (Some y) g (Some z) a
      (λ i s. let same = some_is y z s in kinds u b (k ∙ ap (uid_of own) (sym same)) ∙ ap (λ q. q.kind) same)
      (λ i s. r.kinds g z u s b k);
  tagged = λ g z t a k. at_case (Has Records t) x.volume.at f (Some y) g (Some z) a
      (λ i s. tags t (ap (λ q. q.tag) (some_is y z s) ∙ k))
      (λ i s. r.tagged g z t s k);
  no_root = λ g z a k. at_case ⊥ x.volume.at f (Some y) g (Some z) a
      (λ i s. root (ap (uid_of own) (some_is y z s) ∙ k))
      (λ i s. r.no_root g z s k);
}
  where
    new : Member
    new = with_volume x (wrote x.volume f (Some y) e)

-- and after one that takes it away
objects_removed : (Known Records : Update → Type 0) (own : ℕ) (x : Member) (f : ℕ) (o : Object) (e : VolRecord) → NumbersAreFresh x.volume x.consumed → ObjectsHaveRecords Known Records own x
    → x.volume.at f ≡ Some o → e.uid ≡ uid_of own o → PlacesAreATree own x.volume
    → ((g : ℕ) → g ≢ f → IsReached x.volume g → IsReached (wrote x.volume f None e) g)
    → ObjectsHaveRecords Known Records own (with_volume x (wrote x.volume f None e))
objects_removed Known Records own x f o e h r at uid t reach = record {
  recorded = λ g z a. at_case (IsPending new.consumed new.volume (uid_of own z) ⊎ Has Records (uid_of own z)) x.volume.at f None g (Some z) a
      (λ i s. absurd (none_some z s))
      (λ i s. elim (r.recorded g z s) [ inl p ↦ inl (pending_kept x f None e (uid_of own z) h p) | inr k ↦ inr k ]);
  reached = λ g z a p. at_case (IsReached new.volume g) x.volume.at f None g (Some z) a
      (λ i s. absurd (none_some z s))
      (λ i s. elim (pending_old x f None e (uid_of own z) p) [ inl q ↦ absurd (i (t.uids g f z o s at (sym q ∙ uid))) | inr q ↦ reach g i (r.reached g z s q) ]);
  kinds = λ g z u a b k. at_case (kind_of u ≡ z.kind) x.volume.at f None g (Some z) a (λ i s. absurd (none_some z s)) (λ i s. r.kinds g z u s b k);
  tagged = λ g z u a k. at_case (Has Records u) x.volume.at f None g (Some z) a (λ i s. absurd (none_some z s)) (λ i s. r.tagged g z u s k);
  no_root = λ g z a k. at_case ⊥ x.volume.at f None g (Some z) a (λ i s. none_some z s) (λ i s. r.no_root g z s k);
}
  where
    new : Member
    new = with_volume x (wrote x.volume f None e)

-- the contents are there after a local operation
contents_wrote : (Known Records : Update → Type 0) (own : ℕ) (x : Member) (f : ℕ) (o : Option Object) (e : VolRecord) → NumbersAreFresh x.volume x.consumed → ContentsAreKept Records own x
    → e.local ≡ true → ((y : Object) → x.volume.at f ≡ Some y → uid_of own y ≡ e.uid) → ContentsAreKept Records own (with_volume x (wrote x.volume f o e))
contents_wrote Known Records own x f o e h k local uid = record { keeps = λ u r i. go u (k.keeps u r i); staged = k.staged }
  where
    new : Member
    new = with_volume x (wrote x.volume f o e)

    go : (u : Update) → (x.staged u.uid ≡ Some u.hash) ⊎ (HasSum own x.volume u.uid u.hash ⊎ IsPending x.consumed x.volume u.uid) → (x.staged u.uid ≡ Some u.hash) ⊎ (HasSum own new.volume u.uid u.hash ⊎ IsPending new.consumed new.volume u.uid)
    go u (inl s) = inl s
    go u (inr (inr p)) = inr (inr (pending_kept x f o e u.uid h p))
    go u (inr (inl (g, y, at, id, content))) = elim (cases_eq g f) [
      | inl s ↦ inr (inr (subst (IsPending new.consumed new.volume) (sym (uid y (subst (λ i. x.volume.at i ≡ Some y) s at)) ∙ id) (pending_new x f o e h local)))
      | inr n ↦ inr (inl (g, y, beside x.volume f o e g (Some y) n at, id, content))
    ]

-- ---- each operation

-- the root is no object
pub not_zero : (m : Maps) (c f : ℕ) (o : Object) → NumbersAreFresh m c → m.at f ≡ Some o → f ≢ 0
not_zero m c f o h at z = none_some o (sym h.root ∙ subst (λ i. m.at i ≡ Some o) z at)

-- no other object has its UID
others : {Known Records : Update → Type 0} (own : ℕ) (x : Member) (f : ℕ) (o : Object) → MemberIsSound Known Records own x → IsAt x.volume f o
    → (g : ℕ) (z : Object) → g ≢ f → x.volume.at g ≡ Some z → uid_of own z ≢ uid_of own o
others own x f o s at g z n a k = n (s.places.uids g f z o a at k)

-- a changed object is born as before, and the next USN is its last local one
newest : {Known Records : Update → Type 0} (own : ℕ) (x : Member) (f : ℕ) (o y : Object) → MemberIsSound Known Records own x → IsAt x.volume f o → y.born ≡ o.born
    → y.last_local ≡ x.volume.next_usn → y.tag ≡ o.tag
    → (q : Object) → Some y ≡ Some q → (q.born ≤ x.volume.next_usn) × (q.last_local ≤ x.volume.next_usn) × (q.tag ≡ None → q.born ≤ q.last_local)
newest own x f o y s at born last tag q k =
    let l = s.numbers.born f o at in
    subst (λ (o : Object). (o.born ≤ x.volume.next_usn) × (o.last_local ≤ x.volume.next_usn) × (o.tag ≡ None → o.born ≤ o.last_local)) (some_is y q k)
    (omega (arith, l, born), omega (arith, last), λ z. omega (arith, l, born, last))

-- a file or directory is made in an open place
makes_sound : (Known Records : Update → Type 0) (own : ℕ) (x : Member) (op : ℕ) (kind : Kind) (bytes : List ℕ) (p : ℕ × List ℕ) → (uid : Uid)
    → uid ≡ record { db = own; version = x.volume.next_usn }
    → is_deletion (logs x.volume x.volume.next_fid uid op true) ≡ false → 9 ≤ x.consumed → ((u : Update) → Records u → Known u)
    → ((u : Update) → Known u → u.uid.db ≡ own → u.uid.version < x.consumed) → MemberIsSound Known Records own x
    → IsDirectory x.volume p.0 → IsReached x.volume p.0 → IsFree x.volume x.volume.next_fid p.0 p.1
    → MemberIsSound Known Records own (with_volume x (wrote x.volume x.volume.next_fid (Some (made_object x.volume true (Some p) kind bytes None x.volume.next_usn)) (logs x.volume x.volume.next_fid uid op true)))
makes_sound Known Records own x op kind bytes p uid is keeps_it begun inside made s dir reached free = record {
  places = tree_new own m f y e s.places (fid_is_new m x.consumed s.numbers) new (inr (p, refl, dir, free));
  numbers = numbers_written m x.consumed f (Some y) e s.numbers (λ z. let l = s.numbers.next in omega (arith, l, z)) refl
      (λ q k. subst (λ (o : Object). (o.born ≤ m.next_usn) × (o.last_local ≤ m.next_usn) × (o.tag ≡ None → o.born ≤ o.last_local)) (some_is y q k) (omega arith, omega arith, λ z. omega arith));
  journal = journal_wrote own m x.consumed f y e s.numbers s.journal refl keeps_it refl is refl (λ g z n a. new g z a)
      (λ n d l a t k. let u = s.numbers.named n d a in absurd (omega (arith, k, u)));
  objects = objects_wrote Known Records own x f y e s.numbers s.objects refl is (λ g z n a. new g z a) (λ g r. (r.0, leads_kept false m (wrote m f (Some y) e) keeps r.0 g r.1))
      (suc reached.0, inr (y, there m f (Some y) e, inr (p, refl, leads_kept false m (wrote m f (Some y) e) keeps reached.0 p.0 reached.1)))
      (λ u a k.
      let l : u.uid.version < x.consumed = made u a (ap (λ z. z.db) k) in
      let same : u.uid.version ≡ m.next_usn = ap (λ z. z.version) k in
      let w = s.numbers.consumed_is in
      absurd (omega (arith, l, w, same)))
      (λ t k. absurd (none_some t k))
      (λ k. let l : m.next_usn ≡ 1 = ap (λ z. z.version) k in let w = s.numbers.consumed_is in omega (arith, l, w, begun));
  contents = contents_wrote Known Records own x f (Some y) e s.numbers s.contents refl (λ z a. absurd (none_some z (sym (fid_is_new m x.consumed s.numbers) ∙ a)));
}
  where
    m : Maps
    m = x.volume

    f : ℕ
    f = m.next_fid

    y : Object
    y = made_object m true (Some p) kind bytes None m.next_usn

    e : VolRecord
    e = logs m f uid op true

    new : (g : ℕ) (z : Object) → m.at g ≡ Some z → uid_of own z ≢ record { db = own; version = m.next_usn }
    new = uid_is_new own m x.consumed s.numbers
        (λ g z t a k d. let (r, h, q) = s.objects.tagged g z t a k in subst (λ (i : Uid). i.version < x.consumed) q (made r (inside r h) (ap (λ i. i.db) q ∙ d)))

    keeps : KeepsPlaces m (wrote m f (Some y) e)
    keeps = written_keeps m f y e (λ old b. absurd (none_some old (sym (fid_is_new m x.consumed s.numbers) ∙ b)))

-- an object gets other contents
overwrites_sound : (Known Records : Update → Type 0) (own : ℕ) (x : Member) (f : ℕ) (bytes : List ℕ) (o : Object) → MemberIsSound Known Records own x → IsAt x.volume f o
    → IsReached x.volume f
    → MemberIsSound Known Records own (with_volume x (wrote x.volume f (Some (stamp true x.volume.next_usn (with_bytes bytes o))) (logs x.volume f (uid_of own o) 2 true)))
overwrites_sound Known Records own x f bytes o s at reached = record {
  places = tree_keep own m f o y e s.places at refl refl refl;
  numbers = numbers_written m x.consumed f (Some y) e s.numbers (not_zero m x.consumed f o s.numbers at) refl (newest own x f o y s at refl refl refl);
  journal = journal_wrote own m x.consumed f y e s.numbers s.journal refl refl refl refl refl (others own x f o s at) (λ n d l a t k. s.journal.named n d o l a t (subst (λ i. m.at i ≡ Some o) (sym k) at));
  objects = objects_wrote Known Records own x f y e s.numbers s.objects refl refl (others own x f o s at) (λ g r. (r.0, leads_kept false m (wrote m f (Some y) e) keeps r.0 g r.1))
      (reached.0, leads_kept false m (wrote m f (Some y) e) keeps reached.0 f reached.1)
      (λ u a k. s.objects.kinds f o u at a k) (λ t k. s.objects.tagged f o t at k) (s.objects.no_root f o at);
  contents = contents_wrote Known Records own x f (Some y) e s.numbers s.contents refl (λ z a. ap (uid_of own) (some_is z o (sym a ∙ at)));
}
  where
    m : Maps
    m = x.volume

    y : Object
    y = stamp true m.next_usn (with_bytes bytes o)

    e : VolRecord
    e = logs m f (uid_of own o) 2 true

    keeps : KeepsPlaces m (wrote m f (Some y) e)
    keeps = written_keeps m f y e (λ old b. ap (λ z. z.place) (some_is o old (sym at ∙ b)))

-- an object gets another place
moves_sound : (Known Records : Update → Type 0) (own : ℕ) (x : Member) (f : ℕ) (p : ℕ × List ℕ) (o : Object) → MemberIsSound Known Records own x → IsAt x.volume f o
    → (IsBeneath x.volume f p.0 → ⊥) → IsDirectory x.volume p.0 → IsReached x.volume p.0 → IsFree x.volume f p.0 p.1
    → MemberIsSound Known Records own (with_volume x (wrote x.volume f (Some (stamp true x.volume.next_usn (at_place (Some p) o))) (logs x.volume f (uid_of own o) 4 true)))
moves_sound Known Records own x f p o s at beneath dir reached free = record {
  places = tree_move own m f o y p e s.places at refl refl refl dir beneath free;
  numbers = numbers_written m x.consumed f (Some y) e s.numbers (not_zero m x.consumed f o s.numbers at) refl (newest own x f o y s at refl refl refl);
  journal = journal_wrote own m x.consumed f y e s.numbers s.journal refl refl refl refl refl (others own x f o s at) (λ n d l a t k. s.journal.named n d o l a t (subst (λ i. m.at i ≡ Some o) (sym k) at));
  objects = objects_wrote Known Records own x f y e s.numbers s.objects refl refl (others own x f o s at) (λ g r. leads_through false m f (Some y) e on r.0 g r.1) on
      (λ u a k. s.objects.kinds f o u at a k) (λ t k. s.objects.tagged f o t at k) (s.objects.no_root f o at);
  contents = contents_wrote Known Records own x f (Some y) e s.numbers s.contents refl (λ z a. ap (uid_of own) (some_is z o (sym a ∙ at)));
}
  where
    m : Maps
    m = x.volume

    y : Object
    y = stamp true m.next_usn (at_place (Some p) o)

    e : VolRecord
    e = logs m f (uid_of own o) 4 true

    on : Leads false (wrote m f (Some y) e) f
    on = (suc reached.0, inr (y, there m f (Some y) e, inr (p, refl, leads_beside false m f (Some y) e reached.0 p.0 beneath reached.1)))

-- an object with nothing beneath it goes
removes_sound : (Known Records : Update → Type 0) (own : ℕ) (x : Member) (f : ℕ) (o : Object) → MemberIsSound Known Records own x → IsAt x.volume f o → IsEmpty x.volume f
    → MemberIsSound Known Records own (with_volume x (wrote x.volume f None (logs x.volume f (uid_of own o) 5 true)))
removes_sound Known Records own x f o s at bare = record {
  places = tree_gone own m f e s.places bare;
  numbers = numbers_written m x.consumed f None e s.numbers (not_zero m x.consumed f o s.numbers at) refl (λ q k. absurd (none_some q k));
  journal = journal_removed own m x.consumed f o e s.numbers s.journal at refl refl refl refl (others own x f o s at);
  objects = objects_removed Known Records own x f o e s.numbers s.objects at refl s.places (λ g n r. (r.0, leads_without false m f None e bare r.0 g n r.1));
  contents = contents_wrote Known Records own x f None e s.numbers s.contents refl (λ z a. ap (uid_of own) (some_is z o (sym a ∙ at)));
}
  where
    m : Maps
    m = x.volume

    e : VolRecord
    e = logs m f (uid_of own o) 5 true

-- every local operation keeps a member sound
pub local_sound : (Known Records : Update → Type 0) (own : ℕ) (x : Member) (op : VolCmd) → 9 ≤ x.consumed → ((u : Update) → Records u → Known u)
    → ((u : Update) → Known u → u.uid.db ≡ own → u.uid.version < x.consumed)
    → MemberIsSound Known Records own x → IsLocal x.volume op → MemberIsSound Known Records own (operated own op x)
local_sound Known Records own x (PutNew parent name bytes) begun inside made s (short, (dir, reached, free)) =
    makes_sound Known Records own x 1 File bytes (parent, name) _ refl refl begun inside made s dir reached free
local_sound Known Records own x (Mkdir parent name) begun inside made s (dir, reached, free) =
    makes_sound Known Records own x 3 Directory [] (parent, name) _ refl refl begun inside made s dir reached free
local_sound Known Records own x (PutOver fid bytes) begun inside made s (short, o, at, reached, file) =
    subst (λ v. MemberIsSound Known Records own (with_volume x v)) (sym (changes_is own 2 true fid (with_bytes bytes) x.volume o at)) (overwrites_sound Known Records own x fid bytes o s at reached)
local_sound Known Records own x (Move fid parent name) begun inside made s (o, at, reached, beneath, open_place) =
    subst (λ v. MemberIsSound Known Records own (with_volume x v)) (sym (changes_is own 4 true fid (at_place (Some (parent, name))) x.volume o at))
    (moves_sound Known Records own x fid (parent, name) o s at beneath open_place.0 open_place.1 open_place.2)
local_sound Known Records own x (Remove fid) begun inside made s (o, at, reached, bare) =
    subst (λ v. MemberIsSound Known Records own (with_volume x v)) (sym (loses_is own 5 true fid x.volume o at)) (removes_sound Known Records own x fid o s at bare)
local_sound Known Records own x (Park fid) begun inside made s h = absurd h
local_sound Known Records own x (Erase fid) begun inside made s h = absurd h
local_sound Known Records own x (Make uid kind bytes) begun inside made s h = absurd h
local_sound Known Records own x (Rewrite fid bytes) begun inside made s h = absurd h
local_sound Known Records own x (Place fid parent name) begun inside made s h = absurd h
