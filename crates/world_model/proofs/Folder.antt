-- A folder stays sound, whatever its partners send.
use Rattle.std.proofs.Common.{◌≡◌, ◌≢◌, ◌<◌, ◌≤◌, ◌+◌, ◌⊎◌, ℕ, Bool, true, false, ltb, List, [], ◌∷◌, refl, sym, ap, ◌∙◌, subst, arith, inl, inr, Option, Some, None}
use Rattle.std.specs.Prelude.{unwrap_or}
use Rattle.std.proofs.lemmas.Bool.{cases_eq}
use Rattle.std.proofs.lemmas.Bool.Decides.{nat_tests}
use Rattle.frs_base.specs.Options.{In}
use Rattle.frs_base.specs.declared.kind.Phase.TheVariants.{Normal}
use Rattle.frs_base.specs.declared.version.Gvsn.{Gvsn}
use Rattle.frs_base.specs.declared.version.Uid.{Uid}
use Rattle.win_order.specs.declared.update.Update.{Update}
use Rattle.vol_state.specs.declared.object.Object.{Object}
use Rattle.vol_state.specs.declared.record.VolRecord.{VolRecord}
use Rattle.vol_state.specs.State.{uid_of}
use Rattle.vol_state.specs.Conditions.{root_uid}
use Rattle.vol_state.specs.Tables.{IsAt}
use Rattle.record_db.specs.Records.{IsRecord, both, plus}
use Rattle.record_db.specs.Lists.{IsRising, put_any, put_record}
use Rattle.record_db.proofs.Keys.{uid_apart, uid_cases}
use Rattle.record_db.proofs.Sets.{both_cases, both_old, plus_cases, plus_new, plus_old}
use Rattle.record_db.proofs.Lists.{above, in_put, put_in, put_keeps, put_rising}
use Rattle.name_rules.specs.Recorded.{base_fence, is_deletion, recorded_of}
use Rattle.name_rules.specs.Tree.{kind_of}
use Rattle.name_rules.proofs.Cases.{made_by, made_version}
use Rattle.world_model.specs.World.{Member, fresh_member}
use Rattle.world_model.specs.Events.{adopted_by, consumed_by, finished_by, operated, unstaged_at}
use Rattle.world_model.specs.Folder.{FolderIsSound, IsFit, IsFound, VersionsAreKept}
use Rattle.world_model.specs.Laws.{AllFoldersStaySound, FoldersBeginSound}
use Rattle.world_model.proofs.Facts.{true_false}
use Rattle.world_model.proofs.Locally.{local_sound}
use Rattle.world_model.proofs.Installed.{replica_sound}
use Rattle.world_model.proofs.Consumed.{PutsTo, consume_nothing, consume_some}
use Rattle.world_model.proofs.Adopted.{adopt_sound, known_sound, same_sound, unstage_sound}
use Rattle.world_model.proofs.Fresh.{fresh_sound}

-- putting an update in a list puts it among its records
puts_list : (u : Update) (records : List Update) → IsRising records → PutsTo (λ v. In v records) (λ v. In v (put_record u records)) u
puts_list u records up = record { new = put_in u records; old = λ v h n. put_keeps u v records h n; only = λ v h. in_put u v records up h }

-- a list in order has one record of a file
pub one_of : (records : List Update) → IsRising records → (u v : Update) → In u records → In v records → u.uid ≡ v.uid → u ≡ v
one_of [] up u v a b s = absurd a
one_of (r ∷ rs) up u v (inl a) (inl b) s = a ∙ sym b
one_of (r ∷ rs) up u v (inl a) (inr b) s = absurd (uid_apart r.uid v.uid (above r v rs up.0 b) (ap (λ z. z.uid) (sym a) ∙ s))
one_of (r ∷ rs) up u v (inr a) (inl b) s = absurd (uid_apart r.uid u.uid (above r u rs up.0 a) (ap (λ z. z.uid) (sym b) ∙ sym s))
one_of (r ∷ rs) up u v (inr a) (inr b) s = one_of rs up.1 u v a b s

-- what isn't below is at or above
late : (n l : ℕ) → ltb n l ≡ false → l ≤ n
late n l k = grind (arith, nat_tests)

-- the update's file is the held record's, or an object's
consumed_uid : (own : ℕ) (x : Member) (records : List Update) (moment : ℕ) (e : VolRecord) (held : Option Update) (u : Update) (P : Uid → Type 0) → FolderIsSound own x records
    → x.volume.entry x.consumed ≡ Some e → IsFound records e.uid held
    → Some u ≡ recorded_of own x.volume (base_fence x.phase x.kind) x.consumed moment e held
    → ((r : Update) → In r records → P r.uid) → ((y : Object) → x.volume.at e.fid ≡ Some y → y.last_local ≤ x.consumed → P (uid_of own y)) → P u.uid
consumed_uid own x records moment e held u P h at found is of_record of_object = elim (made_by own x.volume (base_fence x.phase x.kind) x.consumed moment e.local (is_deletion e) held (x.volume.at e.fid) u is).1 [
  | inl d ↦ let k = subst (IsFound records e.uid) d.was found in subst P (ap (λ z. z.uid) (sym d.is)) (of_record d.old k.0)
  | inr y ↦ subst P (ap (λ z. z.uid) (sym y.is)) (of_object y.now y.there (late x.consumed y.now.last_local y.newest))
]

-- ---- versions

-- those of a set that is covered stay, where no other of the member's own is covered
versions_more : (own : ℕ) (x y : Member) (records : List Update) → x.consumed ≡ y.consumed → ((g : Gvsn) → x.known g ≡ true → y.known g ≡ true)
    → ((g : Gvsn) → y.known g ≡ true → g.db ≡ own → g.version < x.consumed) → VersionsAreKept own x records → VersionsAreKept own y records
versions_more own x y records same more less h = record {
  own_consumed = λ g k e. let l = less g k e in omega (arith, l, same);
  own_covered = λ n low high. more _ (h.own_covered n low (omega (arith, high, same)));
  recorded = λ u a. more u.gvsn (h.recorded u a);
  one_each = h.one_each;
}

-- a version that wasn't covered is that of no record
one_more : (own : ℕ) (x : Member) (records : List Update) (u : Update) → IsRising records → VersionsAreKept own x records → x.known u.gvsn ≡ false
    → (a b : Update) → In a (put_record u records) → In b (put_record u records) → a.gvsn ≡ b.gvsn → a ≡ b
one_more own x records u up h new a b p q s = by (in_put u a records up p) (in_put u b records up q)
  where
    by : (a ≡ u) ⊎ (In a records × (a.uid ≢ u.uid)) → (b ≡ u) ⊎ (In b records × (b.uid ≢ u.uid)) → a ≡ b
    by (inl e) (inl f) = e ∙ sym f
    by (inl e) (inr f) = absurd (true_false (x.known u.gvsn) (ap x.known (ap (λ z. z.gvsn) (sym e) ∙ s) ∙ h.recorded b f.0) new)
    by (inr e) (inl f) = absurd (true_false (x.known u.gvsn) (ap x.known (ap (λ z. z.gvsn) (sym f) ∙ sym s) ∙ h.recorded a e.0) new)
    by (inr e) (inr f) = h.one_each a b e.0 f.0 s

-- an update of a version that wasn't covered is put
versions_put : (own : ℕ) (x y : Member) (records : List Update) (u : Update) → IsRising records → x.consumed ≤ y.consumed → ((g : Gvsn) → x.known g ≡ true → y.known g ≡ true)
    → y.known u.gvsn ≡ true
    → ((g : Gvsn) → y.known g ≡ true → g.db ≡ own → g.version < y.consumed) → ((n : ℕ) → 9 ≤ n → n < y.consumed → y.known (record { db = own; version = n }) ≡ true)
    → x.known u.gvsn ≡ false → VersionsAreKept own x records → VersionsAreKept own y (put_record u records)
versions_put own x y records u up later more here less whole new h = record {
  own_consumed = less;
  own_covered = whole;
  recorded = λ v a. elim (in_put u v records up a) [ inl e ↦ ap (λ z. y.known z.gvsn) e ∙ here | inr old ↦ more v.gvsn (h.recorded v old.0) ];
  one_each = one_more own x records u up h new;
}

-- the next own version isn't covered
next_new : (own : ℕ) (x : Member) (records : List Update) → VersionsAreKept own x records → x.known (record { db = own; version = x.consumed }) ≡ false
next_new own x records h = by (x.known (record { db = own; version = x.consumed })) refl
  where
    by : (b : Bool) → x.known (record { db = own; version = x.consumed }) ≡ b → b ≡ false
    by false e = refl
    by true e = let l = h.own_consumed _ e refl in absurd (omega (arith, l))

-- a record consumed, its version is covered
consumed_less : (own : ℕ) (x : Member) (made : Option Update) (records : List Update) → VersionsAreKept own x records → (g : Gvsn) → (consumed_by own made x).known g ≡ true
    → g.db ≡ own → g.version < x.consumed + 1
consumed_less own x made records h g k e = elim (plus_cases x.known (record { db = own; version = x.consumed }) g k) [
  | inl s ↦ let v : g.version ≡ x.consumed = ap (λ z. z.version) s in omega (arith, v)
  | inr old ↦ let l = h.own_consumed g old e in omega (arith, l)
]

consumed_whole : (own : ℕ) (x : Member) (made : Option Update) (records : List Update) → VersionsAreKept own x records → (n : ℕ) → 9 ≤ n → n < x.consumed + 1
    → (consumed_by own made x).known (record { db = own; version = n }) ≡ true
consumed_whole own x made records h n low high = elim (cases_eq n x.consumed) [
  | inl s ↦ subst (λ i. (consumed_by own made x).known (record { db = own; version = i }) ≡ true) (sym s) (plus_new x.known (record { db = own; version = x.consumed }))
  | inr n' ↦ plus_old x.known _ _ (h.own_covered n low (omega (arith, high, n')))
]

-- ---- consuming

-- consuming keeps a member alone sound
folder_consumes : (own : ℕ) (x : Member) (records : List Update) → FolderIsSound own x records → (moment : ℕ) (e : VolRecord) (held made : Option Update)
    → x.volume.entry x.consumed ≡ Some e → IsFound records e.uid held
    → made ≡ recorded_of own x.volume (base_fence x.phase x.kind) x.consumed moment e held → FolderIsSound own (consumed_by own made x) (put_any made records)
folder_consumes own x records h moment e held None at found is = record {
  begun = let b = h.begun in omega (arith, b);
  rising = h.rising;
  versions = record {
    own_consumed = consumed_less own x None records h.versions;
    own_covered = consumed_whole own x None records h.versions;
    recorded = λ u a. plus_old x.known _ u.gvsn (h.versions.recorded u a);
    one_each = h.versions.one_each;
  };
  made = λ v a d. let l = h.made v a d in omega (arith, l);
  no_root = h.no_root;
  member = consume_nothing (λ u. In u records) (λ u. In u records) (λ u. In u records) (λ u. In u records) own (base_fence x.phase x.kind) moment x e held (one_of records h.rising)
      (record { to = λ v r. r; back = λ v r. r }) (λ v r. r) h.member at found is;
}
folder_consumes own x records h moment e held (Some u) at found is = record {
  begun = let b = h.begun in omega (arith, b);
  rising = put_rising u records h.rising;
  versions = versions_put own x (consumed_by own (Some u) x) records u h.rising (omega arith) (λ g k. plus_old x.known _ g k)
      (subst (λ g. plus x.known (record { db = own; version = x.consumed }) g ≡ true) (sym version) (plus_new x.known (record { db = own; version = x.consumed })))
      (consumed_less own x (Some u) records h.versions) (consumed_whole own x (Some u) records h.versions)
      (ap x.known version ∙ next_new own x records h.versions) h.versions;
  made = λ v a. elim (in_put u v records h.rising a) [
    | inl same ↦ subst (λ (z : Update). z.uid.db ≡ own → z.uid.version < x.consumed + 1) (sym same)
        (consumed_uid own x records moment e held u (λ i. i.db ≡ own → i.version < x.consumed + 1) h at found is
        (λ r k d. let l = h.made r k d in omega (arith, l))
        (λ y there last. small y there last y.tag refl))
    | inr old ↦ λ d. let l = h.made v old.0 d in omega (arith, l)
  ];
  no_root = λ v a. elim (in_put u v records h.rising a) [
    | inl same ↦ subst (λ (z : Update). z.uid ≢ root_uid) (sym same)
        (consumed_uid own x records moment e held u (λ i. i ≢ root_uid) h at found is (λ r k. h.no_root r k) (λ y there last. h.member.objects.no_root e.fid y there))
    | inr old ↦ h.no_root v old.0
  ];
  member = consume_some (λ v. In v records) (λ v. In v records) (λ v. In v (put_record u records)) (λ v. In v (put_record u records)) own (base_fence x.phase x.kind) moment x u e held (λ v r. r)
      (puts_list u records h.rising) (λ v a. elim (in_put u v records h.rising a) [ inl same ↦ inr same | inr old ↦ inl old.0 ]) h.member at found is;
}
  where
    version : u.gvsn ≡ record { db = own; version = x.consumed }
    version = made_version own x.volume (base_fence x.phase x.kind) x.consumed moment e held u is

    small : (y : Object) → x.volume.at e.fid ≡ Some y → y.last_local ≤ x.consumed → (t : Option Uid) → y.tag ≡ t → (uid_of own y).db ≡ own → (uid_of own y).version < x.consumed + 1
    small y there last (Some t) k =
        let (r, a, q) = h.member.objects.tagged e.fid y t there k in
        let same : r.uid ≡ uid_of own y = q ∙ ap (λ i. unwrap_or i (record { db = own; version = y.born })) (sym k) in
        λ d. subst (λ (i : Uid). i.version < x.consumed + 1) same (let l = h.made r a (ap (λ z. z.db) same ∙ d) in omega (arith, l))
    small y there last None k =
        let first = h.member.numbers.first e.fid y there k in
        let same : record { db = own; version = y.born } ≡ uid_of own y = ap (λ i. unwrap_or i (record { db = own; version = y.born })) (sym k) in
        λ d. subst (λ (i : Uid). i.version < x.consumed + 1) same (omega (arith, first, last))

-- ---- every event

-- one of the records is of the file, or none is
has_or_none : (records : List Update) (uid : Uid) → ((v : Update) × In v records × (v.uid ≡ uid)) ⊎ ((v : Update) → In v records → v.uid ≢ uid)
has_or_none [] uid = inr (λ v a s. a)
has_or_none (r ∷ rs) uid = by (uid_cases r.uid uid) (has_or_none rs uid)
  where
    by : (r.uid ≡ uid) ⊎ (r.uid ≢ uid) → ((v : Update) × In v rs × (v.uid ≡ uid)) ⊎ ((v : Update) → In v rs → v.uid ≢ uid)
        → ((v : Update) × In v (r ∷ rs) × (v.uid ≡ uid)) ⊎ ((v : Update) → In v (r ∷ rs) → v.uid ≢ uid)
    by (inl s) rest = inl (r, inl refl, s)
    by (inr n) (inl (v, a, s)) = inl (v, inr a, s)
    by (inr n) (inr never) = inr (λ v a s. elim a [ inl e ↦ n (ap (λ z. z.uid) (sym e) ∙ s) | inr b ↦ never v b s ])

-- a fit update is of its object's kind
object_fits : (own : ℕ) (x : Member) (records : List Update) (u : Update) → FolderIsSound own x records → IsFit own x records u → (fid : ℕ) (o : Object) → IsAt x.volume fid o
    → uid_of own o ≡ u.uid
    → kind_of u ≡ o.kind
object_fits own x records u h fit fid o at s = elim (has_or_none records u.uid) [
  | inl r ↦ sym (fit.kinds r.0 r.1 r.2) ∙ h.member.objects.kinds fid o r.0 at r.1 (r.2 ∙ sym s)
  | inr never ↦ sym (fit.object_kind never fid o at s)
]

-- so does a fit adoption
folder_adopts : (own : ℕ) (x : Member) (records : List Update) → FolderIsSound own x records → (u : Update) → IsFit own x records u
    → FolderIsSound own (adopted_by u x) (put_record u records)
folder_adopts own x records h u fit = record {
  begun = h.begun;
  rising = put_rising u records h.rising;
  versions = versions_put own x (adopted_by u x) records u h.rising (omega arith) (λ g k. plus_old x.known u.gvsn g k) (plus_new x.known u.gvsn)
      (λ g k e. elim (plus_cases x.known u.gvsn g k) [
        | inl s ↦ subst (λ (i : Gvsn). i.version < x.consumed) (sym s) (fit.version_ahead (ap (λ i. i.db) (sym s) ∙ e))
        | inr old ↦ h.versions.own_consumed g old e
      ])
      (λ n low high. plus_old x.known u.gvsn _ (h.versions.own_covered n low high)) fit.new h.versions;
  made = λ v a e. elim (in_put u v records h.rising a) [
    | inl same ↦ (let s = ap (λ z. z.uid) same in subst (λ i. i.version < x.consumed) (sym s) (fit.file_ahead (ap (λ i. i.db) (sym s) ∙ e)))
    | inr old ↦ h.made v old.0 e
  ];
  no_root = λ v a e. elim (in_put u v records h.rising a) [ inl same ↦ fit.root (ap (λ z. z.uid) (sym same) ∙ e) | inr old ↦ h.no_root v old.0 e ];
  member = adopt_sound (λ v. In v records) (λ v. In v records) (λ v. In v (put_record u records)) (λ v. In v (put_record u records)) own x u (puts_list u records h.rising) h.member
      (λ f o v at a s. elim (in_put u v records h.rising a) [
        | inl same ↦ ap kind_of same ∙ object_fits own x records u h fit f o at (sym s ∙ ap (λ z. z.uid) same)
        | inr old ↦ h.member.objects.kinds f o v at old.0 s
      ]);
}

-- a member alone stays sound, whatever its partners send
pub folders_stay : AllFoldersStaySound
folders_stay own x records h = record {
  local = λ op ok. record {
    begun = h.begun;
    rising = h.rising;
    versions = versions_more own x (operated own op x) records refl (λ g k. k) h.versions.own_consumed h.versions;
    made = h.made;
    no_root = h.no_root;
    member = local_sound (λ u. In u records) (λ u. In u records) own x op h.begun (λ u r. r) h.made h.member ok;
  };
  install = λ op quiet due ok. record {
    begun = h.begun;
    rising = h.rising;
    versions = versions_more own x (operated own op x) records refl (λ g k. k) h.versions.own_consumed h.versions;
    made = h.made;
    no_root = h.no_root;
    member = replica_sound (λ u. In u records) (λ u. In u records) own x op (one_of records h.rising) h.begun (λ u r. r)
        (λ u v a b s. ap kind_of (one_of records h.rising u v a b s)) quiet due ok h.member;
  };
  unstage = λ uid fid o at same staged. record {
    begun = h.begun;
    rising = h.rising;
    versions = versions_more own x (unstaged_at uid x) records refl (λ g k. k) h.versions.own_consumed h.versions;
    made = h.made;
    no_root = h.no_root;
    member = unstage_sound (λ u. In u records) (λ u. In u records) own x uid fid o h.member at same staged;
  };
  adopt = folder_adopts own x records h;
  finish = λ s fit. record {
    begun = h.begun;
    rising = h.rising;
    versions = versions_more own x (finished_by s x) records refl (λ g k. both_old x.known s g k)
        (λ g k e. elim (both_cases x.known s g k) [ inl old ↦ h.versions.own_consumed g old e | inr new ↦ fit g new e ]) h.versions;
    made = h.made;
    no_root = h.no_root;
    member = known_sound (λ u. In u records) (λ u. In u records) own x (both x.known s) Normal h.member;
  };
  consume = folder_consumes own x records h;
}

-- so it is when it has done nothing
pub folders_begin : FoldersBeginSound
folders_begin own kind = record {
  begun = omega arith;
  rising = tt;
  versions = record {
    own_consumed = λ g k e. absurd (true_false false k refl);
    own_covered = λ n low high. absurd (omega (arith, low, high));
    recorded = λ u a. absurd a;
    one_each = λ u v a b s. absurd a;
  };
  made = λ u a. absurd a;
  no_root = λ u a. absurd a;
  member =
      let s = (fresh_sound (λ d. kind)).members own in
      same_sound (λ u. In u []) (IsRecord [] (fresh_member kind).known) (λ u. In u []) (λ u. In u []) own (fresh_member kind) (record { to = λ u r. r.among.0; back = λ u a. absurd a }) s s.objects.kinds;
}
