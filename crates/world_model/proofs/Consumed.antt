-- What consuming a journal record keeps.
use Rattle.std.proofs.Common.{◌≡◌, ◌≢◌, ◌<◌, ◌≤◌, ◌+◌, ◌⊎◌, ℕ, zero, suc, Bool, true, false, cond, not, ◌&&◌, ltb, List, refl, sym, ap, ◌∙◌, subst, arith, inl, inr, Option, Some, None}
use Rattle.std.specs.Prelude.{option_map, if◌then◌else◌, MatchOption}
use Rattle.std.proofs.lemmas.Bool.{cases_eq}
use Rattle.std.proofs.lemmas.Bool.Decides.{nat_tests}
use Rattle.frs_base.specs.declared.kind.Kind.{Kind}
use Rattle.frs_base.specs.declared.kind.Kind.TheVariants.{File, Directory}
use Rattle.frs_base.specs.declared.sum.Sum.{Sum}
use Rattle.frs_base.specs.declared.version.Uid.{Uid}
use Rattle.win_order.specs.Order.{is_directory}
use Rattle.win_order.specs.declared.update.Update.{Update}
use Rattle.vol_state.specs.declared.object.Object.{Object}
use Rattle.vol_state.specs.declared.record.VolRecord.{VolRecord}
use Rattle.vol_state.specs.State.{uid_of}
use Rattle.vol_state.specs.Places.{is_directory as is_directory_kind}
use Rattle.vol_state.specs.Sums.{no_sum}
use Rattle.vol_state.specs.Maps.{Maps}
use Rattle.vol_state.specs.Tables.{IsReached}
use Rattle.record_db.specs.Records.{Has}
use Rattle.record_db.specs.Staged.{with_uid}
use Rattle.record_db.proofs.Keys.{uid_cases}
use Rattle.name_rules.specs.Next.{IsPending}
use Rattle.name_rules.specs.Recorded.{is_deletion, object_update, recorded_by, recorded_of, tombstone}
use Rattle.name_rules.specs.Tree.{is_file, kind_of}
use Rattle.name_rules.proofs.Cases.{made_by}
use Rattle.name_rules.proofs.Showing.{AreSame}
use Rattle.world_model.specs.World.{Member}
use Rattle.world_model.specs.Events.{consumed_by}
use Rattle.world_model.specs.Invariant.{HasSum, JournalIsTrue, MemberIsSound, NumbersAreFresh}
use Rattle.world_model.proofs.Changing.{uid_other, uid_same}
use Rattle.world_model.proofs.Facts.{none_some, some_is, true_false}
use Rattle.world_model.proofs.Installed.{file_present}

-- ---- why a record made no update

-- it was no local record, or a deletion of what isn't present, or its object is gone, has a later local record, or is in limbo
abbrev pub NoUpdate : Bool → Bool → Option Update → Option Object → ℕ → Type 0
NoUpdate local deletion held found n =
    (local ≡ false)
    ⊎ (((deletion ≡ true) × ((h : Update) → held ≡ Some h → h.present ≡ false))
    ⊎ (((deletion ≡ false) × (found ≡ None))
    ⊎ (((deletion ≡ false) × ((o : Object) × (found ≡ Some o) × (ltb n o.last_local ≡ true)))
    ⊎ ((o : Object) × (found ≡ Some o) × (o.place ≡ None)))))

-- why a record makes none
pub none_by : (own : ℕ) (m : Maps) (base n moment : ℕ) (local deletion : Bool) (held : Option Update) (found : Option Object)
    → None ≡ recorded_by own m base n moment local deletion held found → NoUpdate local deletion held found n
none_by own m base n moment false deletion held found e = inl refl
none_by own m base n moment true true None found e = inr (inl (refl, λ h s. absurd (none_some h s)))
none_by own m base n moment true true (Some h) found e = inr (inl (refl, λ g s. subst (λ (u : Update). u.present ≡ false) (some_is h g s) (go h.present refl e)))
  where
    go : (b : Bool) → h.present ≡ b → None ≡ cond b (Some (tombstone own base n moment h)) None → h.present ≡ false
    go true p e = absurd (none_some (tombstone own base n moment h) e)
    go false p e = p
none_by own m base n moment true false held None e = inr (inr (inl (refl, refl)))
none_by own m base n moment true false held (Some o) e = go (ltb n o.last_local) refl o.place refl e
  where
    go : (b : Bool) → ltb n o.last_local ≡ b → (place : Option (ℕ × List ℕ)) → o.place ≡ place → None ≡ cond b None (option_map (object_update own m base n moment held o) place)
        → NoUpdate true false held (Some o) n
    go true l place p e = inr (inr (inr (inl (refl, (o, refl, l)))))
    go false l None p e = inr (inr (inr (inr (o, refl, p))))
    go false l (Some q) p e = absurd (none_some (object_update own m base n moment held o q) e)

if_false : {X : Type 0} (b : Bool) (x y : X) → b ≡ false → cond b x y ≡ y
if_false false x y e = refl
if_false true x y e = absurd (true_false true refl e)

-- of an object that is placed, with no later local record, an operation that is no deletion makes an update
recorded_written : (own : ℕ) (m : Maps) (base n moment : ℕ) (e : VolRecord) (held : Option Update) (o : Object) (p : ℕ × List ℕ) → e.local ≡ true → is_deletion e ≡ false
    → m.at e.fid ≡ Some o
    → ltb n o.last_local ≡ false → o.place ≡ Some p → recorded_of own m base n moment e held ≡ Some (object_update own m base n moment held o p)
recorded_written own m base n moment e held o p local deletion at newest place =
    (λ i. recorded_by own m base n moment (local i) (deletion i) held (at i))
    ∙ (if_false (ltb n o.last_local) None (option_map (object_update own m base n moment held o) o.place) newest
    ∙ ap (option_map (object_update own m base n moment held o)) place)

-- what is reached has a place
placed : (m : Maps) (f : ℕ) (o : Object) → m.at 0 ≡ None → m.at f ≡ Some o → IsReached m f → (p : ℕ × List ℕ) × (o.place ≡ Some p)
placed m f o root at (zero, z) = absurd (none_some o (sym root ∙ subst (λ i. m.at i ≡ Some o) z at))
placed m f o root at (suc n, inl z) = absurd (none_some o (sym root ∙ subst (λ i. m.at i ≡ Some o) z at))
placed m f o root at (suc n, inr (y, at', inl (l, e))) = absurd (true_false false l refl)
placed m f o root at (suc n, inr (y, at', inr (p, e, h))) = (p, ap (λ z. z.place) (some_is o y (sym at ∙ at')) ∙ e)

-- ---- pending records

-- what is pending after was pending before
pub pending_back : (x : Member) (id : Uid) → IsPending (x.consumed + 1) x.volume id → IsPending x.consumed x.volume id
pending_back x id (n, d, l, at, t, s) = (n, d, omega (arith, l), at, t, s)

-- what was pending is pending after, or was of the consumed record
pub pending_step : (x : Member) (e : VolRecord) (id : Uid) → x.volume.entry x.consumed ≡ Some e → IsPending x.consumed x.volume id
    → IsPending (x.consumed + 1) x.volume id ⊎ ((e.local ≡ true) × (e.uid ≡ id))
pending_step x e id at (n, d, l, q, t, s) = elim (cases_eq n x.consumed) [
  | inl k ↦ let same : d ≡ e = some_is d e (sym q ∙ subst (λ i. x.volume.entry i ≡ Some e) (sym k) at) in inr (ap (λ z. z.local) (sym same) ∙ t, ap (λ z. z.uid) (sym same) ∙ s)
  | inr k ↦ inl (n, d, omega (arith, l, k), q, t, s)
]

-- the record of a file among these, or that there is none
abbrev pub Held : (Update → Type 0) → Uid → Option Update → Type 0
Held Records id held = MatchOption held ((v : Update) → Records v → v.uid ≢ id) (λ r. Records r × (r.uid ≡ id))

-- u comes in the place of the record of its file
pub record PutsTo (Records RecordsAfter : Update → Type 0) (u : Update) : Type 0 where
  pub new : RecordsAfter u
  pub old : (v : Update) → Records v → v.uid ≢ u.uid → RecordsAfter v
  pub only : (v : Update) → RecordsAfter v → (v ≡ u) ⊎ (Records v × (v.uid ≢ u.uid))

-- an update is of its journal record's file
pub made_uid_of : (own : ℕ) (m : Maps) (base n moment : ℕ) (e : VolRecord) (Records : Update → Type 0) (held : Option Update) (u : Update)
    → ((o : Object) → e.local ≡ true → m.at e.fid ≡ Some o → uid_of own o ≡ e.uid) → Held Records e.uid held → Some u ≡ recorded_of own m base n moment e held → u.uid ≡ e.uid
made_uid_of own m base n moment e Records held u named h is = let (l, cases) = made_by own m base n moment e.local (is_deletion e) held (m.at e.fid) u is in elim cases [
  | inl d ↦ ap (λ x. x.uid) d.is ∙ (subst (Held Records e.uid) d.was h).1
  | inr w ↦ ap (λ x. x.uid) w.is ∙ named w.now l w.there
]

-- an object of the consumed record's file is pending still, or recorded
pub object_step : (Known Records : Update → Type 0) (own base moment : ℕ) (x : Member) (e : VolRecord) (held : Option Update) (f : ℕ) (o : Object) → MemberIsSound Known Records own x
    → x.volume.entry x.consumed ≡ Some e → e.local ≡ true → x.volume.at f ≡ Some o → uid_of own o ≡ e.uid
    → IsPending (x.consumed + 1) x.volume (uid_of own o) ⊎ ((p : ℕ × List ℕ) × (recorded_of own x.volume base x.consumed moment e held ≡ Some (object_update own x.volume base x.consumed moment held o p)))
object_step Known Records own base moment x e held f o s at local here uid =
    let late : x.consumed ≤ o.last_local = s.journal.later f o x.consumed e here (omega arith) at local (sym uid) in
    let (d, q, t, deletes, fid, same) = s.journal.last f o here late in
    elim (cases_eq x.consumed o.last_local) [
      | inr k ↦ inl (o.last_local, d, omega (arith, late, k), q, t, same)
      | inl k ↦
          let is : d ≡ e = some_is d e (sym q ∙ subst (λ i. x.volume.entry i ≡ Some e) k at) in
          let deletes' : is_deletion e ≡ false = ap is_deletion (sym is) ∙ deletes in
          let fid' : e.fid ≡ f = ap (λ z. z.fid) (sym is) ∙ fid in
          let (p, place) = placed x.volume f o s.numbers.root here (s.objects.reached f o here (x.consumed, e, omega arith, at, local, sym uid)) in
          let newest : ltb x.consumed o.last_local ≡ false = grind (arith, nat_tests, k) in
          inr (p, recorded_written own x.volume base x.consumed moment e held o p local deletes' (subst (λ i. x.volume.at i ≡ Some o) (sym fid') here) newest place)
    ]

weaker_journal : (own : ℕ) (m : Maps) (c : ℕ) → JournalIsTrue own m c → JournalIsTrue own m (c + 1)
weaker_journal own m c j = record {
  later = λ f o n e a l q t s. j.later f o n e a (omega (arith, l)) q t s;
  last = λ f o a l. j.last f o a (omega (arith, l));
  named = λ n e o l q t a. j.named n e o (omega (arith, l)) q t a;
  gone = λ n e l q t d a. j.gone n e (omega (arith, l)) q t d a;
}

weaker_numbers : (m : Maps) (c : ℕ) → NumbersAreFresh m c → c < m.next_usn → NumbersAreFresh m (c + 1)
weaker_numbers m c h l = record { root = h.root; next = h.next; fids = h.fids; named = h.named; born = h.born; last = h.last; first = h.first; entries = h.entries; consumed_is = omega (arith, l); whole = h.whole }

-- an update of an object has its kind
pub kind_kept : (own : ℕ) (m : Maps) (base n moment : ℕ) (held : Option Update) (o : Object) (p : ℕ × List ℕ) → kind_of (object_update own m base n moment held o p) ≡ o.kind
kind_kept own m base n moment held o p = go o.kind
  where
    go : (k : Kind) → kind_of (object_update own m base n moment held (record o { kind = k }) p) ≡ k
    go File = refl
    go Directory = refl

-- the update has the kind of the object of its file
pub made_kind : (own : ℕ) (base moment : ℕ) (Known Records : Update → Type 0) (x : Member) (e : VolRecord) (held : Option Update) (u : Update) (kind : Kind)
    → ((v : Update) → Records v → Known v) → Held Records e.uid held
    → Some u ≡ recorded_of own x.volume base x.consumed moment e held
    → ((h : Update) → Known h → h.uid ≡ u.uid → kind_of h ≡ kind)
    → ((w : Object) → x.volume.at e.fid ≡ Some w → uid_of own w ≡ u.uid → w.kind ≡ kind) → kind_of u ≡ kind
made_kind own base moment Known Records x e held u kind inside is_held is of_held of_object = elim (made_by own x.volume base x.consumed moment e.local (is_deletion e) held (x.volume.at e.fid) u is).1 [
  | inl d ↦
      let h = subst (Held Records e.uid) d.was is_held in
      ap kind_of d.is ∙ of_held d.old (inside d.old h.0) (ap (λ z. z.uid) (sym d.is))
  | inr w ↦ ap kind_of w.is ∙ (kind_kept own x.volume base x.consumed moment held w.now w.place ∙ of_object w.now w.there (ap (λ z. z.uid) (sym w.is)))
]

-- ---- a record that makes an update

-- the hash of a present file is the object's sum
pub file_sum : (u : Update) (k : Kind) (sum : Sum) → is_file u ≡ true → kind_of u ≡ k → u.hash ≡ (if is_directory_kind k then no_sum else sum) → u.hash ≡ sum
file_sum u File sum i k h = h
file_sum u Directory sum i k h = absurd (go u.present (is_directory u) k i)
  where
    go : (p d : Bool) → cond d Directory File ≡ Directory → (p && not d) ≡ true → ⊥
    go true true k i = true_false false i refl
    go true false k i = cc
    go false d k i = true_false false i refl

-- a member stays sound where the record makes an update
pub consume_some : (Known Records KnownAfter RecordsAfter : Update → Type 0) (own base moment : ℕ) (x : Member) (u : Update) (e : VolRecord) (held : Option Update)
    → ((v : Update) → Records v → Known v) → PutsTo Records RecordsAfter u → ((v : Update) → KnownAfter v → Known v ⊎ (v ≡ u))
    → MemberIsSound Known Records own x → x.volume.entry x.consumed ≡ Some e → Held Records e.uid held → Some u ≡ recorded_of own x.volume base x.consumed moment e held
    → MemberIsSound KnownAfter RecordsAfter own (consumed_by own (Some u) x)
consume_some Known Records KnownAfter RecordsAfter own base moment x u e held inside puts only s at is_held is = record {
  places = s.places;
  numbers = weaker_numbers x.volume x.consumed s.numbers (s.numbers.entries x.consumed e at);
  journal = weaker_journal own x.volume x.consumed s.journal;
  objects = record {
    recorded = λ f o a. elim (s.objects.recorded f o a) [
      | inr r ↦ inr (more (uid_of own o) r)
      | inl p ↦ elim (pending_step x e (uid_of own o) at p) [
        | inl q ↦ inl q
        | inr q ↦ elim (object_step Known Records own base moment x e held f o s at q.0 a (sym q.1)) [
          | inl k ↦ inl k
          | inr k ↦ let same : u ≡ object_update own x.volume base x.consumed moment held o k.0 = some_is u _ (is ∙ k.1) in inr (u, puts.new, ap (λ z. z.uid) same)
        ]
      ]
    ];
    reached = λ f o a p. s.objects.reached f o a (pending_back x (uid_of own o) p);
    kinds = λ f o v a b k. elim (only v b) [
      | inl old ↦ s.objects.kinds f o v a old k
      | inr same ↦ ap kind_of same ∙ made_kind own base moment Known Records x e held u o.kind inside is_held is
          (λ g c q. s.objects.kinds f o g a c (q ∙ ap (λ z. z.uid) (sym same) ∙ k))
          (λ y c q. ap (λ z. z.kind) (some_is y o (sym c ∙ subst (λ i. x.volume.at i ≡ Some o) (sym (s.places.uids e.fid f y o c a (q ∙ ap (λ z. z.uid) (sym same) ∙ k))) a)))
    ];
    tagged = λ f o t a k. more t (s.objects.tagged f o t a k);
    no_root = s.objects.no_root;
  };
  contents = record {
    keeps = λ r q i. elim (puts.only r q) [
      | inl same ↦ inr (inl (subst (λ (z : Update). HasSum own x.volume z.uid z.hash) (sym same) (now (subst (λ z. is_file z ≡ true) same i))))
      | inr old ↦ keep r old.1 (s.contents.keeps r old.0 i)
    ];
    staged = λ id content k. stays id content k (uid_cases id u.uid);
  };
}
  where
    more : (id : Uid) → Has Records id → Has RecordsAfter id
    more id (r, k, q) = elim (uid_cases r.uid u.uid) [ inl same ↦ (u, puts.new, sym same ∙ q) | inr n ↦ (r, puts.old r k n, q) ]

    uid : u.uid ≡ e.uid
    uid = made_uid_of own x.volume base x.consumed moment e Records held u (λ o l k. s.journal.named x.consumed e o (omega arith) at l k) is_held is

    now : is_file u ≡ true → HasSum own x.volume u.uid u.hash
    now i = elim (made_by own x.volume base x.consumed moment e.local (is_deletion e) held (x.volume.at e.fid) u is).1 [
      | inl d ↦ absurd (true_false u.present (file_present u i) (ap (λ z. z.present) d.is))
      | inr y ↦ (e.fid, y.now, y.there, ap (λ z. z.uid) (sym y.is), sym (file_sum u y.now.kind y.now.sum i (ap kind_of y.is ∙ kind_kept own x.volume base x.consumed moment held y.now y.place) (ap (λ z. z.hash) y.is)))
    ]

    keep : (r : Update) → r.uid ≢ u.uid → (x.staged r.uid ≡ Some r.hash) ⊎ (HasSum own x.volume r.uid r.hash ⊎ IsPending x.consumed x.volume r.uid)
        → (with_uid x.staged u.uid None r.uid ≡ Some r.hash) ⊎ (HasSum own x.volume r.uid r.hash ⊎ IsPending (x.consumed + 1) x.volume r.uid)
    keep r n (inl k) = inl (uid_other x.staged u.uid None r.uid n ∙ k)
    keep r n (inr (inl k)) = inr (inl k)
    keep r n (inr (inr p)) = elim (pending_step x e r.uid at p) [ inl q ↦ inr (inr q) | inr q ↦ absurd (n (sym q.1 ∙ sym uid)) ]

    stays : (id : Uid) (content : Sum) → with_uid x.staged u.uid None id ≡ Some content → (id ≡ u.uid) ⊎ (id ≢ u.uid)
        → (v : Update) × RecordsAfter v × (v.uid ≡ id) × (is_file v ≡ true) × (v.hash ≡ content)
    stays id content k (inl same) = absurd (none_some content (sym (uid_same x.staged u.uid None) ∙ subst (λ i. with_uid x.staged u.uid None i ≡ Some content) same k))
    stays id content k (inr n) =
        let (v, r, a, b, c) = s.contents.staged id content (sym (uid_other x.staged u.uid None id n) ∙ k) in
        (v, puts.old v r (λ q. n (sym a ∙ q)), a, b, c)

-- ---- a record that makes none

-- a member stays sound where it makes none
pub consume_nothing : (Known Records KnownAfter RecordsAfter : Update → Type 0) (own base moment : ℕ) (x : Member) (e : VolRecord) (held : Option Update)
    → ((u v : Update) → Records u → Records v → u.uid ≡ v.uid → u ≡ v) → AreSame Records RecordsAfter → ((v : Update) → KnownAfter v → Known v)
    → MemberIsSound Known Records own x → x.volume.entry x.consumed ≡ Some e → Held Records e.uid held → None ≡ recorded_of own x.volume base x.consumed moment e held
    → MemberIsSound KnownAfter RecordsAfter own (consumed_by own None x)
consume_nothing Known Records KnownAfter RecordsAfter own base moment x e held one same only s at is_held is = record {
  places = s.places;
  numbers = weaker_numbers x.volume x.consumed s.numbers (s.numbers.entries x.consumed e at);
  journal = weaker_journal own x.volume x.consumed s.journal;
  objects = record {
    recorded = λ f o a. elim (s.objects.recorded f o a) [
      | inr r ↦ inr (more (uid_of own o) r)
      | inl p ↦ elim (pending_step x e (uid_of own o) at p) [
        | inl q ↦ inl q
        | inr q ↦ elim (object_step Known Records own base moment x e held f o s at q.0 a (sym q.1)) [
          | inl k ↦ inl k
          | inr k ↦ absurd (none_some _ (is ∙ k.1))
        ]
      ]
    ];
    reached = λ f o a p. s.objects.reached f o a (pending_back x (uid_of own o) p);
    kinds = λ f o v a b k. s.objects.kinds f o v a (only v b) k;
    tagged = λ f o t a k. more t (s.objects.tagged f o t a k);
    no_root = s.objects.no_root;
  };
  contents = record {
    keeps = λ r q i. keep r (same.back r q) i (s.contents.keeps r (same.back r q) i);
    staged = λ id content k. let (v, r, a, b, c) = s.contents.staged id content k in (v, same.to v r, a, b, c);
  };
}
  where
    more : (id : Uid) → Has Records id → Has RecordsAfter id
    more id (r, k, q) = (r, same.to r k, q)

    why : (r : Update) → Records r → is_file r ≡ true → e.local ≡ true → e.uid ≡ r.uid → NoUpdate e.local (is_deletion e) held (x.volume.at e.fid) x.consumed → IsPending (x.consumed + 1) x.volume r.uid
    why r k i t id (inl remote) = absurd (true_false e.local t remote)
    why r k i t id (inr (inl (d, absent))) = gone held is_held absent
      where
        gone : (o : Option Update) → Held Records e.uid o → ((g : Update) → o ≡ Some g → g.present ≡ false) → IsPending (x.consumed + 1) x.volume r.uid
        gone None never a = absurd (never r k (sym id))
        gone (Some g) h2 a =
            let is_r : g ≡ r = one g r h2.0 k (h2.1 ∙ id) in
            absurd (true_false r.present (file_present r i) (ap (λ z. z.present) (sym is_r) ∙ a g refl))
    why r k i t id (inr (inr (inl (d, none)))) =
        let (n, z, l, a, t', id') = s.journal.gone x.consumed e (omega arith) at t d none in (n, z, omega (arith, l), a, t', id' ∙ id)
    why r k i t id (inr (inr (inr (inl (d, (o, there, newer)))))) =
        let late : x.consumed < o.last_local = grind (arith, nat_tests) in
        let (z, q, t', d', f', id') = s.journal.last e.fid o there (omega (arith, late)) in
        (o.last_local, z, omega (arith, late), q, t', id' ∙ (s.journal.named x.consumed e o (omega arith) at t there ∙ id))
    why r k i t id (inr (inr (inr (inr (o, there, limbo))))) =
        let uid : uid_of own o ≡ e.uid = s.journal.named x.consumed e o (omega arith) at t there in
        let (p, place) = placed x.volume e.fid o s.numbers.root there (s.objects.reached e.fid o there (x.consumed, e, omega arith, at, t, sym uid)) in
        absurd (none_some p (sym limbo ∙ place))

    keep : (r : Update) → Records r → is_file r ≡ true → (x.staged r.uid ≡ Some r.hash) ⊎ (HasSum own x.volume r.uid r.hash ⊎ IsPending x.consumed x.volume r.uid)
        → (x.staged r.uid ≡ Some r.hash) ⊎ (HasSum own x.volume r.uid r.hash ⊎ IsPending (x.consumed + 1) x.volume r.uid)
    keep r q i (inl k) = inl k
    keep r q i (inr (inl k)) = inr (inl k)
    keep r q i (inr (inr p)) = elim (pending_step x e r.uid at p) [
      | inl k ↦ inr (inr k)
      | inr k ↦ inr (inr (why r q i k.0 k.1 (none_by own x.volume base x.consumed moment e.local (is_deletion e) held (x.volume.at e.fid) is)))
    ]
