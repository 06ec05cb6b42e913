-- What adopting, finishing and unstaging keep.
use Rattle.std.proofs.Common.{◌≡◌, ◌≢◌, ◌⊎◌, ℕ, Bool, true, false, cond, refl, sym, ap, ◌∙◌, subst, inl, inr, Some, None}
use Rattle.std.specs.Prelude.{if◌then◌else◌}
use Rattle.frs_base.specs.declared.kind.Phase.{Phase}
use Rattle.frs_base.specs.declared.sum.Sum.{Sum}
use Rattle.frs_base.specs.declared.version.Uid.{Uid}
use Rattle.win_order.specs.declared.update.Update.{Update}
use Rattle.vol_state.specs.declared.object.Object.{Object}
use Rattle.vol_state.specs.State.{uid_of}
use Rattle.record_db.specs.Records.{Has, Versions}
use Rattle.record_db.specs.Staged.{with_uid}
use Rattle.record_db.proofs.Keys.{uid_cases}
use Rattle.name_rules.specs.Next.{IsPending}
use Rattle.name_rules.specs.Tree.{is_file, kind_of}
use Rattle.name_rules.proofs.Showing.{AreSame}
use Rattle.world_model.specs.World.{Member}
use Rattle.world_model.specs.Events.{adopted_by, unstaged_at}
use Rattle.world_model.specs.Invariant.{HasSum, MemberIsSound}
use Rattle.world_model.proofs.Changing.{uid_other, uid_same}
use Rattle.world_model.proofs.Facts.{none_some, some_is, true_false}
use Rattle.world_model.proofs.Consumed.{PutsTo}

-- adopting an update keeps a member sound
pub adopt_sound : (Known Records KnownAfter RecordsAfter : Update → Type 0) (own : ℕ) (x : Member) (u : Update) → PutsTo Records RecordsAfter u → MemberIsSound Known Records own x
    → ((f : ℕ) (o : Object) (v : Update) → x.volume.at f ≡ Some o → KnownAfter v → v.uid ≡ uid_of own o → kind_of v ≡ o.kind) → MemberIsSound KnownAfter RecordsAfter own (adopted_by u x)
adopt_sound Known Records KnownAfter RecordsAfter own x u puts s kinds = record {
  places = s.places;
  numbers = s.numbers;
  journal = s.journal;
  objects = record {
    recorded = λ f o a. elim (s.objects.recorded f o a) [ inl p ↦ inl p | inr r ↦ inr (more (uid_of own o) r) ];
    reached = s.objects.reached;
    kinds = kinds;
    tagged = λ f o t a q. more t (s.objects.tagged f o t a q);
    no_root = s.objects.no_root;
  };
  contents = record {
    keeps = λ r q i. elim (puts.only r q) [
      | inl same ↦ inl (subst (λ (z : Update). with_uid x.staged u.uid (if is_file u then Some u.hash else None) z.uid ≡ Some z.hash) (sym same)
          (uid_same x.staged u.uid _ ∙ chosen (is_file u) (subst (λ z. is_file z ≡ true) same i)))
      | inr old ↦ elim (s.contents.keeps r old.0 i) [ inl a ↦ inl (uid_other x.staged u.uid _ r.uid old.1 ∙ a) | inr b ↦ inr b ]
    ];
    staged = λ id content q. stays id content q (uid_cases id u.uid);
  };
}
  where
    more : (id : Uid) → Has Records id → Has RecordsAfter id
    more id (r, k, q) = elim (uid_cases r.uid u.uid) [ inl same ↦ (u, puts.new, sym same ∙ q) | inr n ↦ (r, puts.old r k n, q) ]

    chosen : (b : Bool) → b ≡ true → cond b (Some u.hash) None ≡ Some u.hash
    chosen true e = refl
    chosen false e = absurd (true_false false e refl)

    stays : (id : Uid) (content : Sum) → with_uid x.staged u.uid (if is_file u then Some u.hash else None) id ≡ Some content → (id ≡ u.uid) ⊎ (id ≢ u.uid)
        → (v : Update) × RecordsAfter v × (v.uid ≡ id) × (is_file v ≡ true) × (v.hash ≡ content)
    stays id content q (inl same) = go (is_file u) refl (sym (uid_same x.staged u.uid _) ∙ subst (λ i. with_uid x.staged u.uid (if is_file u then Some u.hash else None) i ≡ Some content) same q)
      where
        go : (b : Bool) → is_file u ≡ b → cond b (Some u.hash) None ≡ Some content → (v : Update) × RecordsAfter v × (v.uid ≡ id) × (is_file v ≡ true) × (v.hash ≡ content)
        go true i c = (u, puts.new, sym same, i, some_is u.hash content c)
        go false i c = absurd (none_some content c)
    stays id content q (inr n) =
        let (v, r, a, b, c) = s.contents.staged id content (sym (uid_other x.staged u.uid _ id n) ∙ q) in
        (v, puts.old v r (λ t. n (sym a ∙ t)), a, b, c)

-- the records stay (finish, and other members' events)
pub same_sound : (Known Records KnownAfter RecordsAfter : Update → Type 0) (own : ℕ) (x : Member) → AreSame Records RecordsAfter → MemberIsSound Known Records own x
    → ((f : ℕ) (o : Object) (v : Update) → x.volume.at f ≡ Some o → KnownAfter v → v.uid ≡ uid_of own o → kind_of v ≡ o.kind) → MemberIsSound KnownAfter RecordsAfter own x
same_sound Known Records KnownAfter RecordsAfter own x same s kinds = record {
  places = s.places;
  numbers = s.numbers;
  journal = s.journal;
  objects = record {
    recorded = λ f o a. elim (s.objects.recorded f o a) [ inl p ↦ inl p | inr r ↦ inr (more (uid_of own o) r) ];
    reached = s.objects.reached;
    kinds = kinds;
    tagged = λ f o t a k. more t (s.objects.tagged f o t a k);
    no_root = s.objects.no_root;
  };
  contents = record {
    keeps = λ u r i. s.contents.keeps u (same.back u r) i;
    staged = λ id content k. let (v, r, a, b, c) = s.contents.staged id content k in (v, same.to v r, a, b, c);
  };
}
  where
    more : (id : Uid) → Has Records id → Has RecordsAfter id
    more id (r, k, q) = (r, same.to r k, q)

-- what a member knows plays no part
pub known_sound : (Known Records : Update → Type 0) (own : ℕ) (x : Member) (known : Versions) (phase : Phase) → MemberIsSound Known Records own x
    → MemberIsSound Known Records own (record x { known = known; phase = phase })
known_sound Known Records own x known phase s = record {
  places = s.places;
  numbers = s.numbers;
  journal = s.journal;
  objects = record { recorded = s.objects.recorded; reached = s.objects.reached; kinds = s.objects.kinds; tagged = s.objects.tagged; no_root = s.objects.no_root };
  contents = record { keeps = s.contents.keeps; staged = s.contents.staged };
}

-- so does unstaging what the object has
pub unstage_sound : (Known Records : Update → Type 0) (own : ℕ) (x : Member) (id : Uid) (f : ℕ) (o : Object) → MemberIsSound Known Records own x → x.volume.at f ≡ Some o
    → uid_of own o ≡ id → x.staged id ≡ Some o.sum
    → MemberIsSound Known Records own (unstaged_at id x)
unstage_sound Known Records own x id f o s at uid staged = record {
  places = s.places;
  numbers = s.numbers;
  journal = s.journal;
  objects = record { recorded = s.objects.recorded; reached = s.objects.reached; kinds = s.objects.kinds; tagged = s.objects.tagged; no_root = s.objects.no_root };
  contents = record {
    keeps = λ u r i. keep u (uid_cases u.uid id) (s.contents.keeps u r i);
    staged = λ j content k. elim (uid_cases j id) [
      | inl same ↦ absurd (none_some content (sym (uid_same x.staged id None) ∙ subst (λ z. with_uid x.staged id None z ≡ Some content) same k))
      | inr n ↦ s.contents.staged j content (sym (uid_other x.staged id None j n) ∙ k)
    ];
  };
}
  where
    keep : (u : Update) → (u.uid ≡ id) ⊎ (u.uid ≢ id) → (x.staged u.uid ≡ Some u.hash) ⊎ (HasSum own x.volume u.uid u.hash ⊎ IsPending x.consumed x.volume u.uid)
        → (with_uid x.staged id None u.uid ≡ Some u.hash) ⊎ (HasSum own x.volume u.uid u.hash ⊎ IsPending x.consumed x.volume u.uid)
    keep u (inr n) (inl k) = inl (uid_other x.staged id None u.uid n ∙ k)
    keep u (inl same) (inl k) = inr (inl (f, o, at, uid ∙ sym same, some_is o.sum u.hash (sym staged ∙ (ap x.staged (sym same) ∙ k))))
    keep u c (inr b) = inr b
