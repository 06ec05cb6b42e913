-- Every event keeps the invariant.
use Rattle.std.proofs.Common.{◌≡◌, ◌≢◌, ◌<◌, ◌≤◌, ◌+◌, ◌^◌, ◌⊎◌, ℕ, false, ltb, List, [], ◌∷◌, ◌++◌, length, refl, sym, ap, ◌∙◌, subst, arith, inl, inr, Option, Some, None}
use Rattle.std.specs.Prelude.{MatchOption, option_to_list, unwrap_or}
use Rattle.std.proofs.lemmas.List.{length-append}
use Rattle.std.proofs.lemmas.Bool.Decides.{nat_tests}
use Rattle.frs_base.specs.Options.{In}
use Rattle.frs_base.specs.declared.kind.MemberKind.{MemberKind}
use Rattle.frs_base.specs.declared.kind.MemberKind.TheVariants.{Primary, Plain}
use Rattle.frs_base.specs.declared.kind.Phase.{Phase}
use Rattle.frs_base.specs.declared.kind.Phase.TheVariants.{Initial, Normal}
use Rattle.frs_base.specs.declared.version.Uid.{Uid}
use Rattle.win_order.specs.declared.update.Update.{Update}
use Rattle.vol_state.specs.declared.object.Object.{Object}
use Rattle.vol_state.specs.declared.record.VolRecord.{VolRecord}
use Rattle.vol_state.specs.State.{uid_of}
use Rattle.vol_state.specs.Conditions.{root_uid}
use Rattle.vol_state.specs.Maps.{with_at}
use Rattle.record_db.specs.Records.{Covered, IsBetter, IsHeld, IsRecord, IsWinner, Versions, both, plus}
use Rattle.record_db.proofs.Sets.{in_append, in_before, plus_old}
use Rattle.record_db.proofs.Best.{Grown, best_new, best_old, best_one, best_put, best_same}
use Rattle.name_rules.specs.Recorded.{base_fence, clock_of, fence_of, is_deletion}
use Rattle.name_rules.specs.Tree.{kind_of}
use Rattle.name_rules.proofs.Cases.{made_by}
use Rattle.world_model.specs.World.{Member, World, with_member}
use Rattle.world_model.specs.Events.{IsAllHeld, Records, WasSent, Local, Consume, SendVector, SendUpdate, Adopt, Finish, Install, Unstage, adopted_by, consumed_by, consumes, finished_by}
use Rattle.world_model.specs.Invariant.{ClocksAreSmall, FilesAreSound, Invariant, IsSound, SentIsKnown, VersionsAreMade, consumed_of}
use Rattle.world_model.specs.Runs.{Happening, Run}
use Rattle.world_model.specs.Laws.{EventsKeepTheInvariant, PendingObjectsStay, RunsKeepTheInvariant}
use Rattle.world_model.proofs.Changing.{at_each, at_same}
use Rattle.world_model.proofs.Growth.{consume_grows, run_grows, stays}
use Rattle.world_model.proofs.Versions.{same_consumed, step_made, step_sent}
use Rattle.world_model.proofs.Puts.{adopt_put, consume_none, consume_put, finish_fewer, finish_more}
use Rattle.world_model.proofs.Locally.{local_sound}
use Rattle.world_model.proofs.Adopted.{adopt_sound, known_sound, same_sound, unstage_sound}
use Rattle.world_model.proofs.Installed.{no_pending, replica_sound}
use Rattle.world_model.proofs.Sums.{AreSummed, consume_sums, local_sums, member_sums, replica_sums}
use Rattle.world_model.proofs.Consumed.{Held, PutsTo, consume_nothing, consume_some, kind_kept, made_kind}

-- ---- the parts of a member, in the world

-- an update that beats all of its file is put among the winners
puts_of : {P Q : Update → Type 0} (u : Update) → Grown P Q u → PutsTo (IsWinner P) (IsWinner Q) u
puts_of u g = record { new = best_new u g; old = λ v r n. best_old u v g r n; only = λ v r. best_put u v g r }

-- the winner of a file among what is covered is its record
held_of : (all : List Update) (known : Versions) (id : Uid) (o : Option Update) → IsHeld (Covered all known) id o → Held (IsRecord all known) id o
held_of all known id None h = λ v r. h v r.among
held_of all known id (Some r) h = h

-- another member is sound where All grows by versions that it doesn't cover
others_sound : (all more : List Update) (own : ℕ) (x : Member) → IsSound all own x
    → ((u : Update) → Covered all x.known u → Covered more x.known u) → ((u : Update) → Covered more x.known u → Covered all x.known u)
    → ((f : ℕ) (o : Object) (u : Update) → x.volume.at f ≡ Some o → In u more → u.uid ≡ uid_of own o → kind_of u ≡ o.kind)
    → IsSound more own x
others_sound all more own x s to back kinds =
    same_sound (λ u. In u all) (IsRecord all x.known) (λ u. In u more) (IsRecord more x.known) own x (record { to = λ v r. best_same v to back r; back = λ v r. best_same v back to r }) s kinds

-- a member that adopts is sound
adopts_sound : (w : World) (d : ℕ) (u : Update) → VersionsAreMade w → SentIsKnown w → IsSound w.all d (w.at d) → WasSent w u → IsBetter (Covered w.all (w.at d).known) u
    → IsSound w.all d (adopted_by u (w.at d))
adopts_sound w d u h k s sent better =
    adopt_sound (λ v. In v w.all) (IsRecord w.all (w.at d).known) (λ v. In v w.all) (IsRecord w.all (plus (w.at d).known u.gvsn)) d (w.at d) u (puts_of u (adopt_put w d u h k sent better)) s s.objects.kinds

-- one that finishes is
finish_sound : (w : World) (d : ℕ) (v : Versions) → VersionsAreMade w → IsSound w.all d (w.at d) → IsAllHeld w d v
    → IsSound w.all d (finished_by v (w.at d))
finish_sound w d v h s held =
    known_sound (λ u. In u w.all) (IsRecord w.all (both (w.at d).known v)) d (w.at d) (both (w.at d).known v) Normal
    (same_sound (λ u. In u w.all) (IsRecord w.all (w.at d).known) (λ u. In u w.all) (IsRecord w.all (both (w.at d).known v)) d (w.at d)
    (record { to = λ u r. finish_more w d v held u r; back = λ u r. finish_fewer w d v h held u r }) s s.objects.kinds)

-- ---- the members of a world in which one changed

-- all are, where the one that changed is
members_sound : (w : World) (d : ℕ) (x : Member) → ((j : ℕ) → IsSound w.all j (w.at j)) → IsSound w.all d x → (j : ℕ) → IsSound w.all j (with_at w.at d x j)
members_sound w d x old new = at_each (λ j y. IsSound w.all j y) w.at d x new (λ j n. old j)

-- files stay sound where no more is consumed
files_same : (w : World) (d : ℕ) (x : Member) → x.consumed ≡ (w.at d).consumed → FilesAreSound w.all (consumed_of w) → FilesAreSound w.all (consumed_of (with_member w d x))
files_same w d x e f = record {
  kinds = f.kinds;
  made = λ u a. let s = same_consumed w d x e u.uid.db in let l = f.made u a in omega (arith, s, l);
  no_root = f.no_root;
}

-- ---- consume

-- the update's file has one kind everywhere
new_kind : (w : World) (d moment : ℕ) (u : Update) → Invariant w → Records w d moment (Some u) → (j : ℕ) → j ≢ d → (f : ℕ) (o : Object) → (w.at j).volume.at f ≡ Some o
    → u.uid ≡ uid_of j o → kind_of u ≡ o.kind
new_kind w d moment u h (e, held, at, is_held, is) j apart f o here id =
    made_kind d (base_fence (w.at d).phase (w.at d).kind) moment (λ v. In v w.all) (IsRecord w.all (w.at d).known) (w.at d) e held u o.kind (λ v r. r.among.0) (held_of w.all (w.at d).known e.uid held is_held) is
    (λ g a k. (h.members j).objects.kinds f o g here a (k ∙ id))
    (λ y there k. go y there (k ∙ id) y.tag refl o.tag refl)
  where
    by : (y : Object) → (w.at d).volume.at e.fid ≡ Some y → uid_of d y ≡ uid_of j o → (r : Update) → In r w.all → r.uid ≡ uid_of j o → y.kind ≡ o.kind
    by y there same r a k = sym ((h.members d).objects.kinds e.fid y r there a (k ∙ sym same)) ∙ (h.members j).objects.kinds f o r here a k

    go : (y : Object) → (w.at d).volume.at e.fid ≡ Some y → uid_of d y ≡ uid_of j o → (t : Option Uid) → y.tag ≡ t → (t' : Option Uid) → o.tag ≡ t' → y.kind ≡ o.kind
    go y there same (Some t) a t' b =
        let (r, k, q) = (h.members d).objects.tagged e.fid y t there a in
        by y there same r k.among.0 (q ∙ (ap (λ z. unwrap_or z (record { db = d; version = y.born })) (sym a) ∙ same))
    go y there same None a (Some t) b =
        let (r, k, q) = (h.members j).objects.tagged f o t here b in
        by y there same r k.among.0 (q ∙ ap (λ z. unwrap_or z (record { db = j; version = o.born })) (sym b))
    go y there same None a None b =
        let is : d ≡ j = ap (λ z. z.db) (ap (λ z. unwrap_or z (record { db = d; version = y.born })) (sym a) ∙ (same ∙ ap (λ z. unwrap_or z (record { db = j; version = o.born })) b)) in
        absurd (apart (sym is))

-- all members are sound after a record is consumed
consume_members : (w : World) (d moment : ℕ) (made : Option Update) → Invariant w → Records w d moment made → (j : ℕ)
    → IsSound (w.all ++ option_to_list made) j (with_at w.at d (consumed_by d made (w.at d)) j)
consume_members w d moment made h r = at_each (λ j y. IsSound (w.all ++ option_to_list made) j y) w.at d (consumed_by d made (w.at d)) (mine made r) (λ j n. other made r j n)
  where
    mine : (made : Option Update) → Records w d moment made → IsSound (w.all ++ option_to_list made) d (consumed_by d made (w.at d))
    mine None (e, held, at, is_held, is) = consume_nothing (λ u. In u w.all) (IsRecord w.all (w.at d).known) (λ u. In u (w.all ++ [])) (IsRecord (w.all ++ []) (plus (w.at d).known (record { db = d; version = (w.at d).consumed })))
        d (base_fence (w.at d).phase (w.at d).kind) moment (w.at d) e held (λ u v a b q. best_one u v (λ i j k l. h.versions.one_each i j k.0 l.0) a b q)
        (record { to = λ v r. best_same v to (consume_none w d h.versions) r; back = λ v r. best_same v (consume_none w d h.versions) to r })
        (λ v k. elim (in_append v w.all [] k) [ inl old ↦ old | inr bad ↦ absurd bad ]) (h.members d) at (held_of w.all (w.at d).known e.uid held is_held) is
      where
        to : (v : Update) → Covered w.all (w.at d).known v → Covered (w.all ++ []) (plus (w.at d).known (record { db = d; version = (w.at d).consumed })) v
        to v c = (in_before v w.all [] c.0, plus_old (w.at d).known _ v.gvsn c.1)
    mine (Some u) (e, held, at, is_held, is) = consume_some (λ v. In v w.all) (IsRecord w.all (w.at d).known) (λ v. In v (w.all ++ u ∷ [])) (IsRecord (w.all ++ u ∷ []) (plus (w.at d).known (record { db = d; version = (w.at d).consumed })))
        d (base_fence (w.at d).phase (w.at d).kind) moment (w.at d) u e held (λ v r. r.among.0)
        (puts_of u (consume_put w d moment u h.versions (h.members d).journal (e, held, at, is_held, is)))
        (λ v k. elim (in_append v w.all (u ∷ []) k) [ inl old ↦ inl old | inr (inl q) ↦ inr q | inr (inr bad) ↦ absurd bad ]) (h.members d) at (held_of w.all (w.at d).known e.uid held is_held) is

    other : (made : Option Update) → Records w d moment made → (j : ℕ) → j ≢ d → IsSound (w.all ++ option_to_list made) j (w.at j)
    other made r j n =
        let alike = stays w (consumes w d made) (w.at j).known (h.versions.known j) (consume_grows w d moment made r) in
        others_sound w.all (w.all ++ option_to_list made) j (w.at j) (h.members j) alike.stays alike.only
        (λ f o u a b k. kind made r f o u a k (in_append u w.all (option_to_list made) b))
      where
        kind : (made : Option Update) → Records w d moment made → (f : ℕ) (o : Object) (u : Update) → (w.at j).volume.at f ≡ Some o → u.uid ≡ uid_of j o → In u w.all ⊎ In u (option_to_list made) → kind_of u ≡ o.kind
        kind made r f o u a k (inl old) = (h.members j).objects.kinds f o u a old k
        kind None r f o u a k (inr bad) = absurd bad
        kind (Some v) r f o u a k (inr (inr bad)) = absurd bad
        kind (Some v) r f o u a k (inr (inl same)) = ap kind_of same ∙ new_kind w d moment v h r j n f o a (ap (λ z. z.uid) (sym same) ∙ k)

-- how far each member has consumed then
abbrev pub more_consumed : World → ℕ → Option Update → ℕ → ℕ
more_consumed w d made j = (with_at w.at d (consumed_by d made (w.at d)) j).consumed

-- files are sound then
consume_files : (w : World) (d moment : ℕ) (made : Option Update) → Invariant w → Records w d moment made → FilesAreSound (w.all ++ option_to_list made) (more_consumed w d made)
consume_files w d moment made h r = record {
  kinds = λ u v a b k. kind u v (in_append u w.all (option_to_list made) a) (in_append v w.all (option_to_list made) b) k;
  made = λ u a. elim (in_append u w.all (option_to_list made) a) [ inl old ↦ (let l = h.files.made u old in let g = (consume_grows w d moment made r).consumed u.uid.db in omega (arith, l, g)) | inr new ↦ below made r u new ];
  no_root = λ u a. elim (in_append u w.all (option_to_list made) a) [ inl old ↦ h.files.no_root u old | inr new ↦ root made r u new ];
}
  where
    -- by the held record, or the object
    facts : (u : Update) (P : Update → Type 0) → Records w d moment (Some u) → ((g : Update) → In g w.all → g.uid ≡ u.uid → kind_of g ≡ kind_of u → P u)
        → ((e : VolRecord) (y : Object) → (w.at d).volume.at e.fid ≡ Some y → uid_of d y ≡ u.uid → y.kind ≡ kind_of u → y.last_local ≤ (w.at d).consumed → P u) → P u
    facts u P (e, held, at, is_held, is) of_held of_object = elim (made_by d (w.at d).volume (base_fence (w.at d).phase (w.at d).kind) (w.at d).consumed moment e.local (is_deletion e) held ((w.at d).volume.at e.fid) u is).1 [
      | inl del ↦
          let k = subst (λ o. MatchOption o ((v : Update) → Covered w.all (w.at d).known v → v.uid ≢ e.uid) (λ r. IsRecord w.all (w.at d).known r × (r.uid ≡ e.uid))) del.was is_held in
          of_held del.old k.0.among.0 (ap (λ z. z.uid) (sym del.is)) (ap kind_of (sym del.is))
      | inr y ↦ of_object e y.now y.there (ap (λ z. z.uid) (sym y.is)) (sym (ap kind_of y.is ∙ kind_kept d (w.at d).volume (base_fence (w.at d).phase (w.at d).kind) (w.at d).consumed moment held y.now y.place)) (late (w.at d).consumed y.now.last_local y.newest)
    ]
      where
        late : (n l : ℕ) → ltb n l ≡ false → l ≤ n
        late n l k = grind (arith, nat_tests)

    new_old : (v : Update) → Records w d moment (Some v) → (u : Update) → In u w.all → u.uid ≡ v.uid → kind_of u ≡ kind_of v
    new_old v r u a k = facts v (λ z. kind_of u ≡ kind_of v) r (λ g b q s. h.files.kinds u g a b (k ∙ sym q) ∙ s) (λ e y t q s l. (h.members d).objects.kinds e.fid y u t a (k ∙ sym q) ∙ s)

    new : (o : Option Update) → Records w d moment o → (u v : Update) → In u w.all → In v (option_to_list o) → u.uid ≡ v.uid → kind_of u ≡ kind_of v
    new None r u v a b k = absurd b
    new (Some x) r u v a (inr b) k = absurd b
    new (Some x) r u v a (inl b) k = new_old x r u a (k ∙ ap (λ z. z.uid) b) ∙ ap kind_of (sym b)

    single : (o : Option Update) (u v : Update) → In u (option_to_list o) → In v (option_to_list o) → u ≡ v
    single None u v a b = absurd a
    single (Some x) u v (inr a) b = absurd a
    single (Some x) u v (inl a) (inr b) = absurd b
    single (Some x) u v (inl a) (inl b) = a ∙ sym b

    kind : (u v : Update) → In u w.all ⊎ In u (option_to_list made) → In v w.all ⊎ In v (option_to_list made) → u.uid ≡ v.uid → kind_of u ≡ kind_of v
    kind u v (inl a) (inl b) k = h.files.kinds u v a b k
    kind u v (inl a) (inr b) k = new made r u v a b k
    kind u v (inr a) (inl b) k = sym (new made r v u b a (sym k))
    kind u v (inr a) (inr b) k = ap kind_of (single made u v a b)

    below : (o : Option Update) → Records w d moment o → (u : Update) → In u (option_to_list o) → u.uid.version < more_consumed w d made u.uid.db
    below None r u a = absurd a
    below (Some x) r u (inr a) = absurd a
    below (Some x) q u (inl a) = subst (λ (z : Update). z.uid.version < more_consumed w d made z.uid.db) (sym a) (facts x (λ z. z.uid.version < more_consumed w d made z.uid.db) q
        (λ g b k s. let l = subst (λ (z : Uid). z.version < (w.at z.db).consumed) k (h.files.made g b) in let c = (consume_grows w d moment made r).consumed x.uid.db in omega (arith, l, c))
        (λ e y t k s l. tag y e t k l y.tag refl))
      where
        tag : (y : Object) (e : VolRecord) → (w.at d).volume.at e.fid ≡ Some y → uid_of d y ≡ x.uid → y.last_local ≤ (w.at d).consumed → (t : Option Uid) → y.tag ≡ t → x.uid.version < more_consumed w d made x.uid.db
        tag y e t k l (Some id) b =
            let (z, c, q) = (h.members d).objects.tagged e.fid y id t b in
            let same : z.uid ≡ x.uid = q ∙ (ap (λ i. unwrap_or i (record { db = d; version = y.born })) (sym b) ∙ k) in
            let less = subst (λ (i : Uid). i.version < (w.at i.db).consumed) same (h.files.made z c.among.0) in
            let g = (consume_grows w d moment made r).consumed x.uid.db in
            omega (arith, less, g)
        tag y e t k l None b =
            let same : record { db = d; version = y.born } ≡ x.uid = ap (λ i. unwrap_or i (record { db = d; version = y.born })) (sym b) ∙ k in
            let first = (h.members d).numbers.first e.fid y t b in
            let now : (w.at d).consumed + 1 ≡ more_consumed w d made d = ap (λ (z : Member). z.consumed) (sym (at_same w.at d (consumed_by d made (w.at d)))) in
            subst (λ (i : Uid). i.version < more_consumed w d made i.db) same (omega (arith, first, l, now))

    root : (o : Option Update) → Records w d moment o → (u : Update) → In u (option_to_list o) → u.uid ≢ root_uid
    root None r u a k = a
    root (Some x) r u (inr a) k = a
    root (Some x) r u (inl a) k = facts x (λ z. ⊥) r (λ g b q s. h.files.no_root g b (q ∙ (ap (λ z. z.uid) (sym a) ∙ k))) (λ e y t q s l. (h.members d).objects.no_root e.fid y t (q ∙ (ap (λ z. z.uid) (sym a) ∙ k)))

-- no fence is above 3
base_small : (phase : Phase) (kind : MemberKind) → base_fence phase kind ≤ 3
base_small Initial Primary = omega arith
base_small Initial Plain = omega arith
base_small Normal kind = omega arith

-- fences and clocks are small then
consume_clocks : (w : World) (d moment : ℕ) (made : Option Update) → Invariant w → moment < 2 ^ 61 → Records w d moment made → ClocksAreSmall (w.all ++ option_to_list made)
consume_clocks w d moment None h early r = record {
  fences = λ u a. elim (in_append u w.all [] a) [ inl old ↦ h.clocks.fences u old | inr bad ↦ absurd bad ];
  clocks = λ u a. let l = length-append w.all [] in elim (in_append u w.all [] a) [ inl old ↦ (let c = h.clocks.clocks u old in omega (arith, c, l)) | inr bad ↦ absurd bad ];
}
consume_clocks w d moment (Some x) h early (e, held, at, is_held, is) = record {
  fences = λ u a. elim (in_append u w.all (x ∷ []) a) [ inl old ↦ h.clocks.fences u old | inr (inl same) ↦ subst (λ z. z.fence ≤ 3) (sym same) fence | inr (inr bad) ↦ absurd bad ];
  clocks = λ u a. let l = length-append w.all (x ∷ []) in elim (in_append u w.all (x ∷ []) a) [
    | inl old ↦ (let c = h.clocks.clocks u old in omega (arith, c, l))
    | inr (inl same) ↦ (let c = clock in let s : u.clock ≡ x.clock = ap (λ z. z.clock) same in omega (arith, c, l, s))
    | inr (inr bad) ↦ absurd bad
  ];
}
  where
    numbers : (x.clock ≡ clock_of moment held) × (x.fence ≡ fence_of (base_fence (w.at d).phase (w.at d).kind) held)
    numbers = elim (made_by d (w.at d).volume (base_fence (w.at d).phase (w.at d).kind) (w.at d).consumed moment e.local (is_deletion e) held ((w.at d).volume.at e.fid) x is).1 [
      | inl del ↦ (ap (λ z. z.clock) del.is ∙ ap (clock_of moment) (sym del.was), ap (λ z. z.fence) del.is ∙ ap (fence_of (base_fence (w.at d).phase (w.at d).kind)) (sym del.was))
      | inr y ↦ (ap (λ z. z.clock) y.is, ap (λ z. z.fence) y.is)
    ]

    fence : x.fence ≤ 3
    fence = let f = numbers.1 in let b = base_small (w.at d).phase (w.at d).kind in go held is_held f b
      where
        go : (o : Option Update) → IsHeld (Covered w.all (w.at d).known) e.uid o → x.fence ≡ fence_of (base_fence (w.at d).phase (w.at d).kind) o → base_fence (w.at d).phase (w.at d).kind ≤ 3 → x.fence ≤ 3
        go None k f b = omega (arith, f, b)
        go (Some g) k f b = let l = h.clocks.fences g k.0.among.0 in omega (arith, f, b, l)

    clock : x.clock < 2 ^ 61 + length w.all + 1
    clock = let f = numbers.0 in go held is_held f
      where
        go : (o : Option Update) → IsHeld (Covered w.all (w.at d).known) e.uid o → x.clock ≡ clock_of moment o → x.clock < 2 ^ 61 + length w.all + 1
        go None k f = omega (arith, f, early)
        go (Some g) k f = let l = h.clocks.clocks g k.0.among.0 in omega (arith, f, early, l)

-- ---- every event

-- clocks are small where All is the same
clocks_same : (w new : World) → w.all ≡ new.all → ClocksAreSmall w.all → ClocksAreSmall new.all
clocks_same w new e c = subst ClocksAreSmall e c

-- a world in which one member changed keeps the invariant
changed : (w : World) (d : ℕ) (x : Member) → Invariant w → x.consumed ≡ (w.at d).consumed → VersionsAreMade (with_member w d x) → SentIsKnown (with_member w d x)
    → IsSound w.all d x → AreSummed x.volume → Invariant (with_member w d x)
changed w d x h same made sent sound summed = record {
  versions = made;
  sent = sent;
  members = members_sound w d x h.members sound;
  files = files_same w d x same h.files;
  clocks = h.clocks;
  sums = member_sums w d x h.sums summed;
}

-- every event keeps the invariant
pub step_keeps : EventsKeepTheInvariant
step_keeps w d (Local op) new h s =
    subst Invariant (sym s.1) (changed w d _ h refl (step_made w d (Local op) _ h.versions h.sent (s.0, refl)) (step_sent w d (Local op) _ h.sent (s.0, refl))
    (local_sound (λ v. In v w.all) (IsRecord w.all (w.at d).known) d (w.at d) op (h.versions.begun d) (λ v r. r.among.0) (λ u a e. subst (λ (i : ℕ). u.uid.version < (w.at i).consumed) e (h.files.made u a)) (h.members d) s.0)
    (local_sums d op (w.at d).volume s.0 (h.sums.objects d)))
step_keeps w d (Consume moment) new h (early, made, r, is) = subst Invariant (sym is) (record {
  versions = step_made w d (Consume moment) _ h.versions h.sent (early, made, r, refl);
  sent = step_sent w d (Consume moment) _ h.sent (early, made, r, refl);
  members = consume_members w d moment made h r;
  files = consume_files w d moment made h r;
  clocks = consume_clocks w d moment made h early r;
  sums = consume_sums w d moment made h.sums r;
})
step_keeps w d SendVector new h s = subst Invariant (sym s) (record {
  versions = step_made w d SendVector _ h.versions h.sent refl;
  sent = step_sent w d SendVector _ h.sent refl;
  members = h.members;
  files = h.files;
  clocks = h.clocks;
  sums = record { objects = h.sums.objects; hashes = h.sums.hashes };
})
step_keeps w d (SendUpdate u) new h s = subst Invariant (sym s.1) (record {
  versions = step_made w d (SendUpdate u) _ h.versions h.sent (s.0, refl);
  sent = step_sent w d (SendUpdate u) _ h.sent (s.0, refl);
  members = h.members;
  files = h.files;
  clocks = h.clocks;
  sums = record { objects = h.sums.objects; hashes = h.sums.hashes };
})
step_keeps w d (Adopt u) new h s =
    subst Invariant (sym s.2) (changed w d _ h refl (step_made w d (Adopt u) _ h.versions h.sent (s.0, s.1, refl)) (step_sent w d (Adopt u) _ h.sent (s.0, s.1, refl))
    (adopts_sound w d u h.versions h.sent (h.members d) s.0 s.1) (h.sums.objects d))
step_keeps w d (Finish v) new h s =
    subst Invariant (sym s.2) (changed w d _ h refl (step_made w d (Finish v) _ h.versions h.sent (s.0, s.1, refl)) (step_sent w d (Finish v) _ h.sent (s.0, s.1, refl))
    (finish_sound w d v h.versions (h.members d) s.1) (h.sums.objects d))
step_keeps w d (Install op) new h s =
    subst Invariant (sym s.3) (changed w d _ h refl (step_made w d (Install op) _ h.versions h.sent (s.0, s.1, s.2, refl)) (step_sent w d (Install op) _ h.sent (s.0, s.1, s.2, refl))
    (replica_sound (λ v. In v w.all) (IsRecord w.all (w.at d).known) d (w.at d) op (λ a b c e q. best_one a b (λ i j k l. h.versions.one_each i j k.0 l.0) c e q) (h.versions.begun d) (λ v r. r.among.0) h.files.kinds s.0 s.1 s.2 (h.members d))
    (replica_sums d op (w.at d).volume s.2 (h.sums.objects d)))
step_keeps w d (Unstage id) new h (f, o, at, uid, staged, is) =
    subst Invariant (sym is) (changed w d _ h refl (step_made w d (Unstage id) _ h.versions h.sent (f, o, at, uid, staged, refl)) (step_sent w d (Unstage id) _ h.sent (f, o, at, uid, staged, refl))
    (unstage_sound (λ v. In v w.all) (IsRecord w.all (w.at d).known) d (w.at d) id f o (h.members d) at uid staged) (h.sums.objects d))

-- so does every run
run_keeps : (w : World) (hs : List Happening) (new : World) → Invariant w → Run w hs new → Invariant new
run_keeps w [] new h e = subst Invariant (sym e) h
run_keeps w (k ∷ hs) new h (mid, s, r) = run_keeps mid hs new (step_keeps w k.at k.event mid h s) r

-- in which all grows that may
pub runs_keep : RunsKeepTheInvariant
runs_keep w hs new h r = (run_keeps w hs new h r, run_grows w hs new r)

-- an operation of the installer is done only where no local record is pending
pub pending_stay : PendingObjectsStay
pending_stay w d op new s fid o at pending = absurd (no_pending (w.at d) (uid_of d o) s.0 pending)
