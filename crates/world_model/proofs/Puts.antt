-- What an event does to the records of the members.
use Rattle.std.proofs.Common.{◌≡◌, ◌<◌, ◌≤◌, ◌+◌, ◌⊎◌, ℕ, Bool, true, false, ◌&&◌, ◌||◌, eqb, ltb, max, [], ◌∷◌, ◌++◌, refl, sym, ap, ◌∙◌, subst, arith, inl, inr, Option, Some, None}
use Rattle.std.specs.Prelude.{MatchOption}
use Rattle.std.proofs.lemmas.Bool.Decides.{nat_tests}
use Rattle.frs_base.specs.Options.{In}
use Rattle.frs_base.specs.declared.version.Uid.{Uid}
use Rattle.win_order.specs.declared.update.Update.{Update}
use Rattle.win_order.specs.Order.{Beats, key_lt, key_of}
use Rattle.vol_state.specs.declared.object.Object.{Object}
use Rattle.vol_state.specs.declared.record.VolRecord.{VolRecord}
use Rattle.vol_state.specs.State.{uid_of}
use Rattle.vol_state.specs.Maps.{Maps}
use Rattle.vol_state.specs.Tables.{IsAt}
use Rattle.record_db.specs.Records.{Covered, Has, IsBetter, IsHeld, IsHeldOrBeaten, IsRecord, Versions, both, plus}
use Rattle.record_db.proofs.Keys.{key_cut}
use Rattle.record_db.proofs.Sets.{both_cases, both_old, in_after, in_append, in_before, plus_cases, plus_new, plus_old}
use Rattle.record_db.proofs.Best.{Grown, beats_all, best_fewer, best_more, best_same, covered_held}
use Rattle.name_rules.specs.Recorded.{is_deletion, recorded_of, tombstone}
use Rattle.name_rules.proofs.Cases.{Changed, Deleted, made_by, made_version}
use Rattle.world_model.specs.World.{World, IsRecordOf}
use Rattle.world_model.specs.Events.{IsAllHeld, Records, WasSent}
use Rattle.world_model.specs.Invariant.{JournalIsTrue, SentIsKnown, VersionsAreMade}
use Rattle.world_model.specs.Runs.{CoversAlike, Grows}

-- ---- the update of a consumed record has its file, and beats the held one

-- of the record's file, where the object has the file's UID
pub made_uid : (P : Update → Type 0) (own : ℕ) (m : Maps) (base usn moment : ℕ) (r : VolRecord) (held : Option Update) (u : Update)
    → ((o : Object) → r.local ≡ true → IsAt m r.fid o → uid_of own o ≡ r.uid) → IsHeld P r.uid held → Some u ≡ recorded_of own m base usn moment r held → u.uid ≡ r.uid
made_uid P own m base usn moment r held u named h is =
    let (l, cases) = made_by own m base usn moment r.local (is_deletion r) held (m.at r.fid) u is in elim cases [
      | inl d ↦ ap (λ x. x.uid) d.is ∙ (subst (IsHeld P r.uid) d.was h).1
      | inr c ↦ ap (λ x. x.uid) c.is ∙ named c.now l c.there
    ]

greater : (f f' c c' : ℕ) (more : Bool) → f ≤ f' → c < c' → (ltb f f' || (eqb f f' && (ltb c c' || (eqb c c' && more)))) ≡ true
greater f f' c c' more p q = grind (arith, nat_tests)

-- above the held one, by its clock
pub made_beats : (P : Update → Type 0) (own : ℕ) (m : Maps) (base usn moment : ℕ) (r : VolRecord) (held : Option Update) (u : Update)
    → u.uid ≡ r.uid → IsHeld P r.uid held → Some u ≡ recorded_of own m base usn moment r held → MatchOption held (Unit {0}) (λ x. Beats u x)
made_beats P own m base usn moment r None u file h is = tt
made_beats P own m base usn moment r (Some x) u file h is =
    record { file = file ∙ sym h.1; greater = by (made_by own m base usn moment r.local (is_deletion r) (Some x) (m.at r.fid) u is).1 }
  where
    by : Deleted own base usn moment (is_deletion r) (Some x) u ⊎ Changed own m base usn moment (is_deletion r) (Some x) (m.at r.fid) u → key_lt (key_of x) (key_of u) ≡ true
    by (inl d) =
        let same : x ≡ d.old = let was = d.was in cc in
        subst (λ y. key_lt (key_of x) (key_of y) ≡ true) (sym d.is)
        (subst (λ y. key_lt (key_of x) (key_of (tombstone own base usn moment y)) ≡ true) same (greater x.fence (max base x.fence) x.clock (max moment (x.clock + 1)) _ (omega arith) (omega arith)))
    by (inr c) =
        subst (λ y. key_lt (key_of x) (key_of y) ≡ true) (sym c.is) (greater x.fence (max base x.fence) x.clock (max moment (x.clock + 1)) _ (omega arith) (omega arith))

-- ---- consume

-- the update is put among the records
pub consume_put : (w : World) (d moment : ℕ) (u : Update) → VersionsAreMade w → JournalIsTrue d (w.at d).volume (w.at d).consumed → Records w d moment (Some u)
    → Grown (Covered w.all (w.at d).known) (Covered (w.all ++ u ∷ []) (plus (w.at d).known (record { db = d; version = (w.at d).consumed }))) u
consume_put w d moment u h j (r, held, at, is_held, is) = record {
  old = λ v c. (in_before v w.all (u ∷ []) c.0, plus_old (w.at d).known _ v.gvsn c.1);
  new = (in_after u w.all (u ∷ []) (inl refl), subst (λ g. plus (w.at d).known (record { db = d; version = (w.at d).consumed }) g ≡ true) (sym version) (plus_new (w.at d).known (record { db = d; version = (w.at d).consumed })));
  only = λ v c. only v c.1 (in_append v w.all (u ∷ []) c.0);
  beaten = beats_all (Covered w.all (w.at d).known) u held (subst (λ i. IsHeld (Covered w.all (w.at d).known) i held) (sym file) is_held)
      (made_beats (Covered w.all (w.at d).known) d (w.at d).volume _ (w.at d).consumed moment r held u file is_held is);
}
  where
    version : u.gvsn ≡ record { db = d; version = (w.at d).consumed }
    version = made_version d (w.at d).volume _ (w.at d).consumed moment r held u is

    file : u.uid ≡ r.uid
    file = made_uid (Covered w.all (w.at d).known) d (w.at d).volume _ (w.at d).consumed moment r held u (λ o l k. j.named (w.at d).consumed r o (omega arith) at l k) is_held is

    only : (v : Update) → plus (w.at d).known (record { db = d; version = (w.at d).consumed }) v.gvsn ≡ true → In v w.all ⊎ In v (u ∷ []) → Covered w.all (w.at d).known v ⊎ (v ≡ u)
    only v k (inr (inl s)) = inr s
    only v k (inr (inr b)) = absurd b
    only v k (inl a) = elim (plus_cases (w.at d).known _ v.gvsn k) [
      | inl g ↦ let bad : (w.at d).consumed < (w.at d).consumed = subst (λ y. y.version < (w.at y.db).consumed) g (h.recorded v a).1 in absurd (omega (arith, bad))
      | inr t ↦ inl (a, t)
    ]

-- no update is of the version of a record that made none
pub consume_none : (w : World) (d : ℕ) → VersionsAreMade w
    → (v : Update) → Covered (w.all ++ []) (plus (w.at d).known (record { db = d; version = (w.at d).consumed })) v → Covered w.all (w.at d).known v
consume_none w d h v (a, k) = by (in_append v w.all [] a)
  where
    by : In v w.all ⊎ In v [] → Covered w.all (w.at d).known v
    by (inr b) = absurd b
    by (inl a) = elim (plus_cases (w.at d).known _ v.gvsn k) [
      | inl g ↦ let bad : (w.at d).consumed < (w.at d).consumed = subst (λ y. y.version < (w.at y.db).consumed) g (h.recorded v a).1 in absurd (omega (arith, bad))
      | inr t ↦ (a, t)
    ]

-- ---- adopt

-- the update is put among the records
pub adopt_put : (w : World) (d : ℕ) (u : Update) → VersionsAreMade w → SentIsKnown w → WasSent w u → IsBetter (Covered w.all (w.at d).known) u
    → Grown (Covered w.all (w.at d).known) (Covered w.all (plus (w.at d).known u.gvsn)) u
adopt_put w d u h k (from, sent) (held, is_held, better) =
    let here = (k.updates _ sent).0 in record {
      old = λ v c. (c.0, plus_old (w.at d).known u.gvsn v.gvsn c.1);
      new = (here, plus_new (w.at d).known u.gvsn);
      only = λ v c. elim (plus_cases (w.at d).known u.gvsn v.gvsn c.1) [ inl e ↦ inr (h.one_each v u c.0 here e) | inr t ↦ inl (c.0, t) ];
      beaten = beats_all (Covered w.all (w.at d).known) u held is_held better;
    }

-- ---- finish

-- no smaller than b, which is no smaller than c
pub no_smaller : (a b c : Update) → key_lt (key_of a) (key_of b) ≡ false → key_lt (key_of b) (key_of c) ≡ false → key_lt (key_of a) (key_of c) ≡ false
no_smaller a b c p q = by (key_lt (key_of a) (key_of c)) refl
  where
    by : (t : Bool) → key_lt (key_of a) (key_of c) ≡ t → t ≡ false
    by false e = refl
    by true e = let x = key_cut (key_of a) (key_of b) (key_of c) e q in absurd (cc)

-- all that is covered then was held or beaten before
finish_held : (w : World) (d : ℕ) (s : Versions) → IsAllHeld w d s → (v : Update) → Covered w.all (both (w.at d).known s) v → IsHeldOrBeaten (IsRecordOf w d) v
finish_held w d s held v c = elim (both_cases (w.at d).known s v.gvsn c.1) [
  | inl old ↦ covered_held w.all (w.at d).known v (c.0, old)
  | inr t ↦ let (r, k, same, below) = covered_held w.all s v (c.0, t) in let (q, k', same', below') = held r k in (q, k', same' ∙ same, no_smaller q r v below' below)
]

-- the records stay records
pub finish_more : (w : World) (d : ℕ) (s : Versions) → IsAllHeld w d s → (x : Update) → IsRecordOf w d x → IsRecord w.all (both (w.at d).known s) x
finish_more w d s held x = best_more x (λ v c. (c.0, both_old (w.at d).known s v.gvsn c.1)) (finish_held w d s held)

-- and no others come
pub finish_fewer : (w : World) (d : ℕ) (s : Versions) → VersionsAreMade w → IsAllHeld w d s → (x : Update) → IsRecord w.all (both (w.at d).known s) x → IsRecordOf w d x
finish_fewer w d s h held x = best_fewer x (λ a b p q. h.one_each a b p.0 q.0) (λ v c. (c.0, both_old (w.at d).known s v.gvsn c.1)) (finish_held w d s held)

-- ---- records stay where All grows

-- of a set that covers the same
pub record_stays : (w new : World) (s : Versions) → CoversAlike w new s → (x : Update) → IsRecord w.all s x → IsRecord new.all s x
record_stays w new s k x = best_same x k.stays k.only

-- and no others come
pub record_stayed : (w new : World) (s : Versions) → CoversAlike w new s → (x : Update) → IsRecord new.all s x → IsRecord w.all s x
record_stayed w new s k x = best_same x k.only k.stays

-- a file that has a record has one from then on
pub has_more : (w new : World) (d : ℕ) (uid : Uid) → Grows w new → Has (IsRecordOf w d) uid → Has (IsRecordOf new d) uid
has_more w new d uid g (u, r, e) =
    let (q, k, s, below) = covered_held new.all (new.at d).known u (g.all u r.among.0, g.known d u.gvsn r.among.1) in
    (q, k, s ∙ e)
