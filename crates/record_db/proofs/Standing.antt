-- Books that stand for what was recorded and is covered go on to.
use Rattle.std.proofs.Common.{◌≡◌, ◌⊎◌, ◌++◌, ◌&&◌, ◌||◌, ℕ, Bool, true, false, cond, List, [], ◌∷◌, refl, sym, ap, ◌∙◌, subst, inl, inr, Option, Some, None, MatchOption}
use Rattle.frs_base.specs.Options.{In}
use Rattle.frs_base.specs.Versions.{same_gvsn, same_uid}
use Rattle.frs_base.specs.declared.version.Uid.{Uid}
use Rattle.frs_base.specs.declared.version.Gvsn.{Gvsn}
use Rattle.version_vector.specs.Versions.{covers}
use Rattle.version_vector.specs.declared.interval.Interval.{Interval}
use Rattle.version_vector.proofs.Uniqueness.{unique}
use Rattle.win_order.specs.Order.{key_lt, key_of}
use Rattle.win_order.specs.declared.update.Update.{Update}
use Rattle.record_db.specs.declared.command.BookCmd.TheVariants.{RecordLocal, Adopt, Finish, Unstage}
use Rattle.record_db.specs.Lists.{Lists, put_record}
use Rattle.record_db.specs.Records.{Covered, IsBetter, IsHeldOrBeaten, IsRecord, Versions, both, plus}
use Rattle.record_db.specs.Staged.{staged_with, with_uid}
use Rattle.record_db.specs.State.{BookState, IsVector, form_of}
use Rattle.record_db.specs.Standing.{AdoptsOn, AreAlike, AreOneEach, BeginsStanding, FindsRecords, FinishesOn, IsUnused, RecordsOn, StaysStanding, UnstagesOn}
use Rattle.record_db.specs.Steps.{Changes, in_set, own_version}
use Rattle.record_db.proofs.Keys.{key_cut, same_gvsn_refl}
use Rattle.record_db.proofs.Sets.{both_cases, both_old, in_after, in_append, in_before, plus_cases, plus_new, plus_old}
use Rattle.record_db.proofs.Best.{Grown, beats_all, best_fewer, best_more, best_same, covered_held}
use Rattle.record_db.proofs.Forms.{form_in, found_with}
use Rattle.record_db.proofs.Lists.{found_held, lists_one, lists_same, put_lists}

-- ---- sets that grow

-- with an update of a new version
pub grown_new : (all : List Update) (known : Versions) (u : Update) → IsUnused all u.gvsn → IsBetter (Covered all known) u → Grown (Covered all known) (Covered (all ++ u ∷ []) (plus known u.gvsn)) u
grown_new all known u unused (held, is_held, better) = record {
  old = λ v c. (in_before v all (u ∷ []) c.0, plus_old known u.gvsn v.gvsn c.1);
  new = (in_after u all (u ∷ []) (inl refl), plus_new known u.gvsn);
  only = λ v c. only v c.1 (in_append v all (u ∷ []) c.0);
  beaten = beats_all (Covered all known) u held is_held better;
}
  where
    only : (v : Update) → plus known u.gvsn v.gvsn ≡ true → In v all ⊎ In v (u ∷ []) → Covered all known v ⊎ (v ≡ u)
    only v k (inr (inl e)) = inr e
    only v k (inr (inr h)) = absurd h
    only v k (inl a) = elim (plus_cases known u.gvsn v.gvsn k) [ inl e ↦ absurd (unused v a e) | inr t ↦ inl (a, t) ]

-- with the version of an update that was recorded
pub grown_known : (all : List Update) (known : Versions) (u : Update) → AreOneEach all → In u all → IsBetter (Covered all known) u → Grown (Covered all known) (Covered all (plus known u.gvsn)) u
grown_known all known u one here (held, is_held, better) = record {
  old = λ v c. (c.0, plus_old known u.gvsn v.gvsn c.1);
  new = (here, plus_new known u.gvsn);
  only = λ v c. elim (plus_cases known u.gvsn v.gvsn c.1) [ inl e ↦ inr (one v u c.0 here e) | inr t ↦ inl (c.0, t) ];
  beaten = beats_all (Covered all known) u held is_held better;
}

-- with a version that no update has, nothing more is covered
pub covered_same : (all : List Update) (known : Versions) (g : Gvsn) → IsUnused all g → (v : Update) → Covered (all ++ []) (plus known g) v → Covered all known v
covered_same all known g unused v (a, k) = elim (in_append v all [] a) [
  | inl old ↦ elim (plus_cases known g v.gvsn k) [ inl e ↦ absurd (unused v old e) | inr t ↦ (old, t) ]
  | inr none ↦ absurd none
]

no_smaller : (a b c : Update) → key_lt (key_of a) (key_of b) ≡ false → key_lt (key_of b) (key_of c) ≡ false → key_lt (key_of a) (key_of c) ≡ false
no_smaller a b c p q = by (key_lt (key_of a) (key_of c)) refl
  where
    by : (t : Bool) → key_lt (key_of a) (key_of c) ≡ t → t ≡ false
    by false e = refl
    by true e = let lower = key_cut (key_of a) (key_of b) (key_of c) e q in absurd (cc)

-- where the winners of another set are held or beaten, all of both are
pub both_held : (all : List Update) (known other : Versions) → ((u : Update) → IsRecord all other u → IsHeldOrBeaten (IsRecord all known) u) → (v : Update) → Covered all (both known other) v → IsHeldOrBeaten (IsRecord all known) v
both_held all known other held v c = elim (both_cases known other v.gvsn c.1) [
  | inl old ↦ covered_held all known v (c.0, old)
  | inr t ↦
      let (r, wins, file, low) = covered_held all other v (c.0, t) in
      let (q, wins', file', low') = held r wins in
      (q, wins', file' ∙ file, no_smaller q r v low' low)
]

-- ---- vectors

-- a wider vector of what the book covers is one of what it stands for
vector_plus : (known : Versions) (old new : List Interval) (g : Gvsn) → IsVector known old → IsVector (plus (covers old) g) new → IsVector (plus known g) new
vector_plus known old new g was is = record { canonical = is.canonical; covering = λ h. is.covering h ∙ ap (λ t. same_gvsn g h || t) (was.covering h) }

vector_both : (known other : Versions) (old sent new : List Interval) → IsVector known old → ((g : Gvsn) → covers sent g ≡ other g) → IsVector (both (covers old) (covers sent)) new → IsVector (both known other) new
vector_both known other old sent new was theirs is = record { canonical = is.canonical; covering = λ h. is.covering h ∙ (λ i. theirs h i || was.covering h i) }

-- ---- what is staged

-- where the book has what it had
staged_same : (old new : BookState) (forms : Uid → Option (List ℕ)) → new.staged ≡ old.staged → ((uid : Uid) → form_of old uid ≡ forms uid) → (uid : Uid) → form_of new uid ≡ forms uid
staged_same old new forms is was uid = ap (λ staged. form_in staged uid) is ∙ was uid

-- where it has this of one file
staged_new : (old new : BookState) (forms : Uid → Option (List ℕ)) (at : Uid) (form : Option (List ℕ)) → new.staged ≡ staged_with at form old.staged → ((uid : Uid) → form_of old uid ≡ forms uid)
    → (uid : Uid) → form_of new uid ≡ with_uid forms at form uid
staged_new old new forms at form is was uid =
    ap (λ staged. form_in staged uid) is ∙ found_with at form old.staged uid ∙ ap (λ other. cond (same_uid uid at) form other) (was uid)

-- ---- the laws

pub begins_standing : BeginsStanding
begins_standing kind own set all = record {
  records = record { rising = tt; each = λ u h. absurd h; whole = λ u wins. let t = wins.among.1 in absurd (cc) };
  vector = record { canonical = tt; covering = λ g. refl };
  consumed = refl;
  phase = refl;
  staged = λ uid. refl;
}

-- an update of the book's set is put as it is
put_as_it_is : (set : ℕ) (u : Update) (records : List Update) → u.set ≡ set → put_record u records ≡ put_record (in_set set u) records
put_as_it_is set u records e = ap (λ s. put_record (record u { set = s }) records) e

pub records_on : RecordsOn
records_on all known usn phase forms old new None s unused fit changed =
    let g = own_version old usn in
    record {
      records = subst (Lists (IsRecord (all ++ []) (plus known g))) (sym changed.records)
          (lists_same (IsRecord all known) (IsRecord (all ++ []) (plus known g)) old.records (λ u. best_same u to back) (λ u. best_same u back to) s.records);
      vector = vector_plus known old.vector new.vector g s.vector changed.vector;
      consumed = changed.consumed;
      phase = changed.phase ∙ s.phase;
      staged = staged_same old new forms changed.staged s.staged;
    }
  where
    to : (v : Update) → Covered all known v → Covered (all ++ []) (plus known (own_version old usn)) v
    to v c = (in_before v all [] c.0, plus_old known (own_version old usn) v.gvsn c.1)

    back : (v : Update) → Covered (all ++ []) (plus known (own_version old usn)) v → Covered all known v
    back = covered_same all known (own_version old usn) unused
records_on all known usn phase forms old new (Some u) s unused (own, fit) changed =
    let g = own_version old usn in
    let grown : Grown (Covered all known) (Covered (all ++ u ∷ []) (plus known g)) u =
    subst (λ h. Grown (Covered all known) (Covered (all ++ u ∷ []) (plus known h)) u) own (grown_new all known u (λ v h e. unused v h (e ∙ own)) fit.better) in
    record {
      records = subst (Lists (IsRecord (all ++ u ∷ []) (plus known g))) (put_as_it_is old.set u old.records fit.set ∙ sym changed.records)
          (put_lists (Covered all known) (Covered (all ++ u ∷ []) (plus known g)) u old.records grown s.records);
      vector = vector_plus known old.vector new.vector g s.vector changed.vector;
      consumed = changed.consumed;
      phase = changed.phase ∙ s.phase;
      staged = staged_new old new forms u.uid None changed.staged s.staged;
    }

pub adopts_on : AdoptsOn
adopts_on all known consumed phase forms old new u form s one here fit changed =
    record {
      records = subst (Lists (IsRecord all (plus known u.gvsn))) (put_as_it_is old.set u old.records fit.set ∙ sym changed.records)
          (put_lists (Covered all known) (Covered all (plus known u.gvsn)) u old.records (grown_known all known u one here fit.better) s.records);
      vector = vector_plus known old.vector new.vector u.gvsn s.vector changed.vector;
      consumed = changed.consumed ∙ s.consumed;
      phase = changed.phase ∙ s.phase;
      staged = staged_new old new forms u.uid form changed.staged s.staged;
    }

pub finishes_on : FinishesOn
finishes_on all known other consumed phase forms old new sent s one theirs held changed =
    record {
      records = subst (Lists (IsRecord all (both known other))) (sym changed.records)
          (lists_same (IsRecord all known) (IsRecord all (both known other)) old.records
          (λ u. best_more u wider (both_held all known other held)) (λ u. best_fewer u (λ a b p q. one a b p.0 q.0) wider (both_held all known other held)) s.records);
      vector = vector_both known other old.vector sent new.vector s.vector theirs changed.vector;
      consumed = changed.consumed ∙ s.consumed;
      phase = changed.phase;
      staged = staged_same old new forms changed.staged s.staged;
    }
  where
    wider : (v : Update) → Covered all known v → Covered all (both known other) v
    wider v c = (c.0, both_old known other v.gvsn c.1)

pub unstages_on : UnstagesOn
unstages_on all known consumed phase forms old new uid s changed =
    record {
      records = subst (Lists (IsRecord all known)) (sym changed.records) s.records;
      vector = record { canonical = changed.vector.canonical; covering = λ g. changed.vector.covering g ∙ s.vector.covering g };
      consumed = changed.consumed ∙ s.consumed;
      phase = changed.phase ∙ s.phase;
      staged = staged_new old new forms uid None changed.staged s.staged;
    }

pub stays_standing : StaysStanding
stays_standing all more known consumed phase forms book s beside = record {
  records = lists_same (IsRecord all known) (IsRecord (all ++ more) known) book.records (λ u. best_same u to back) (λ u. best_same u back to) s.records;
  vector = s.vector;
  consumed = s.consumed;
  phase = s.phase;
  staged = s.staged;
}
  where
    to : (v : Update) → Covered all known v → Covered (all ++ more) known v
    to v c = (in_before v all more c.0, c.1)

    back : (v : Update) → Covered (all ++ more) known v → Covered all known v
    back v c = elim (in_append v all more c.0) [ inl old ↦ (old, c.1) | inr new ↦ (let f = beside v new in let t = c.1 in absurd (cc)) ]

pub finds_records : FindsRecords
finds_records all known consumed phase forms book uid s = found_held all known book.records uid s.records

pub are_alike : AreAlike
are_alike all known consumed consumed' phase phase' forms forms' a b s t = (
  lists_one (IsRecord all known) a.records b.records s.records t.records,
  unique a.vector b.vector s.vector.canonical t.vector.canonical (λ g. s.vector.covering g ∙ sym (t.vector.covering g)),
)
