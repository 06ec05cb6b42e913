-- A journal record consumed at a member's machine is consumed at the member.
use Rattle.std.proofs.Common.{cond, ◌≡◌, ◌≢◌, ◌<◌, ◌≤◌, ◌+◌, ◌-◌, ◌^◌, ◌⊎◌, ℕ, zero, suc, Bool, true, false, leb, List, [], ◌∷◌, ◌++◌, length, refl, sym, ap, ◌∙◌, subst, arith, inl, inr, MatchBool, MatchOption, Option, Some, None}
use Rattle.std.specs.Prelude.{option_to_list, slice_get}
use Rattle.std.proofs.lemmas.Bool.Decides.{nat_tests}
use Rattle.std.proofs.lemmas.List.{length-append}
use Rattle.frs_base.specs.Identifiers.{content_set}
use Rattle.frs_base.specs.declared.version.Uid.{Uid}
use Rattle.frs_base.specs.Options.{In}
use Rattle.frs_base.specs.Versions.{same_uid}
use Rattle.version_vector.specs.Versions.{covers}
use Rattle.win_order.specs.declared.update.Update.{Update}
use Rattle.vol_state.specs.declared.record.VolRecord.{VolRecord}
use Rattle.vol_state.specs.State.{State}
use Rattle.vol_state.specs.Journal.{IsNumbered, record_at}
use Rattle.vol_state.specs.Maps.{Maps, Stands, maps_of}
use Rattle.vol_state.proofs.Runs.{runs_get}
use Rattle.record_db.specs.declared.command.BookCmd.TheVariants.{RecordLocal}
use Rattle.record_db.specs.Records.{Covered, IsHeld, plus}
use Rattle.record_db.specs.Standing.{dropped_by, IsFit, IsUnused, StandsFor}
use Rattle.record_db.specs.State.{BookState}
use Rattle.record_db.specs.Steps.{Changes, own_version}
use Rattle.record_db.proofs.Lists.{found_held}
use Rattle.record_db.proofs.Sets.{in_after, in_append}
use Rattle.record_db.proofs.Standing.{records_on}
use Rattle.name_rules.specs.Recorded.{base_fence, held_of, is_deletion, made_of, recorded_of}
use Rattle.name_rules.proofs.Cases.{made_by, made_version}
use Rattle.world_model.specs.World.{IsConsumed, World}
use Rattle.world_model.specs.Events.{Records, consumed_by, consumes}
use Rattle.world_model.proofs.Changing.{at_same}
use Rattle.world_model.proofs.Puts.{made_beats, made_uid}
use Rattle.folder_core.specs.declared.refusal.Refusal.TheVariants.{Skewed, VectorFull}
use Rattle.folder_core.specs.declared.reply.Reply.{Reply}
use Rattle.folder_core.specs.declared.reply.Reply.TheVariants.{Made, Nothing, Refused, Skipped}
use Rattle.folder_core.specs.Machine.{Machine, Refuses}
use Rattle.folder_core.specs.Books.{Changed, Takes}
use Rattle.folder_core.specs.Consume.{AnswersConsume, AnswersRecord, is_at_end, made_at}
use Rattle.folder_core.specs.Sound.{IsSound as IsSoundMachine}
use Rattle.script_engine.specs.Sound.{IsSoundWorld}
use Rattle.script_engine.specs.Standing.{AreOurs, HoldsContents, MachineStands, recorded_in}
use Rattle.script_engine.specs.Consuming.{IsAtEnd, widened}
use Rattle.script_engine.specs.Widening.{Exceeds, Fits}
use Rattle.script_engine.proofs.Staging.{staged_dropped}
use Rattle.script_engine.proofs.Advancing.{Goes, machine_beside}
use Rattle.script_engine.proofs.Journals.{recorded_kept, recorded_one}
use Rattle.script_engine.proofs.Passing.{Passes, passes_consume}
use Rattle.script_engine.proofs.Vectors.{vector_plus}
use Rattle.script_engine.proofs.Widths.{covered_is, exceeds_by, fits_by}

-- what is answered of a record with this USN
abbrev pub reply_of : ℕ → ℕ → Option Update → Reply
reply_of d usn None = Skipped usn
reply_of d usn (Some u) = Made (record { db = d; version = usn })

-- no record is left
pub record Ends (w : World) (d : ℕ) (m : Machine) (reply : Reply) (new : Machine) : Type 0 where
  pub end : IsAtEnd w d
  pub reply_is : reply ≡ Nothing
  pub same : new ≡ m

-- the next one is consumed
pub record Consumes (w : World) (d moment : ℕ) (m : Machine) (reply : Reply) (new : Machine) : Type 0 where
  pub made : Option Update
  pub records : Records w d moment made
  pub fits : Fits (widened w d)
  pub reply_is : reply ≡ reply_of d (w.at d).consumed made
  pub goes : Goes w d m new (consumes w d made)
  pub keeps : (contents : Uid → List ℕ) → HoldsContents contents m → HoldsContents contents new
  pub volume : new.volume ≡ m.volume
  pub next : new.book.consumed ≡ m.book.consumed + 1

-- its version would make too many intervals
pub record IsTooFull (w : World) (d moment : ℕ) (m : Machine) (reply : Reply) (new : Machine) : Type 0 where
  pub made : Option Update
  pub count : ℕ
  pub records : Records w d moment made
  pub exceeds : Exceeds (widened w d) count
  pub reply_is : reply ≡ Refused (VectorFull count)
  pub same : new ≡ m

-- ---- the next record

-- maps for which lists stand are theirs
pub maps_are : (v : State) (m : Maps) → Stands v m → maps_of v ≡ m
maps_are v m s = λ i. record { at = λ fid. sym (s.objects fid) i; entry = λ usn. sym (s.entries usn) i; next_fid = sym s.next_fid i; next_usn = sym s.next_usn i }

within_some : {X : Type 0} (xs : List X) (k : ℕ) → k < length xs → slice_get xs k ≡ None → ⊥
within_some [] k l e = omega (arith, l)
within_some (x ∷ xs) zero l e = cc
within_some (x ∷ xs) (suc k) l e = within_some xs k (omega (arith, l)) e

there_is : {X : Type 0} (x : Option X) → (x ≡ None → ⊥) → (y : X) × (x ≡ Some y)
there_is None n = absurd (n refl)
there_is (Some y) n = (y, refl)

next_record : (v : State) (usn : ℕ) → IsNumbered v → 9 ≤ usn → usn < v.next_usn → (r : VolRecord) × (record_at v.journal usn ≡ Some r)
next_record v usn n low high =
    there_is (record_at v.journal usn) (λ none. within_some v.journal (usn - 9) (omega (arith, n.next, low, high)) (runs_get usn (usn - 9) v.journal n.run (omega (arith, low)) ∙ none))

-- ---- what it makes

-- what a record makes is of the content set, and not compressed
made_ours : (w : World) (d moment : ℕ) (u : Update) → AreOurs w.all → Records w d moment (Some u) → (u.set ≡ content_set) × (u.flags ≡ 0)
made_ours w d moment u ours (r, held, at, is_held, is) =
    let (local, cases) = made_by d (w.at d).volume (base_fence (w.at d).phase (w.at d).kind) (w.at d).consumed moment r.local (is_deletion r) held ((w.at d).volume.at r.fid) u is in
    elim cases [
      | inl deleted ↦ let h : IsHeld (Covered w.all (w.at d).known) r.uid (Some deleted.old) = subst (IsHeld (Covered w.all (w.at d).known) r.uid) deleted.was is_held in
          (ap (λ y. y.set) deleted.is ∙ (ours deleted.old h.0.among.0).0, ap (λ y. y.flags) deleted.is)
      | inr changed ↦ (ap (λ y. y.set) changed.is, ap (λ y. y.flags) changed.is)
    ]

all_ours : (w : World) (d moment : ℕ) (made : Option Update) → Records w d moment made → AreOurs w.all → AreOurs (w.all ++ option_to_list made)
all_ours w d moment made r ours u here = elim (in_append u w.all (option_to_list made) here) [ inl old ↦ ours u old | inr new ↦ by made r new ]
  where
    by : (made : Option Update) → Records w d moment made → In u (option_to_list made) → (u.set ≡ content_set) × (u.flags ≡ 0)
    by None r new = absurd new
    by (Some x) r (inl e) = subst (λ (y : Update). (y.set ≡ content_set) × (y.flags ≡ 0)) (sym e) (made_ours w d moment x ours r)
    by (Some x) r (inr new) = absurd new

-- its version is the next one of the member
own_made : (w : World) (d moment : ℕ) (u : Update) → Records w d moment (Some u) → u.gvsn ≡ record { db = d; version = (w.at d).consumed }
own_made w d moment u (r, held, at, is_held, is) = made_version d (w.at d).volume _ (w.at d).consumed moment r held u is

-- no member covers what a record makes
made_fresh : (w : World) (d moment : ℕ) (made : Option Update) → IsSoundWorld w → Records w d moment made → (j : ℕ) (u : Update) → In u (option_to_list made) → (w.at j).known u.gvsn ≡ false
made_fresh w d moment None sound r j u here = absurd here
made_fresh w d moment (Some x) sound r j u (inr here) = absurd here
made_fresh w d moment (Some x) sound r j u (inl e) = by ((w.at j).known u.gvsn) refl
  where
    by : (t : Bool) → (w.at j).known u.gvsn ≡ t → t ≡ false
    by false k = refl
    by true k =
        let c : IsConsumed w u.gvsn = sound.invariant.versions.known j u.gvsn k in
        let is : u.gvsn ≡ record { db = d; version = (w.at d).consumed } = ap (λ (y : Update). y.gvsn) e ∙ own_made w d moment x r in
        let bad : IsConsumed w (record { db = d; version = (w.at d).consumed }) = subst (IsConsumed w) is c in
        let low = bad.1 in absurd (omega (arith, low))

-- ---- the book

-- the update is of the book's set and better than what it holds
abbrev IsRecorded : World → ℕ → BookState → Option Update → Type 0
IsRecorded w d book made = MatchOption made (Unit {0}) (λ u. (u.gvsn ≡ own_version book (w.at d).consumed) × IsFit w.all (w.at d).known book u)

recorded_fit : (w : World) (d moment : ℕ) (m : Machine) (made : Option Update) → IsSoundWorld w → AreOurs w.all → MachineStands w.all (w.at d) d m → Records w d moment made → IsRecorded w d m.book made
recorded_fit w d moment m None sound ours s r = tt
recorded_fit w d moment m (Some u) sound ours s records =
    let (r, held, at, is_held, is) = records in
    let x = w.at d in
    let named = (sound.invariant.members d).journal.named in
    let file : u.uid ≡ r.uid = made_uid (Covered w.all x.known) d x.volume _ x.consumed moment r held u (λ o local there. named x.consumed r o (omega arith) at local there) is_held is in (
      own_made w d moment u records ∙ (λ i. record { db = sym s.own i; version = x.consumed }),
      record {
        set = (made_ours w d moment u ours records).0 ∙ sym s.set;
        better = (held, subst (λ uid. IsHeld (Covered w.all x.known) uid held) (sym file) is_held, made_beats (Covered w.all x.known) d x.volume _ x.consumed moment r held u file is_held is);
      },
    )

unused : (w : World) (d : ℕ) (own : ℕ) → IsSoundWorld w → own ≡ d → IsUnused w.all (record { db = own; version = (w.at d).consumed })
unused w d own sound e u here is =
    let c : IsConsumed w u.gvsn = sound.invariant.versions.recorded u here in
    let bad : IsConsumed w (record { db = d; version = (w.at d).consumed }) = subst (IsConsumed w) (is ∙ (λ i. record { db = e i; version = (w.at d).consumed })) c in
    let low = bad.1 in omega (arith, low)

-- the book of a member that consumed a record
book_on : (w : World) (d moment : ℕ) (m new : Machine) (made : Option Update) → IsSoundWorld w → AreOurs w.all → (s : MachineStands w.all (w.at d) d m) → Records w d moment made
    → Changed (RecordLocal m.book.consumed made) m new
    → StandsFor (w.all ++ option_to_list made) (plus (w.at d).known (own_version m.book (w.at d).consumed)) ((w.at d).consumed + 1) (w.at d).phase (dropped_by made s.forms) new.book
book_on w d moment m new made sound ours s records changed =
    let x = w.at d in
    let fit = recorded_fit w d moment m made sound ours s records in
    let changes : Changes (RecordLocal x.consumed made) m.book new.book = subst (λ n. Changes (RecordLocal n made) m.book new.book) s.book.consumed changed.book in
    records_on w.all x.known x.consumed x.phase s.forms m.book new.book made s.book (unused w d m.book.own sound s.own) fit changes

-- what is staged then was staged
dropped_less : (made : Option Update) (forms : Uid → Option (List ℕ)) (uid : Uid) (form : List ℕ) → dropped_by made forms uid ≡ Some form → forms uid ≡ Some form
dropped_less None forms uid form e = e
dropped_less (Some u) forms uid form e = by (same_uid uid u.uid) e
  where
    by : (b : Bool) → cond b None (forms uid) ≡ Some form → forms uid ≡ Some form
    by true e = absurd (cc)
    by false e = e

pub consumed_keeps : (w : World) (d moment : ℕ) (m new : Machine) (made : Option Update) → IsSoundWorld w → AreOurs w.all → MachineStands w.all (w.at d) d m → Records w d moment made
    → Changed (RecordLocal m.book.consumed made) m new → (contents : Uid → List ℕ) → HoldsContents contents m → HoldsContents contents new
consumed_keeps w d moment m new made sound ours s records changed contents h uid form e =
    let on = book_on w d moment m new made sound ours s records changed in
    h uid form (s.book.staged uid ∙ dropped_less made s.forms uid form (sym (on.staged uid) ∙ e))

-- the machine of a member that consumed a record
consumed_stands : (w : World) (d moment : ℕ) (m new : Machine) (made : Option Update) → IsSoundWorld w → AreOurs w.all → MachineStands w.all (w.at d) d m → IsSoundMachine new → Records w d moment made
    → Changed (RecordLocal m.book.consumed made) m new → MachineStands (w.all ++ option_to_list made) (consumed_by d made (w.at d)) d new
consumed_stands w d moment m new made sound ours s keeps records changed =
    let x = w.at d in
    let on = book_on w d moment m new made sound ours s records changed in
    record {
      sound = keeps;
      own = changed.book.own ∙ s.own;
      set = changed.book.set ∙ s.set;
      kind = changed.book.kind ∙ s.kind;
      forms = dropped_by made s.forms;
      book = subst (λ own. StandsFor (w.all ++ option_to_list made) (plus x.known (record { db = own; version = x.consumed })) (x.consumed + 1) x.phase (dropped_by made s.forms) new.book) s.own on;
      staged = staged_dropped x.staged s.forms made s.staged;
      volume = subst (λ v. Stands v x.volume) (sym changed.volume) s.volume;
    }

pub goes_by : (w : World) (d moment : ℕ) (m new : Machine) (made : Option Update) → moment < 2 ^ 61 → IsSoundWorld w → AreOurs w.all → MachineStands w.all (w.at d) d m → IsSoundMachine new → Records w d moment made
    → Changed (RecordLocal m.book.consumed made) m new → Goes w d m new (consumes w d made)
goes_by w d moment m new made early sound ours s keeps records changed = record {
  passes = passes;
  stands = subst (λ x. MachineStands (w.all ++ option_to_list made) x d new) (sym (at_same w.at d (consumed_by d made (w.at d)))) (consumed_stands w d moment m new made sound ours s keeps records changed);
  beside = λ j x n stands. subst (λ y. MachineStands (w.all ++ option_to_list made) y j x) (passes.others j n)
      (machine_beside w.all (option_to_list made) (w.at j) j x (made_fresh w d moment made sound records j) stands);
  ours = all_ours w d moment made records;
  counted = let more = length-append w.all (option_to_list made) in
      let one = one_more made records in omega (arith, more, one);
}
  where
    passes : Passes d w (consumes w d made)
    passes = passes_consume w d moment made (consumes w d made) early sound records refl

    next : new.book.consumed ≡ m.book.consumed + 1
    next = changed.book.consumed

    one_more : (made : Option Update) → Records w d moment made → length (option_to_list made) + recorded_in m ≤ recorded_in new
    one_more None r = let kept = recorded_kept m new changed.volume (omega (arith, next)) in omega (arith, kept)
    one_more (Some u) (r, held, at, is_held, is) =
        let (local, cases) = made_by d (w.at d).volume (base_fence (w.at d).phase (w.at d).kind) (w.at d).consumed moment r.local (is_deletion r) held ((w.at d).volume.at r.fid) u is in
        let there : record_at m.volume.journal m.book.consumed ≡ Some r = sym (s.volume.entries m.book.consumed) ∙ ap (w.at d).volume.entry s.book.consumed ∙ at in
        let one = recorded_one m new r changed.volume next there local in omega (arith, one)

-- ---- the answer

-- what bounds the clocks of a world
abbrev pub AreBounded : World → ℕ → Type 0
AreBounded w moment = (moment < 2 ^ 61) × (length w.all < 2 ^ 60)

pub widths : (w : World) (d : ℕ) (m : Machine) → MachineStands w.all (w.at d) d m → plus (covers m.book.vector) (own_version m.book m.book.consumed) ≡ widened w d
widths w d m s = λ i. plus (covered_is (w.at d).known m.book.vector s.book.vector i) (record { db = s.own i; version = s.book.consumed i })

book_takes : (w : World) (d moment : ℕ) (m : Machine) (reply : Reply) (new : Machine) (made : Option Update) → AreBounded w moment → IsSoundWorld w → AreOurs w.all → MachineStands w.all (w.at d) d m → IsSoundMachine new
    → Records w d moment made → Takes (RecordLocal m.book.consumed made) (reply_of d (w.at d).consumed made) m reply new
    → Consumes w d moment m reply new ⊎ IsTooFull w d moment m reply new
book_takes w d moment m reply new made (early, few) sound ours s keeps records (inl (said, changed)) = inl (record {
  made = made;
  records = records;
  fits = fits_by _ (widened w d) new.book.vector (widths w d m s) changed.book.vector changed.within;
  reply_is = said;
  goes = goes_by w d moment m new made early sound ours s keeps records changed;
  keeps = consumed_keeps w d moment m new made sound ours s records changed;
  volume = changed.volume;
  next = changed.book.consumed;
})
book_takes w d moment m reply new made (early, few) sound ours s keeps records (inr (count, (full, (said, same)))) = inr (record {
  made = made;
  count = count;
  records = records;
  exceeds = exceeds_by _ (widened w d) count (widths w d m s) (vector_plus (w.at d).known _ (sound.vectors d)) full;
  reply_is = said;
  same = same;
})

-- clocks are small, so that none is skewed
unskewed : (w : World) (d moment : ℕ) (u : Update) → AreBounded w moment → IsSoundWorld w → Records w d moment (Some u) → leb (2 ^ 62) u.clock ≡ false
unskewed w d moment u (early, few) sound records =
    let passes = passes_consume w d moment (Some u) (consumes w d (Some u)) early sound records refl in
    let clock = passes.sound.invariant.clocks.clocks u (in_after u w.all (u ∷ []) (inl refl)) in
    let more = length-append w.all (u ∷ []) in
    by (leb (2 ^ 62) u.clock) refl (omega (arith, clock, more, few))
  where
    by : (t : Bool) → leb (2 ^ 62) u.clock ≡ t → u.clock < 2 ^ 62 → t ≡ false
    by false e l = refl
    by true e l = absurd (grind (arith, nat_tests))

record_answers : (w : World) (d moment : ℕ) (m : Machine) (reply : Reply) (new : Machine) (made : Option Update) → AreBounded w moment → IsSoundWorld w → AreOurs w.all → MachineStands w.all (w.at d) d m → IsSoundMachine new
    → Records w d moment made → AnswersRecord made m reply new → Consumes w d moment m reply new ⊎ IsTooFull w d moment m reply new
record_answers w d moment m reply new None bounded sound ours s keeps records answers =
    book_takes w d moment m reply new None bounded sound ours s keeps records (subst (λ n. Takes (RecordLocal m.book.consumed None) (Skipped n) m reply new) s.book.consumed answers)
record_answers w d moment m reply new (Some u) bounded sound ours s keeps records answers =
    let takes : Takes (RecordLocal m.book.consumed (Some u)) (Made u.gvsn) m reply new =
    subst (λ t. MatchBool t (Refuses (Skewed u.clock) m reply new) (Takes (RecordLocal m.book.consumed (Some u)) (Made u.gvsn) m reply new)) (unskewed w d moment u bounded sound records) answers in
    book_takes w d moment m reply new (Some u) bounded sound ours s keeps records
    (subst (λ g. Takes (RecordLocal m.book.consumed (Some u)) (Made g) m reply new) (own_made w d moment u records) takes)

-- what a member's machine makes of its next record is what the member makes
made_is : (w : World) (d moment : ℕ) (m : Machine) (r : VolRecord) → MachineStands w.all (w.at d) d m → record_at m.volume.journal m.book.consumed ≡ Some r → Records w d moment (made_at m moment)
made_is w d moment m r s at =
    let x = w.at d in
    let held = held_of m.book.records r.uid in
    let made : made_at m moment ≡ recorded_of m.volume.own (maps_of m.volume) (base_fence m.book.phase m.book.kind) m.book.consumed moment r held =
    ap (λ found. made_of found (λ r. recorded_of m.volume.own (maps_of m.volume) (base_fence m.book.phase m.book.kind) m.book.consumed moment r (held_of m.book.records r.uid))) at in
    let maps = maps_are m.volume x.volume s.volume in
    let own = s.sound.order.own ∙ s.own in (
      r,
      held,
      sym (ap x.volume.entry s.book.consumed) ∙ s.volume.entries m.book.consumed ∙ at,
      found_held w.all x.known m.book.records r.uid s.book.records,
      made ∙ (λ i. recorded_of (own i) (maps i) (base_fence (s.book.phase i) (s.kind i)) (s.book.consumed i) moment r held),
    )

-- nothing is left, or the next record is consumed, or its version would make too many intervals
pub consumes_at : (w : World) (d moment : ℕ) (m : Machine) (reply : Reply) (new : Machine) → AreBounded w moment → IsSoundWorld w → AreOurs w.all → MachineStands w.all (w.at d) d m → IsSoundMachine new
    → AnswersConsume moment m reply new → Ends w d m reply new ⊎ (Consumes w d moment m reply new ⊎ IsTooFull w d moment m reply new)
consumes_at w d moment m reply new bounded sound ours s keeps answers = by (is_at_end m) refl answers
  where
    at_end : is_at_end m ≡ true → IsAtEnd w d
    at_end e = go ((w.at d).volume.entry (w.at d).consumed) refl
      where
        go : (found : Option VolRecord) → (w.at d).volume.entry (w.at d).consumed ≡ found → found ≡ None
        go None at = refl
        go (Some r) at =
            let below = (sound.invariant.members d).numbers.entries (w.at d).consumed r at in
            let next = s.volume.next_usn in
            let now = s.book.consumed in
            let same : m.book.consumed ≡ m.volume.next_usn = grind (arith, nat_tests) in
            absurd (omega (arith, below, next, now, same))

    by : (t : Bool) → is_at_end m ≡ t → MatchBool t ((reply ≡ Nothing) × (new ≡ m)) (AnswersRecord (made_at m moment) m reply new)
        → Ends w d m reply new ⊎ (Consumes w d moment m reply new ⊎ IsTooFull w d moment m reply new)
    by true e a = inl (record { end = at_end e; reply_is = a.0; same = a.1 })
    by false e a =
        let begun = sound.invariant.versions.begun d in
        let now = s.book.consumed in
        let most = s.sound.order.consumed in
        let apart : m.book.consumed ≢ m.volume.next_usn = grind (arith, nat_tests) in
        let (r, at) = next_record m.volume m.book.consumed s.sound.order.numbered (omega (arith, begun, now)) (omega (arith, most, apart)) in
        inr (record_answers w d moment m reply new (made_at m moment) bounded sound ours s keeps (made_is w d moment m r s at) a)
