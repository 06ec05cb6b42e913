-- A round that is finished at a member's machine is finished at the member.
use Rattle.std.proofs.Common.{◌≡◌, ◌<◌, ◌⊎◌, ℕ, Bool, true, false, not, cond, List, [], ◌∷◌, refl, sym, ap, ◌∙◌, subst, arith, inl, inr, MatchOption, Some, None}
use Rattle.std.specs.Prelude.{find}
use Rattle.frs_base.specs.Options.{In, some_is}
use Rattle.frs_base.specs.declared.kind.Phase.TheVariants.{Normal}
use Rattle.frs_base.specs.declared.version.Uid.{Uid}
use Rattle.version_vector.specs.Versions.{covers}
use Rattle.version_vector.specs.declared.interval.Interval.{Interval}
use Rattle.win_order.specs.Order.{key_lt, key_of}
use Rattle.win_order.specs.declared.update.Update.{Update}
use Rattle.vol_state.specs.Maps.{Stands}
use Rattle.record_db.specs.declared.command.BookCmd.TheVariants as cmd
use Rattle.record_db.specs.Records.{IsHeldOrBeaten, Versions, both}
use Rattle.record_db.specs.Standing.{StandsFor}
use Rattle.record_db.specs.Steps.{own_version}
use Rattle.record_db.proofs.Lists.{find_at}
use Rattle.record_db.proofs.Sets.{one_set}
use Rattle.record_db.proofs.Standing.{finishes_on}
use Rattle.name_rules.specs.Recorded.{held_of}
use Rattle.world_model.specs.World.{IsConsumed, World, IsRecordOf, with_member}
use Rattle.world_model.specs.Events.{Step, Finish, finished_by}
use Rattle.world_model.proofs.Changing.{at_same}
use Rattle.folder_core.specs.declared.refusal.Refusal.TheVariants.{Unheld, VectorFull}
use Rattle.folder_core.specs.declared.reply.Reply.{Reply}
use Rattle.folder_core.specs.declared.reply.Reply.TheVariants.{Finished, Refused}
use Rattle.folder_core.specs.Machine.{Machine, Refuses}
use Rattle.folder_core.specs.Books.{Changed, Takes}
use Rattle.folder_core.specs.Finish.{AnswersFinish, HasAhead, first_unheld, is_held_or_beaten}
use Rattle.folder_core.specs.Sound.{IsSound as IsSoundMachine}
use Rattle.script_engine.specs.Pulls.{MayFinish}
use Rattle.script_engine.specs.Sound.{IsSoundWorld}
use Rattle.script_engine.specs.Standing.{HoldsContents, MachineStands}
use Rattle.script_engine.specs.Widening.{Exceeds, Fits, IsVectorOf}
use Rattle.script_engine.proofs.Advancing.{Goes, beside_same}
use Rattle.script_engine.proofs.Journals.{recorded_kept}
use Rattle.script_engine.proofs.Passing.{passes_finish}
use Rattle.script_engine.proofs.Vectors.{vector_both}
use Rattle.script_engine.proofs.Widths.{covered_is, exceeds_by, fits_by}

-- the round is finished
pub record Finishes (w : World) (d : ℕ) (s : Versions) (m : Machine) (reply : Reply) (new : Machine) : Type 0 where
  pub fits : Fits (both (w.at d).known s)
  pub after : World
  pub step : Step w d (Finish s) after
  pub reply_is : reply ≡ Finished
  pub goes : Goes w d m new after
  pub keeps : (contents : Uid → List ℕ) → HoldsContents contents m → HoldsContents contents new
  pub volume : new.volume ≡ m.volume

-- the vector would have too many intervals
pub record IsTooWide (w : World) (d : ℕ) (s : Versions) (m : Machine) (reply : Reply) (new : Machine) : Type 0 where
  pub count : ℕ
  pub exceeds : Exceeds (both (w.at d).known s) count
  pub reply_is : reply ≡ Refused (VectorFull count)
  pub same : new ≡ m

-- ---- none of the refusals stands

none_ahead : (w : World) (d : ℕ) (s : Versions) (sent : List Interval) (seen : List Update) (m : Machine) (version : ℕ) → IsSoundWorld w → MachineStands w.all (w.at d) d m → MayFinish w d s sent seen → HasAhead m sent version → ⊥
none_ahead w d s sent seen m version sound stands may (past, has) =
    let (from, was) = may.was_sent in
    let known : s (own_version m.book version) ≡ true = sym (may.vector.covering (own_version m.book version)) ∙ has in
    let c : IsConsumed w (own_version m.book version) = sound.invariant.versions.sent _ (own_version m.book version) was known in
    let below : version < (w.at d).consumed = subst (λ n. version < (w.at n).consumed) stands.own c.1 in
    let now = stands.book.consumed in
    omega (arith, past, below, now)

find_none : {X : Type 0} (test : X → Bool) (xs : List X) → ((x : X) → In x xs → test x ≡ false) → find test xs ≡ None
find_none test [] h = refl
find_none test (x ∷ xs) h = let no = h x (inl refl) in ap (λ t. cond t (Some x) (find test xs)) no ∙ find_none test xs (λ y here. h y (inr here))

seen_held : (w : World) (d : ℕ) (m : Machine) (u : Update) → MachineStands w.all (w.at d) d m → IsHeldOrBeaten (IsRecordOf w d) u → is_held_or_beaten m.book.records u ≡ true
seen_held w d m u s (r, is, file, low) =
    let at : held_of m.book.records u.uid ≡ Some r = find_at m.book.records u.uid r s.book.records.rising (s.book.records.whole r is) file in
    ap (some_is (λ x. not (key_lt (key_of x) (key_of u)))) at ∙ (λ i. not (low i))

all_seen : (w : World) (d : ℕ) (m : Machine) (seen : List Update) → MachineStands w.all (w.at d) d m → ((u : Update) → In u seen → IsHeldOrBeaten (IsRecordOf w d) u) → first_unheld m.book.records seen ≡ None
all_seen w d m seen s held = find_none (λ u. not (is_held_or_beaten m.book.records u)) seen (λ u here. let yes = seen_held w d m u s (held u here) in λ i. not (yes i))

-- ---- the machine

-- the book of a member that finished a round
book_on : (w : World) (d : ℕ) (s : Versions) (sent : List Interval) (seen : List Update) (m new : Machine) → IsSoundWorld w → (stands : MachineStands w.all (w.at d) d m) → MayFinish w d s sent seen
    → Changed (cmd.Finish sent) m new → StandsFor w.all (both (w.at d).known s) (w.at d).consumed Normal stands.forms new.book
book_on w d s sent seen m new sound stands may changed =
    let x = w.at d in
    finishes_on w.all x.known s x.consumed x.phase stands.forms m.book new.book sent stands.book sound.invariant.versions.one_each may.vector.covering may.held changed.book

finished_stands : (w : World) (d : ℕ) (s : Versions) (sent : List Interval) (seen : List Update) (m new : Machine) → IsSoundWorld w → MachineStands w.all (w.at d) d m → IsSoundMachine new → MayFinish w d s sent seen
    → Changed (cmd.Finish sent) m new → MachineStands w.all (finished_by s (w.at d)) d new
finished_stands w d s sent seen m new sound stands keeps may changed =
    let x = w.at d in
    record {
      sound = keeps;
      own = changed.book.own ∙ stands.own;
      set = changed.book.set ∙ stands.set;
      kind = changed.book.kind ∙ stands.kind;
      forms = stands.forms;
      staged = stands.staged;
      book = book_on w d s sent seen m new sound stands may changed;
      volume = subst (λ v. Stands v x.volume) (sym changed.volume) stands.volume;
    }

widths : (w : World) (d : ℕ) (s : Versions) (sent : List Interval) (m : Machine) → MachineStands w.all (w.at d) d m → IsVectorOf s sent → both (covers m.book.vector) (covers sent) ≡ both (w.at d).known s
widths w d s sent m stands is =
    let theirs : covers sent ≡ s = one_set (covers sent) s is.covering in
    λ i. both (covered_is (w.at d).known m.book.vector stands.book.vector i) (theirs i)

takes : (w : World) (d : ℕ) (s : Versions) (sent : List Interval) (seen : List Update) (m : Machine) (reply : Reply) (new : Machine) → IsSoundWorld w → MachineStands w.all (w.at d) d m → IsSoundMachine new → MayFinish w d s sent seen
    → Takes (cmd.Finish sent) Finished m reply new → Finishes w d s m reply new ⊎ IsTooWide w d s m reply new
takes w d s sent seen m reply new sound stands keeps may (inl (said, changed)) =
    let after = with_member w d (finished_by s (w.at d)) in
    let passes = passes_finish w d s after sound (sent, may.vector) (may.was_sent, may.held, refl) in
    inl (record {
      fits = fits_by _ (both (w.at d).known s) new.book.vector (widths w d s sent m stands may.vector) changed.book.vector changed.within;
      after = after;
      step = (may.was_sent, may.held, refl);
      reply_is = said;
      goes = record {
        passes = passes;
        stands = subst (λ x. MachineStands w.all x d new) (sym (at_same w.at d (finished_by s (w.at d)))) (finished_stands w d s sent seen m new sound stands keeps may changed);
        beside = beside_same w after d refl passes;
        ours = λ h. h;
        counted = let same = changed.book.consumed in let kept = recorded_kept m new changed.volume (omega (arith, same)) in omega (arith, kept);
      };
      keeps = λ contents h uid form e. h uid form (stands.book.staged uid ∙ (sym ((book_on w d s sent seen m new sound stands may changed).staged uid) ∙ e));
      volume = changed.volume;
    })
takes w d s sent seen m reply new sound stands keeps may (inr (count, (full, (said, same)))) = inr (record {
  count = count;
  exceeds = exceeds_by _ (both (w.at d).known s) count (widths w d s sent m stands may.vector) (vector_both (w.at d).known s (sound.vectors d) (sent, may.vector)) full;
  reply_is = said;
  same = same;
})

-- a round that may be finished is, or its vector would have too many intervals
pub finishes_at : (w : World) (d : ℕ) (s : Versions) (sent : List Interval) (seen : List Update) (m : Machine) (reply : Reply) (new : Machine) → IsSoundWorld w → MachineStands w.all (w.at d) d m → IsSoundMachine new → MayFinish w d s sent seen
    → AnswersFinish sent seen m reply new → Finishes w d s m reply new ⊎ IsTooWide w d s m reply new
finishes_at w d s sent seen m reply new sound stands keeps may (inl (version, least, refused)) = absurd (none_ahead w d s sent seen m version sound stands may least.0)
finishes_at w d s sent seen m reply new sound stands keeps may (inr (none, answers)) =
    takes w d s sent seen m reply new sound stands keeps may
    (subst (λ found. MatchOption found (Takes (cmd.Finish sent) Finished m reply new) (λ u. Refuses (Unheld u.uid) m reply new)) (all_seen w d m seen stands may.pages) answers)
