-- Histories that grow.
use Rattle.std.proofs.Common.{◌≡◌, ◌≢◌, ◌≤◌, ◌+◌, ℕ, Bool, true, false, List, [], ◌∷◌, ◌++◌, length, Option, Some, None, Result, Ok, Err, refl, sym, ap, ◌∙◌, subst, inl, inr, arith, length-append}
use Rattle.std.specs.Prelude.{if◌then◌else◌, MatchBool, MatchOption, MatchResult}
use Rattle.win_order.specs.declared.update.Update.{Update}
use Rattle.vol_state.specs.declared.command.VolCmd.{VolCmd}
use Rattle.vol_state.specs.declared.operation.Refused.{Refused}
use Rattle.vol_state.specs.Effects.{effect}
use Rattle.vol_state.specs.Paths.{resolve}
use Rattle.record_db.specs.declared.command.BookCmd.{BookCmd}
use Rattle.record_db.specs.declared.command.BookCmd.TheVariants as cmd
use Rattle.name_rules.specs.declared.step.Next.{Next}
use Rattle.name_rules.specs.declared.step.Next.TheVariants as next
use Rattle.name_rules.specs.declared.step.Step.{Step}
use Rattle.name_rules.specs.declared.step.Step.TheVariants as step
use Rattle.folder_core.specs.declared.answer.Answer.{Answer}
use Rattle.folder_core.specs.declared.entry.Entry.{Entry}
use Rattle.folder_core.specs.declared.mark.Mark.{Mark}
use Rattle.folder_core.specs.declared.note.Note.{Note}
use Rattle.folder_core.specs.declared.event.Event.{Event}
use Rattle.folder_core.specs.declared.event.Event.TheVariants as event
use Rattle.folder_core.specs.declared.refusal.Refusal.{Refusal}
use Rattle.folder_core.specs.declared.refusal.Refusal.TheVariants as why
use Rattle.folder_core.specs.declared.reply.Reply.{Reply}
use Rattle.folder_core.specs.declared.reply.Reply.TheVariants as reply
use Rattle.folder_core.specs.Machine.{Machine, Refuses, fresh_machine}
use Rattle.folder_core.specs.Notes.{mark_of, note_of}
use Rattle.folder_core.specs.Books.{Changed, Takes}
use Rattle.folder_core.specs.Local.{Operates}
use Rattle.folder_core.specs.Consume.{AnswersRecord, is_at_end, made_at}
use Rattle.folder_core.specs.Adopt.{AnswersForm, adopt_refusal}
use Rattle.folder_core.specs.Finish.{first_unheld}
use Rattle.folder_core.specs.Install.{AnswersNext, Installs}
use Rattle.folder_core.specs.Answers.{Answers}
use Rattle.folder_core.specs.Given.{IsNoted}
use Rattle.folder_core.specs.Replay.{AreEarly, Does, Enters, IsEarly, IsFolder, IsGeneration, Leads, Replays, Seen, Stand, stand_of}
use Rattle.folder_core.proofs.Volumes.{one_usn}

-- ---- what no event changes

-- kind, database and content set stay, and one USN is taken at most
pub record Keeps (old new : Machine) : Type 0 where
  pub kind : new.book.kind ≡ old.book.kind
  pub own : new.book.own ≡ old.book.own
  pub set : new.book.set ≡ old.book.set
  pub usn : new.volume.next_usn ≤ old.volume.next_usn + 1

same_keeps : (old new : Machine) → new ≡ old → Keeps old new
same_keeps old new same = subst (λ m. Keeps old m) (sym same) (record { kind = refl; own = refl; set = refl; usn = omega arith })

changed_keeps : (op : BookCmd) (old new : Machine) → Changed op old new → Keeps old new
changed_keeps op old new c = record {
  kind = c.book.kind;
  own = c.book.own;
  set = c.book.set;
  usn = let same = ap (λ v. v.next_usn) c.volume in omega (arith, same);
}

takes_keep : (op : BookCmd) (done said : Reply) (old new : Machine) → Takes op done old said new → Keeps old new
takes_keep op done said old new (inl (is, c)) = changed_keeps op old new c
takes_keep op done said old new (inr (count, full)) = same_keeps old new full.1.1

effect_keeps : (old new : Machine) (op : VolCmd) → new ≡ record old { volume = effect op old.volume } → Keeps old new
effect_keeps old new op same = record {
  kind = ap (λ (m : Machine). m.book.kind) same;
  own = ap (λ (m : Machine). m.book.own) same;
  set = ap (λ (m : Machine). m.book.set) same;
  usn = let next = ap (λ (m : Machine). m.volume.next_usn) same in let one = one_usn op old.volume in omega (arith, next, one);
}

local_keeps : (old new : Machine) (said : Reply) (r : Result VolCmd Refused) → MatchResult r (λ cmd. Operates cmd old said new) (λ w. Refuses (why.Local w) old said new) → Keeps old new
local_keeps old new said (Ok cmd) (is, same) = effect_keeps old new cmd same
local_keeps old new said (Err w) (is, same) = same_keeps old new same

made_keeps : (u : Update) (old new : Machine) (said : Reply) (b : Bool) (cmd : BookCmd) (done : Reply) (w : Refusal) → MatchBool b (Refuses w old said new) (Takes cmd done old said new) → Keeps old new
made_keeps u old new said true cmd done w h = same_keeps old new h.1
made_keeps u old new said false cmd done w h = takes_keep cmd done said old new h

record_keeps : (old new : Machine) (said : Reply) (made : Option Update) → AnswersRecord made old said new → Keeps old new
record_keeps old new said None h = takes_keep _ _ said old new h
record_keeps old new said (Some u) h = made_keeps u old new said _ _ _ _ h

consume_keeps : (old new : Machine) (said : Reply) (made : Option Update) (b : Bool) → MatchBool b ((said ≡ reply.Nothing) × (new ≡ old)) (AnswersRecord made old said new) → Keeps old new
consume_keeps old new said made true h = same_keeps old new h.1
consume_keeps old new said made false h = record_keeps old new said made h

choice_keeps : {T : Type 0} (old new : Machine) (said : Reply) (x : Option T) (cmd : BookCmd) (done : Reply) (w : T → Refusal)
    → MatchOption x (Takes cmd done old said new) (λ y. Refuses (w y) old said new) → Keeps old new
choice_keeps old new said None cmd done w h = takes_keep cmd done said old new h
choice_keeps old new said (Some y) cmd done w h = same_keeps old new h.1

form_keeps : (old new : Machine) (said : Reply) (u : Update) (staged : Result (Option (List ℕ)) Refusal)
    → MatchResult staged (λ given. Takes (cmd.Adopt u given) reply.Adopted old said new) (λ w. Refuses w old said new) → Keeps old new
form_keeps old new said u (Ok given) h = takes_keep _ _ said old new h
form_keeps old new said u (Err w) h = same_keeps old new h.1

adopt_keeps : (old new : Machine) (said : Reply) (u : Update) (form : Option (List ℕ)) (x : Option Refusal) → MatchOption x (AnswersForm u form old said new) (λ w. Refuses w old said new) → Keeps old new
adopt_keeps old new said u form None (staged, stages, h) = form_keeps old new said u staged h
adopt_keeps old new said u form (Some w) h = same_keeps old new h.1

installs_keep : (s : Step) (old new : Machine) (said : Reply) → Installs s old said new → Keeps old new
installs_keep s old new said (op, is, did, same) = effect_keeps old new op same

-- so does a step of the installer
next_keeps : (n : Next) (old new : Machine) (said : Reply) → AnswersNext n old said new → Keeps old new
next_keeps (next.Do (step.Park uid)) old new said h = installs_keep _ old new said h
next_keeps (next.Do (step.Erase uid)) old new said h = installs_keep _ old new said h
next_keeps (next.Do (step.Make uid)) old new said h = installs_keep _ old new said h
next_keeps (next.Do (step.Rewrite uid)) old new said h = installs_keep _ old new said h
next_keeps (next.Do (step.Place uid)) old new said h = installs_keep _ old new said h
next_keeps (next.Do (step.Unstage uid)) old new said h = changed_keeps _ old new h.1
next_keeps (next.Do (step.Skip usn)) old new said h = takes_keep _ _ said old new h
next_keeps next.Drained old new said h = same_keeps old new h.1
next_keeps (next.NotYet usn) old new said h = same_keeps old new h.1

-- so does every event
pub answers_keep : (at : ℕ) (old new : Machine) (e : Event) (said : Reply) → Answers at old e said new → Keeps old new
answers_keep at old new (event.Local operation) said h = local_keeps old new said (resolve old.volume.objects operation) h
answers_keep at old new (event.Consume moment) said h = consume_keeps old new said (made_at old moment) (is_at_end old) h
answers_keep at old new event.Vector said h = same_keeps old new h.1
answers_keep at old new (event.File uid) said h = same_keeps old new h.1
answers_keep at old new (event.Adopt from place u form) said h = adopt_keeps old new said u form (adopt_refusal old u) h
answers_keep at old new (event.Finish from place sent seen) said (inl (version, least, refuses)) = same_keeps old new refuses.1
answers_keep at old new (event.Finish from place sent seen) said (inr (none, h)) = choice_keeps old new said (first_unheld old.book.records seen) _ _ (λ u. why.Unheld u.uid) h
answers_keep at old new event.Install said (n, is, h) = next_keeps n old new said h

-- ---- one entry more

pub replays_more : (at : ℕ) (old mid new : Stand) (entries : List Entry) (entry : Entry) → Replays at old entries mid → Leads (at + length entries) entry mid new → Replays at old (entries ++ entry ∷ []) new
replays_more at old mid new [] entry same last = (new, subst (λ s. Leads at entry s new) same (subst (λ n. Leads n entry mid new) (omega arith) last), refl)
replays_more at old mid new (e ∷ es) entry (next, first, rest) last =
    (next, first, replays_more (at + 1) next mid new es entry rest (subst (λ n. Leads n entry mid new) (omega arith) last))

early_more : (entries : List Entry) (entry : Entry) → AreEarly entries → IsEarly entry.note → AreEarly (entries ++ entry ∷ [])
early_more [] entry all early = (early, tt)
early_more (e ∷ es) entry all early = (all.0, early_more es entry all.1 early)

-- where a folder began
abbrev pub begins_of : Seen → Stand
begins_of f = record { machine = fresh_machine f.machine.book.kind f.machine.book.own f.machine.book.set; generation = 0 }

-- a folder goes on, whatever comes
pub does_keep : (caller : ℕ) (e : Event) (said : Reply) (old new : Seen) → IsFolder old → IsEarly (note_of e) → Does caller e said old new → IsFolder new
does_keep caller e said old new h early (entry, more, enters) = record {
  replay = subst (λ l. Replays 1 (begins_of new) l (stand_of new)) (sym more)
      (subst (λ s. Replays 1 s (old.history ++ entry ∷ []) (stand_of new)) start
      (replays_more 1 (begins_of old) (stand_of old) (stand_of new) old.history entry h.replay (
        e,
        said,
        subst (λ n. Enters n entry.caller e said entry (stand_of old) (stand_of new)) (omega arith)
            (subst (λ n. Enters (length old.history + 1) n e said entry (stand_of old) (stand_of new)) (sym (ap (λ x. x.caller) enters.is)) enters),
      )));
  early = subst AreEarly (sym more) (early_more old.history entry h.early (subst (λ x. IsEarly x.note) (sym enters.is) early));
  usns =
      let usn = keeps.usn in
      let count = ap length more ∙ length-append old.history (entry ∷ []) in
      let before = h.usns in
      omega (arith, usn, count, before);
}
  where
    keeps : Keeps old.machine new.machine
    keeps = answers_keep (length old.history + 1) old.machine new.machine e said enters.answers

    start : begins_of old ≡ begins_of new
    start = λ i. record { machine = fresh_machine (sym keeps.kind i) (sym keeps.own i) (sym keeps.set i); generation = 0 }

-- ---- what one event makes of a folder

generation_is : (moved : Bool) (at before : ℕ) (old new : Machine) → (moved ≡ false → new.book.vector ≡ old.book.vector) → (moved ≡ true → new.book.vector ≢ old.book.vector)
    → IsGeneration at (record { machine = old; generation = before }) (record { machine = new; generation = if moved then at else before })
generation_is true at before old new stays moves = record { stays = λ same. absurd (moves refl same); moves = λ differ. refl }
generation_is false at before old new stays moves = record { stays = λ same. refl; moves = λ differ. absurd (differ (stays refl)) }

-- an answer that was given, its entry and the generation are what the event makes
pub does_of : (caller at : ℕ) (e : Event) (said : Reply) (noted : Note) (marked : Mark) (moved : Bool) (given : Answer) (old new : Seen)
    → at ≡ length old.history + 1
    → new.history ≡ old.history ++ record { caller = caller; note = noted; reply = marked } ∷ []
    → new.generation ≡ (if moved then at else old.generation)
    → noted ≡ note_of e
    → given ≡ record { reply = said; mark = marked; moved = moved }
    → Answers at old.machine e given.reply new.machine → IsNoted given old.machine new.machine
    → Does caller e said old new
does_of caller at e said noted marked moved given old new place more generation note is answers h =
    let said_is = ap (λ (a : Answer). a.reply) is in
    let marked_is = ap (λ (a : Answer). a.mark) is in
    let moved_is = ap (λ (a : Answer). a.moved) is in
    let mark : marked ≡ mark_of said = sym marked_is ∙ (h.mark ∙ ap (λ r. mark_of r) said_is) in
    let answered : Answers at old.machine e said new.machine = subst (λ r. Answers at old.machine e r new.machine) said_is answers in
    let turned : IsGeneration at (stand_of old) (stand_of new) =
    subst (λ n. IsGeneration at (stand_of old) (record { machine = new.machine; generation = n })) (sym generation)
    (generation_is moved at old.generation old.machine new.machine (λ m. h.stays (moved_is ∙ m)) (λ m. h.moves (moved_is ∙ m))) in
    let entry : Entry = record { caller = caller; note = noted; reply = marked } in (
      entry,
      more,
      record {
        answers = subst (λ n. Answers n old.machine e said new.machine) place answered;
        is = (λ i. record { caller = caller; note = note i; reply = mark i });
        generation = subst (λ n. IsGeneration n (stand_of old) (stand_of new)) place turned;
      },
    )
