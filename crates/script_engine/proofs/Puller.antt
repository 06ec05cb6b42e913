-- What the events of a pull do to the scene that an engine stands for.
use Rattle.std.proofs.Common.{◌≡◌, ◌≢◌, ◌<◌, ◌≤◌, ◌+◌, ◌-◌, ◌^◌, ◌⊎◌, ℕ, zero, suc, Bool, true, false, leb, List, [], ◌∷◌, length, set, refl, sym, ap, ◌∙◌, subst, arith, inl, inr, Option, Some, None, Result, Ok, Err, MatchOption, IsTrue, ◌↔◌}
use Rattle.std.specs.Prelude.{find, if◌then◌else◌, slice_get}
use Rattle.std.proofs.lemmas.List.{length-map}
use Rattle.std.proofs.lemmas.Bool.Decides.{nat_tests}
use Rattle.std.proofs.lemmas.Option.{slice_get_within}
use Rattle.frs_base.specs.Identifiers.{database_of}
use Rattle.frs_base.specs.Options.{In}
use Rattle.frs_base.specs.Versions.{same_uid}
use Rattle.frs_base.specs.declared.version.Uid.{Uid}
use Rattle.version_vector.specs.declared.interval.Interval.{Interval}
use Rattle.win_order.specs.Order.{Beats}
use Rattle.win_order.specs.declared.update.Update.{Update}
use Rattle.pinned_pages.specs.declared.answer.FileAnswer.{FileAnswer}
use Rattle.pinned_pages.specs.declared.answer.FileAnswer.TheVariants as answer
use Rattle.pinned_pages.specs.declared.pinned.Pinned.{Pinned}
use Rattle.record_db.specs.Records.{Covered, IsHeld, Versions}
use Rattle.record_db.specs.Staged.{with_uid}
use Rattle.record_db.proofs.Best.{one_held}
use Rattle.name_rules.specs.Tree.{is_file}
use Rattle.folder_core.specs.Serve.{form_at}
use Rattle.world_model.proofs.Changing.{at_other}
use Rattle.record_db.proofs.Lists.{found_held}
use Rattle.world_model.specs.World.{Member, World}
use Rattle.world_model.specs.Events.{IsOfFile, IsOfPage, sends_update, sends_vector}
use Rattle.world_model.specs.Rounds.{IsWanted}
use Rattle.folder_core.specs.declared.event.Event.TheVariants as event
use Rattle.folder_core.specs.declared.reply.Reply.{Reply}
use Rattle.folder_core.specs.Laws.{FilesHaveForms}
use Rattle.folder_core.specs.Machine.{Machine}
use Rattle.folder_core.specs.Replay.{Seen}
use Rattle.script_engine.specs.declared.engine.Engine.{Engine}
use Rattle.script_engine.specs.declared.refusal.Refusal.{Refusal}
use Rattle.script_engine.specs.declared.refusal.Refusal.TheVariants.{VectorFull}
use Rattle.script_engine.specs.Engines.{Answered, Stands, local_by_all, machines_of}
use Rattle.script_engine.specs.Pulls.{CanTake, Ended, FetchedFrom, HasForm, IsFormOfGiven, IsPinned, MayFinish, Says, Took, after_taking}
use Rattle.script_engine.specs.Pulling.{Gives}
use Rattle.script_engine.specs.Replies.{file_of, pinned_of, taken_of}
use Rattle.script_engine.specs.declared.names.MemberName.{MemberName}
use Rattle.script_engine.specs.Scene.{Contents, Scene, in_world, numbered, with_contents}
use Rattle.script_engine.specs.Standing.{HaveRoom, MachineStands, MachinesStand}
use Rattle.script_engine.proofs.Adopting.{Adopts, IsOurs, IsTooWide as IsTooWideFor, adopts_at}
use Rattle.script_engine.proofs.Events.{few_recorded, local_after, stands_on, stands_still, stands_with}
use Rattle.script_engine.proofs.Finishing.{Finishes, IsTooWide as IsTooWideIn, finishes_at}
use Rattle.script_engine.proofs.Journals.{local_same}
use Rattle.script_engine.proofs.Pairs.{get_within}
use Rattle.script_engine.proofs.Spoken.{machine_held}
use Rattle.script_engine.proofs.Gives.{scene_kept}
use Rattle.script_engine.proofs.Serving.{IsBodyOf, Sends, Waits, body_given, files_at, sent_update_stands, sent_vector_stands}

-- ---- bounds

-- the place of a database among those of k members, or that it is none of them
place_or_none : (d k : ℕ) → ((j : ℕ) × (j < k) × (d ≡ database_of (j + 1))) ⊎ ((j : ℕ) → j < k → d ≢ database_of (j + 1))
place_or_none d k = by (leb (database_of 1) d) refl (leb d (database_of k)) refl
  where
    by : (a : Bool) → leb (database_of 1) d ≡ a → (b : Bool) → leb d (database_of k) ≡ b → ((j : ℕ) × (j < k) × (d ≡ database_of (j + 1))) ⊎ ((j : ℕ) → j < k → d ≢ database_of (j + 1))
    by true e true f =
        let low : database_of 1 ≤ d = grind (arith, nat_tests) in
        let high : d ≤ database_of k = grind (arith, nat_tests) in
        inl (d - database_of 1, omega (arith, low, high), omega (arith, low, high))
    by false e b f = inr (λ j l same. let high : d < database_of 1 = grind (arith, nat_tests) in omega (arith, high, same))
    by true e false f = inr (λ j l same. let high : database_of k < d = grind (arith, nat_tests) in omega (arith, high, l, same))

-- every member's numbers have 64 bits, also those of no member
pub small_consumed : (machines : List Machine) (s : Scene) (d : ℕ) → MachinesStand machines s → (s.world.at d).consumed < 2 ^ 64
small_consumed machines s d h = by (place_or_none d (length s.names))
  where
    by : ((j : ℕ) × (j < length s.names) × (d ≡ database_of (j + 1))) ⊎ ((j : ℕ) → j < length s.names → d ≢ database_of (j + 1)) → (s.world.at d).consumed < 2 ^ 64
    by (inl (j, within, is)) =
        let many = h.many in
        let (m, at) = get_within machines j (omega (arith, within, many)) in
        let now = (h.each j m at).book.consumed in
        let most = (h.each j m at).sound.order.consumed in
        let usns = h.usns j m at in
        subst (λ i. (s.world.at i).consumed < 2 ^ 64) (sym is) (omega (arith, now, most, usns))
    by (inr nobody) =
        let (kind, is) = h.scene.unnamed d nobody in
        let same : (s.world.at d).consumed ≡ 9 = ap (λ (x : Member). x.consumed) is in omega (arith, same)

-- ---- a vector

pub record Asks (at : ℕ) (reply : Reply) (old new : Engine) (s : Scene) : Type 0 where
  pub pinned : Pinned
  pub reads : pinned_of reply ≡ Some pinned
  pub is : IsPinned s.world (database_of (at + 1)) pinned
  pub stands : Stands new (in_world s (sends_vector s.world (database_of (at + 1))))
  pub made : local_by_all new ≡ local_by_all old

-- a place of a machine is one of a name
within_names : (e : Engine) (s : Scene) (at : ℕ) (m : Machine) → Stands e s → slice_get (machines_of e) at ≡ Some m → at < length s.names
within_names e s at m h found = let within = slice_get_within (machines_of e) at m found in let many = h.machines.many in omega (arith, within, many)

-- where the volume stays, as many records are local
same_made : (old new : Engine) (at : ℕ) (m next : Machine) → slice_get (machines_of old) at ≡ Some m → machines_of new ≡ set (machines_of old) at next → next.volume ≡ m.volume → local_by_all new ≡ local_by_all old
same_made old new at m next found machines same = let sums = local_after old new at m next found machines in let local = local_same m next same in omega (arith, sums, local)

pub asked_on : (at : ℕ) (reply : Reply) (old new : Engine) (s : Scene) → Stands old s → new.names ≡ old.names → Answered at event.Vector reply old new → Asks at reply old new s
asked_on at reply old new s h names a =
    let d = database_of (at + 1) in
    let m = h.machines.each at a.before a.found in
    let still = stands_still old new s at a.before a.after h names a.found a.machines a.answers.1 in
    record {
      pinned = record { vector = a.before.book.vector; records = a.before.book.records; at = a.place };
      reads = ap pinned_of a.answers.0;
      is = record { vector = record { canonical = m.book.vector.canonical; covering = m.book.vector.covering }; records = m.book.records };
      stands = record { names = still.names; formed = still.formed; machines = sent_vector_stands (machines_of new) s at d still.machines (within_names old s at a.before h a.found) };
      made = same_made old new at a.before a.after a.found a.machines (ap (λ (x : Machine). x.volume) a.answers.1);
    }

-- ---- what is wanted

pub wants_none : (w : World) (d : ℕ) (m : Machine) (u : Update) → MachineStands w.all (w.at d) d m → find (λ r. same_uid r.uid u.uid) m.book.records ≡ None → IsWanted w d u
wants_none w d m u s e = (None, subst (IsHeld (Covered w.all (w.at d).known) u.uid) e (found_held w.all (w.at d).known m.book.records u.uid s.book.records), tt)

pub wants_some : (w : World) (d : ℕ) (m : Machine) (u r : Update) → MachineStands w.all (w.at d) d m → find (λ r. same_uid r.uid u.uid) m.book.records ≡ Some r → Beats u r → IsWanted w d u
wants_some w d m u r s e b = (Some r, subst (IsHeld (Covered w.all (w.at d).known) u.uid) e (found_held w.all (w.at d).known m.book.records u.uid s.book.records), b)

pub wants_not : (e : Engine) (s : Scene) (d : ℕ) (m : Machine) (u r : Update) → Stands e s → MachineStands s.world.all (s.world.at d) d m → find (λ r. same_uid r.uid u.uid) m.book.records ≡ Some r → (Beats u r → ⊥) → IsWanted s.world d u → ⊥
wants_not e s d m u r h stands found never (held, is_held, better) =
    let w = s.world in
    let same : held ≡ Some r = one_held (Covered w.all (w.at d).known) u.uid held (Some r) (λ a b p q g. h.machines.scene.world.invariant.versions.one_each a b p.0 q.0 g) is_held
    (subst (IsHeld (Covered w.all (w.at d).known) u.uid) found (found_held w.all (w.at d).known m.book.records u.uid stands.book.records)) in
    never (subst (λ h. MatchOption h (Unit {0}) (λ x. Beats u x)) same better)

-- ---- an adoption

-- what is given to one member leaves the others as they were
contents_beside : (contents : Contents) (d : ℕ) (uid : Uid) (given : Option (List ℕ)) (j : ℕ) → j ≢ d → with_contents contents d uid given j ≡ contents j
contents_beside contents d uid None j n = refl
contents_beside contents d uid (Some bytes) j n = at_other contents d (with_uid (contents d) uid bytes) j n

pub record AdoptsAt (at server : ℕ) (u : Update) (form : Option (List ℕ)) (reply : Reply) (old new : Engine) (s : Scene) : Type 0 where
  pub outcome : Result (Unit {0}) Refusal
  pub reads : taken_of reply ≡ Some outcome
  pub after : World
  pub took : Took s.world (database_of (at + 1)) server u outcome after
  pub stands : (given : Option (List ℕ)) → IsFormOfGiven given form → Stands new (after_taking s (database_of (at + 1)) u given outcome after)
  pub made : local_by_all new ≡ local_by_all old

-- an update that may be sent was recorded
sent_is_there : (w : World) (server : ℕ) (u : Update) → IsOfPage w server u ⊎ IsOfFile w server u → In u w.all
sent_is_there w server u (inl (versions, sent, wins)) = wins.among.0
sent_is_there w server u (inr (wins, quiet)) = wins.among.0

is_ours : (machines : List Machine) (s : Scene) (server : ℕ) (u : Update) → MachinesStand machines s → HaveRoom machines → IsOfPage s.world server u ⊎ IsOfFile s.world server u → IsOurs (sends_update s.world server u) u
is_ours machines s server u h room sent =
    let here = sent_is_there s.world server u sent in
    let ours = h.ours u here in
    let below = (h.scene.world.invariant.versions.recorded u here).1 in
    let small = small_consumed machines s u.gvsn.db h in
    record { here = here; set = ours.0; flags = ours.1; few = few_recorded machines s h room; low = omega (arith, below, small) }

pub adopted_on : (at server entry : ℕ) (form : Option (List ℕ)) (u : Update) (reply : Reply) (old new : Engine) (s : Scene) → local_by_all old < 2 ^ 60 → Stands old s → new.names ≡ old.names
    → Answered at (event.Adopt server entry u form) reply old new → HasForm u form → CanTake s.world (database_of (at + 1)) server u → AdoptsAt at server u form reply old new s
adopted_on at server entry form u reply old new s room h names a has can =
    by (adopts_at (sends_update s.world server u) (database_of (at + 1)) u form has a.before reply a.after there.scene.world (there.each at a.before a.found) a.sound (is_ours (machines_of old) s server u h.machines room can.sent) (server, inl refl) can.wanted a.answers)
  where
    there : MachinesStand (machines_of old) (in_world s (sends_update s.world server u))
    there = sent_update_stands (machines_of old) s at server u h.machines (within_names old s at a.before h a.found) (can.sent, refl)

    by : Adopts (sends_update s.world server u) (database_of (at + 1)) u form a.before reply a.after ⊎ IsTooWideFor (sends_update s.world server u) (database_of (at + 1)) u a.before reply a.after → AdoptsAt at server u form reply old new s
    by (inl x) = record {
      outcome = Ok tt;
      reads = ap taken_of x.reply_is;
      after = x.after;
      took = (x.fits, sends_update s.world server u, (can.sent, refl), x.step);
      stands = λ given is. stands_with old new (in_world s (sends_update s.world server u)) at a.before a.after x.after (with_contents s.contents (database_of (at + 1)) u.uid given) (record { names = h.names; formed = h.formed; machines = there }) names a.found a.machines x.goes
          (λ j n. contents_beside s.contents (database_of (at + 1)) u.uid given j n) (x.holds s.contents given is (h.machines.contents at a.before a.found)) a.usns;
      made = same_made old new at a.before a.after a.found a.machines x.volume;
    }
    by (inr x) = record {
      outcome = Err (VectorFull x.count);
      reads = ap taken_of x.reply_is;
      after = s.world;
      took = (x.count, (can.wanted, x.exceeds), refl, refl);
      stands = λ given is. stands_still old new s at a.before a.after h names a.found a.machines x.same;
      made = same_made old new at a.before a.after a.found a.machines (ap (λ (y : Machine). y.volume) x.same);
    }

-- ---- a file

-- what an answer says
abbrev pub Answers : Scene → ℕ → Update → FileAnswer → Type 0
Answers s d u (answer.Found at v body) = (v.uid ≡ u.uid) × IsOfFile s.world d v × IsBodyOf v body × ((given : Option (List ℕ)) × Gives s d v given × IsFormOfGiven given body)
Answers s d u (answer.NotYet usn) = FetchedFrom s d u.uid (Err usn)
Answers s d u answer.NoRecord = ⊥

-- a form whose length has 64 bits is one of a local file
pub has_form : (u : Update) (body given : Option (List ℕ)) → IsBodyOf u body → MatchOption body (Unit {0}) (λ form. length form < 2 ^ 64) → given ≡ body → HasForm u given
has_form u body given h short same file =
    let (form, is, sum, local) = h file in
    let (contents, of) = local (subst (λ b. MatchOption b (Unit {0}) (λ f. length f < 2 ^ 64)) is short) in
    (form, contents, same ∙ is, sum, of)

pub record FetchesAt (at : ℕ) (u : Update) (reply : Reply) (old new : Engine) (s : Scene) : Type 0 where
  pub outcome : FileAnswer
  pub reads : file_of reply ≡ Some outcome
  pub answers : Answers s (database_of (at + 1)) u outcome
  pub stands : Stands new s
  pub made : local_by_all new ≡ local_by_all old

pub fetched_on : FilesHaveForms → (at : ℕ) (u : Update) (reply : Reply) (old new : Engine) (s : Scene) → Stands old s → new.names ≡ old.names → Answered at (event.File u.uid) reply old new
    → Covered s.world.all (s.world.at (database_of (at + 1))).known u → FetchesAt at u reply old new s
fetched_on forms at u reply old new s h names a covered =
    let (came, same) = files_at forms s.world (database_of (at + 1)) u a.place a.before reply a.after (h.machines.each at a.before a.found) covered a.answers in
    by came same
  where
    by : Waits s.world (database_of (at + 1)) u.uid reply ⊎ Sends s.world (database_of (at + 1)) a.before u.uid a.place reply → a.after ≡ a.before → FetchesAt at u reply old new s
    by (inl x) same = record {
      outcome = answer.NotYet x.usn;
      reads = ap file_of x.reply_is;
      answers = x.last;
      stands = stands_still old new s at a.before a.after h names a.found a.machines same;
      made = same_made old new at a.before a.after a.found a.machines (ap (λ (y : Machine). y.volume) same);
    }
    by (inr x) same = record {
      outcome = answer.Found a.place x.update x.body;
      reads = ap file_of x.reply_is;
      answers = (x.file, x.of_file, x.form, body_given s (database_of (at + 1)) a.before x.update x.body (scene_kept s h.machines.scene) (h.machines.each at a.before a.found) (h.machines.contents at a.before a.found) x.of_file (x.body_is ∙ ap (λ uid. if is_file x.update then form_at a.before uid else None) (sym x.file)));
      stands = stands_still old new s at a.before a.after h names a.found a.machines same;
      made = same_made old new at a.before a.after a.found a.machines (ap (λ (y : Machine). y.volume) same);
    }

-- ---- the end

pub record FinishesAt (at : ℕ) (versions : Versions) (reply : Reply) (old new : Engine) (s : Scene) : Type 0 where
  pub outcome : Result (Unit {0}) Refusal
  pub reads : taken_of reply ≡ Some outcome
  pub after : World
  pub ended : Ended s.world (database_of (at + 1)) versions outcome after
  pub stands : Stands new (in_world s after)
  pub made : local_by_all new ≡ local_by_all old

pub finished_on : (at server entry : ℕ) (versions : Versions) (sent : List Interval) (seen : List Update) (reply : Reply) (old new : Engine) (s : Scene) → Stands old s → new.names ≡ old.names
    → Answered at (event.Finish server entry sent seen) reply old new → MayFinish s.world (database_of (at + 1)) versions sent seen → FinishesAt at versions reply old new s
finished_on at server entry versions sent seen reply old new s h names a may =
    by (finishes_at s.world (database_of (at + 1)) versions sent seen a.before reply a.after h.machines.scene.world (h.machines.each at a.before a.found) a.sound may a.answers)
  where
    by : Finishes s.world (database_of (at + 1)) versions a.before reply a.after ⊎ IsTooWideIn s.world (database_of (at + 1)) versions a.before reply a.after → FinishesAt at versions reply old new s
    by (inl x) = record {
      outcome = Ok tt;
      reads = ap taken_of x.reply_is;
      after = x.after;
      ended = inl (x.fits, x.step, refl);
      stands = stands_on old new s at a.before a.after x.after h names a.found a.machines x.goes x.keeps a.usns;
      made = same_made old new at a.before a.after a.found a.machines x.volume;
    }
    by (inr x) = record {
      outcome = Err (VectorFull x.count);
      reads = ap taken_of x.reply_is;
      after = s.world;
      ended = inr (x.count, x.exceeds, refl, refl);
      stands = stands_still old new s at a.before a.after h names a.found a.machines x.same;
      made = same_made old new at a.before a.after a.found a.machines (ap (λ (y : Machine). y.volume) x.same);
    }

-- ---- what a call says of them

pub wants_said : (e : Engine) (s : Scene) (at : ℕ) (f : Seen) (u r : Update) (answer : Bool) → Stands e s → slice_get e.folders.items at ≡ Some f → find (λ r. same_uid r.uid u.uid) f.machine.book.records ≡ Some r
    → IsTrue answer ↔ Beats u r → Says answer (IsWanted s.world (database_of (at + 1)) u)
wants_said e s at f u r true h found is tells = inl (refl, wants_some s.world (database_of (at + 1)) f.machine u r (machine_held e s at f h found) is (tells.0 refl))
wants_said e s at f u r false h found is tells =
    inr (refl, wants_not e s (database_of (at + 1)) f.machine u r h (machine_held e s at f h found) is (λ b. let t = tells.1 b in absurd (cc)))

-- the database of the member at a place
numbered_at : (k at : ℕ) (names : List (List ℕ)) (m : MemberName) → slice_get (numbered k names) at ≡ Some m → m.db ≡ database_of (k + at)
numbered_at k at [] m e = absurd (cc)
numbered_at k zero (n ∷ names) m e = let same : m.db ≡ database_of k = cc in let zero_more : database_of k ≡ database_of (k + 0) = omega arith in same ∙ zero_more
numbered_at k (suc at) (n ∷ names) m e = let rest = numbered_at (k + 1) at names m e in let next : database_of ((k + 1) + at) ≡ database_of (k + suc at) = omega arith in rest ∙ next

pub database_at : (e : Engine) (s : Scene) (at : ℕ) (m : MemberName) → Stands e s → slice_get e.names.items at ≡ Some m → m.db ≡ database_of (at + 1)
database_at e s at m h found =
    let here = numbered_at 1 at s.names m (sym (ap (λ l. slice_get l at) h.names) ∙ found) in
    let next : database_of (1 + at) ≡ database_of (at + 1) = omega arith in here ∙ next

numbered_long : (k : ℕ) (names : List (List ℕ)) → length (numbered k names) ≡ length names
numbered_long k [] = refl
numbered_long k (n ∷ names) = ap suc (numbered_long (k + 1) names)

pub name_there : (e : Engine) (s : Scene) (at : ℕ) → Stands e s → at < length e.folders.items → at < length e.names.items
name_there e s at h within =
    let many = h.machines.many in
    let same = length-map e.folders.items (λ (f : Seen). f.machine) in
    let long = numbered_long 1 s.names in
    let names = ap length h.names in
    omega (arith, within, many, same, long, names)

-- what an answer says holds
pub said_yes : (b : Bool) (P : Type 0) → Says b P → b ≡ true → P
said_yes b P (inl (t, p)) e = p
said_yes b P (inr (f, n)) e = absurd (cc)

pub said_no : (b : Bool) (P : Type 0) → Says b P → b ≡ false → P → ⊥
said_no b P (inl (t, p)) e = absurd (cc)
said_no b P (inr (f, n)) e = n
