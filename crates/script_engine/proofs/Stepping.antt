-- A step of the installer at a member's machine is one at the member.
use Rattle.std.proofs.Common.{◌≡◌, ℕ, Bool, true, false, cond, List, refl, sym, ap, ◌∙◌, subst, arith, inl, inr, Option, Some, None, Result, Ok, Err}
use Rattle.std.specs.Prelude.{drop, option_map}
use Rattle.frs_base.specs.Options.{In}
use Rattle.frs_base.specs.Versions.{same_uid}
use Rattle.frs_base.specs.declared.sum.Sum.{Sum}
use Rattle.frs_base.specs.declared.version.Uid.{Uid}
use Rattle.marshal_form.specs.Local.{local}
use Rattle.marshal_form.specs.Spelling.{spelling}
use Rattle.win_order.specs.declared.update.Update.{Update}
use Rattle.vol_state.specs.declared.command.VolCmd.{VolCmd}
use Rattle.vol_state.specs.declared.object.Object.{Object}
use Rattle.vol_state.specs.Effects.{effect, uid_at, uid_found}
use Rattle.vol_state.specs.Maps.{Maps, Stands, maps_of, write}
use Rattle.vol_state.specs.State.{uid_of}
use Rattle.vol_state.specs.Tables.{IsAt, IsReplica}
use Rattle.vol_state.proofs.Standing.{stands_on}
use Rattle.vol_state.proofs.Tabling.{tables_are_tests}
use Rattle.record_db.specs.declared.command.BookCmd.TheVariants as book
use Rattle.record_db.specs.Staged.{with_uid}
use Rattle.record_db.specs.Standing.{StandsFor}
use Rattle.record_db.specs.State.{form_of}
use Rattle.record_db.proofs.Standing.{unstages_on}
use Rattle.name_rules.specs.Next.{IsAnswer, IsCandidate, IsDrained, IsInPlace, IsStepOf}
use Rattle.name_rules.specs.declared.step.Next.{Next}
use Rattle.name_rules.specs.declared.step.Next.TheVariants as next
use Rattle.name_rules.specs.declared.step.Step.{Step as InstallStep}
use Rattle.name_rules.specs.declared.step.Step.TheVariants.{Erase, Make, Park, Place, Rewrite, Skip, Unstage}
use Rattle.name_rules.proofs.Showing.{AreSame, same_back, shown_same}
use Rattle.world_model.specs.World.{Member, World, IsRecordOf, with_member}
use Rattle.world_model.specs.Events.{Install, Records, Step, Unstage as UnstageEvent, consumes, operated, unstaged_at}
use Rattle.world_model.proofs.Changing.{at_same}
use Rattle.world_model.proofs.Progress.{member_at, step_fits}
use Rattle.world_model.specs.Laws.{IsAnswerAt}
use Rattle.folder_core.specs.Books.{Changed, Takes}
use Rattle.folder_core.specs.Install.{AnswersInstall, AnswersNext, DoesStep as MachineDoes, GivesContents, Installs as InstallsAt, IsNextOf, contents_in}
use Rattle.folder_core.specs.declared.reply.Reply.{Reply}
use Rattle.folder_core.specs.declared.reply.Reply.TheVariants.{Did}
use Rattle.folder_core.specs.Machine.{Machine}
use Rattle.folder_core.specs.Notes.{form_sum}
use Rattle.folder_core.specs.Sound.{IsSound as IsSoundMachine, member_of, staged_sums}
use Rattle.folder_core.proofs.Alike.{maps_are}
use Rattle.script_engine.specs.declared.refusal.Refusal.{Refusal}
use Rattle.script_engine.specs.declared.refusal.Refusal.TheVariants.{NotYet, VectorFull}
use Rattle.script_engine.specs.Consuming.{widened}
use Rattle.script_engine.specs.Installing.{DoesStep, GivesStaged, Installs, OperatesStep, contents_if, staged_contents}
use Rattle.script_engine.specs.Replies.{installed_of}
use Rattle.script_engine.specs.Scene.{Scene}
use Rattle.script_engine.specs.Sound.{IsSoundWorld}
use Rattle.script_engine.specs.Standing.{AreOurs, HoldsContents, MachineStands, local_in}
use Rattle.script_engine.proofs.Advancing.{Goes, beside_same}
use Rattle.script_engine.proofs.Consumption.{consumed_keeps, goes_by, widths}
use Rattle.script_engine.proofs.Gives.{IsKept}
use Rattle.script_engine.proofs.Installed.{gives_contents, skip_records, turn_at}
use Rattle.script_engine.proofs.Journals.{local_kept, local_same, recorded_behind, recorded_kept}
use Rattle.script_engine.proofs.Passing.{passes_refl}
use Rattle.script_engine.proofs.Replicas.{passes_install, passes_unstage}
use Rattle.script_engine.proofs.Staging.{staged_with}
use Rattle.script_engine.proofs.Vectors.{vector_plus}
use Rattle.script_engine.proofs.Widths.{covered_is, exceeds_by, fits_by}

-- ---- the same records

in_place_same : {R S : Update → Type 0} → AreSame R S → (own : ℕ) (m : Maps) (o : Object) (p : ℕ × List ℕ) → IsInPlace R own m o p → IsInPlace S own m o p
in_place_same same own m o p (u, shown, uid, parent, name) = (u, shown_same same u shown, uid, parent, name)

candidate_same : {R S : Update → Type 0} → AreSame R S → (own : ℕ) (m : Maps) (staged : Uid → Option Sum) (consumed : ℕ) (step : InstallStep) → IsCandidate R own m staged consumed step → IsCandidate S own m staged consumed step
candidate_same same own m staged consumed (Park uid) (fid, o, p, at, is, place, out) = (fid, o, p, at, is, place, λ k. out (in_place_same (same_back same) own m o p k))
candidate_same same own m staged consumed (Erase uid) (fid, o, u, at, is, r, id, gone) = (fid, o, u, at, is, same.to u r, id, gone)
candidate_same same own m staged consumed (Make uid) (u, shown, id, fresh) = (u, shown_same same u shown, id, fresh)
candidate_same same own m staged consumed (Rewrite uid) (fid, o, u, at, is, r, id, file, differs) = (fid, o, u, at, is, same.to u r, id, file, differs)
candidate_same same own m staged consumed (Place uid) (fid, o, u, at, is, limbo, shown, id) = (fid, o, u, at, is, limbo, shown_same same u shown, id)
candidate_same same own m staged consumed (Unstage uid) c = c
candidate_same same own m staged consumed (Skip usn) c = c

pub drained_same : {R S : Update → Type 0} → AreSame R S → (own : ℕ) (m : Maps) (staged : Uid → Option Sum) (consumed : ℕ) → IsDrained R own m staged consumed → IsDrained S own m staged consumed
drained_same same own m staged consumed h = record {
  quiet = h.quiet;
  park = λ fid o p at place. in_place_same same own m o p (h.park fid o p at place);
  erase = λ fid o u at r id. h.erase fid o u at (same.back u r) id;
  make = λ u shown. h.make u (shown_same (same_back same) u shown);
  rewrite = λ fid o u at r id file. h.rewrite fid o u at (same.back u r) id file;
  place = λ fid o u at limbo shown id. h.place fid o u at limbo (shown_same (same_back same) u shown) id;
  unstage = h.unstage;
  skip = h.skip;
}

-- the same records give the same answer
answer_same : {R S : Update → Type 0} → AreSame R S → (own : ℕ) (m : Maps) (staged : Uid → Option Sum) (consumed : ℕ) (answer : Next) → IsAnswer R own m staged consumed answer → IsAnswer S own m staged consumed answer
answer_same same own m staged consumed (next.Do step) (quiet, n) = (
  quiet,
  record {
    candidate = candidate_same same own m staged consumed step n.candidate;
    first = λ other c. n.first other (candidate_same (same_back same) own m staged consumed other c);
  },
)
answer_same same own m staged consumed next.Drained h = drained_same same own m staged consumed h
answer_same same own m staged consumed (next.NotYet usn) h = h

-- and the same operations
step_same : {R S : Update → Type 0} → AreSame R S → (own : ℕ) (m : Maps) (step : InstallStep) (op : VolCmd) → IsStepOf R own m step op → IsStepOf S own m step op
step_same same own m (Park uid) op is = is
step_same same own m (Erase uid) op is = is
step_same same own m (Make uid) op (u, bytes, r, id, e) = (u, bytes, same.to u r, id, e)
step_same same own m (Rewrite uid) op is = is
step_same same own m (Place uid) op (fid, o, u, parent, at, is, r, id, there, up, e) = (fid, o, u, parent, at, is, same.to u r, id, there, up, e)
step_same same own m (Unstage uid) op is = is
step_same same own m (Skip usn) op is = is

-- ---- the machine and its member

records_same : (w : World) (d : ℕ) (m : Machine) → MachineStands w.all (w.at d) d m → AreSame (λ u. In u m.book.records) (IsRecordOf w d)
records_same w d m s = record { to = λ u here. s.book.records.each u here; back = λ u is. s.book.records.whole u is }

member_is : (all : List Update) (x : Member) (d : ℕ) (m : Machine) → MachineStands all x d m → member_of m ≡ x
member_is all x d m s = λ i. record {
  known = covered_is x.known m.book.vector s.book.vector i;
  volume = sym (maps_are m.volume x.volume s.volume) i;
  consumed = s.book.consumed i;
  kind = s.kind i;
  phase = s.book.phase i;
  staged = λ uid. (ap (option_map form_sum) (s.book.staged uid) ∙ sym (s.staged uid)) i;
}

-- the machine's answer is the member's
pub answer_at : (w : World) (d : ℕ) (m : Machine) (answer : Next) → MachineStands w.all (w.at d) d m → IsNextOf m answer → IsAnswerAt w d answer
answer_at w d m answer s h =
    let here : IsAnswer (λ u. In u m.book.records) d (member_of m).volume (member_of m).staged (member_of m).consumed answer =
    subst (λ own. IsAnswer (λ u. In u m.book.records) own (maps_of m.volume) (staged_sums m.book) m.book.consumed answer) s.own h in
    answer_same (records_same w d m s) d (w.at d).volume (w.at d).staged (w.at d).consumed answer
    (subst (λ (x : Member). IsAnswer (λ u. In u m.book.records) d x.volume x.staged x.consumed answer) (member_is w.all (w.at d) d m s) here)

-- and so is the operation of a step
pub operation_at : (w : World) (d : ℕ) (m : Machine) (step : InstallStep) (op : VolCmd) → MachineStands w.all (w.at d) d m → IsStepOf (λ u. In u m.book.records) m.book.own (maps_of m.volume) step op
    → IsStepOf (IsRecordOf w d) d (w.at d).volume step op
operation_at w d m step op s h =
    step_same (records_same w d m s) d (w.at d).volume step op
    (subst (λ maps. IsStepOf (λ u. In u m.book.records) d maps step op) (sym (maps_are m.volume (w.at d).volume s.volume)) (subst (λ own. IsStepOf (λ u. In u m.book.records) own (maps_of m.volume) step op) s.own h))

-- ---- contents

-- the contents in the form that is staged of a file are those that are staged of it
contents_same : (s : Scene) (d : ℕ) (m : Machine) (uid : Uid) → MachineStands s.world.all (s.world.at d) d m → HoldsContents (s.contents d) m → contents_in (form_of m.book uid) ≡ staged_contents s d uid
contents_same s d m uid stands holds = by (stands.forms uid) refl
  where
    by : (form : Option (List ℕ)) → stands.forms uid ≡ form → contents_in (form_of m.book uid) ≡ staged_contents s d uid
    by None e =
        ap contents_in (stands.book.staged uid ∙ e) ∙ sym (ap (λ o. contents_if o (s.contents d uid)) (stands.staged uid ∙ ap (option_map form_sum) e))
    by (Some form) e =
        let found = stands.book.staged uid ∙ e in
        ap contents_in found ∙ (ap (drop 44) (holds uid form found) ∙ (behind (s.contents d uid) ∙ sym (ap (λ o. contents_if o (s.contents d uid)) (stands.staged uid ∙ ap (option_map form_sum) e))))
      where
        behind : (bytes : List ℕ) → drop 44 (spelling local bytes) ≡ bytes
        behind bytes = refl

-- what the machine gives is what is staged
gives_at : (s : Scene) (d : ℕ) (m : Machine) (step : InstallStep) (op : VolCmd) → MachineStands s.world.all (s.world.at d) d m → HoldsContents (s.contents d) m
    → IsStepOf (λ u. In u m.book.records) m.book.own (maps_of m.volume) step op → GivesContents m op → GivesStaged s d op
gives_at s d m (Park uid) op stands holds (fid, o, at, is, e) gives = subst (GivesStaged s d) (sym e) tt
gives_at s d m (Erase uid) op stands holds (fid, o, at, is, e) gives = subst (GivesStaged s d) (sym e) tt
gives_at s d m (Make uid) op stands holds (u, bytes, r, id, e) gives = subst (GivesStaged s d) (sym e) (subst (GivesContents m) e gives ∙ contents_same s d m uid stands holds)
gives_at s d m (Rewrite uid) op stands holds (fid, o, bytes, at, is, e) gives =
    let found : IsAt (s.world.at d).volume fid o = stands.volume.objects fid ∙ at in
    let same : uid_at m.volume fid ≡ uid_of d o = ap (uid_found m.volume.own) at ∙ ap (λ own. uid_of own o) (stands.sound.order.own ∙ stands.own) in
    subst (GivesStaged s d) (sym e) (o, found, subst (GivesContents m) e gives ∙ (contents_same s d m (uid_at m.volume fid) stands holds ∙ ap (staged_contents s d) same))
gives_at s d m (Place uid) op stands holds (fid, o, u, parent, at, is, r, id, there, up, e) gives = subst (GivesStaged s d) (sym e) tt
gives_at s d m (Unstage uid) op stands holds is gives = absurd is
gives_at s d m (Skip usn) op stands holds is gives = absurd is

-- ---- what becomes of the machine

-- where nothing happens
goes_nowhere : (w : World) (d : ℕ) (m : Machine) → IsSoundWorld w → MachineStands w.all (w.at d) d m → Goes w d m m w
goes_nowhere w d m sound s = record { passes = passes_refl d w sound; stands = s; beside = λ j x n stands. stands; ours = λ h. h; counted = omega arith }

-- the machine of a member of which an operation of the installer was done
installed_stands : (w : World) (d : ℕ) (cmd : VolCmd) (m new : Machine) → MachineStands w.all (w.at d) d m → IsSoundMachine new → IsReplica d (w.at d).volume cmd → new ≡ record m { volume = effect cmd m.volume }
    → MachineStands w.all (operated d cmd (w.at d)) d new
installed_stands w d cmd m new s keeps may is =
    let x = w.at d in
    let o = s.sound.order in
    let own : m.volume.own ≡ d = o.own ∙ s.own in
    let here : IsReplica m.volume.own x.volume cmd = subst (λ n. IsReplica n x.volume cmd) (sym own) may in
    let stands : Stands (effect cmd m.volume) (write m.volume.own cmd x.volume) = stands_on cmd m.volume x.volume o.volume o.free (tables_are_tests cmd m.volume x.volume o.volume o.free s.volume (inr here)) s.volume in
    record {
      sound = keeps;
      own = ap (λ (y : Machine). y.book.own) is ∙ s.own;
      set = ap (λ (y : Machine). y.book.set) is ∙ s.set;
      kind = ap (λ (y : Machine). y.book.kind) is ∙ s.kind;
      forms = s.forms;
      book = subst (StandsFor w.all x.known x.consumed x.phase s.forms) (sym (ap (λ (y : Machine). y.book) is)) s.book;
      staged = s.staged;
      volume = subst (λ v. Stands v (write d cmd x.volume)) (sym (ap (λ (y : Machine). y.volume) is)) (subst (λ n. Stands (effect cmd m.volume) (write n cmd x.volume)) own stands);
    }

installed_goes : (w : World) (d : ℕ) (op : VolCmd) (m new : Machine) (after : World) → IsSoundWorld w → MachineStands w.all (w.at d) d m → IsSoundMachine new → Step w d (Install op) after → new ≡ record m { volume = effect op m.volume } → Goes w d m new after
installed_goes w d op m new after sound s keeps (quiet, due, may, same) is = subst (Goes w d m new) (sym same) (
    let next = with_member w d (operated d op (w.at d)) in
    let passes = passes_install w d op next sound (quiet, due, may, refl) in
    record {
      passes = passes;
      stands = subst (λ x. MachineStands w.all x d new) (sym (at_same w.at d (operated d op (w.at d)))) (installed_stands w d op m new s keeps may is);
      beside = beside_same w next d refl passes;
      ours = λ h. h;
      counted = let still = recorded_behind op d m new (w.at d).volume may is in omega (arith, still);
    })

-- the machine of a member that let go of what was staged of a file
unstaged_goes : (w : World) (d : ℕ) (uid : Uid) (m new : Machine) (after : World) → IsSoundWorld w → MachineStands w.all (w.at d) d m → IsSoundMachine new → Step w d (UnstageEvent uid) after → Changed (book.Unstage uid) m new → Goes w d m new after
unstaged_goes w d uid m new after sound s keeps (fid, o, at, id, staged, same) changed = subst (Goes w d m new) (sym same) (
    let x = w.at d in
    let next = with_member w d (unstaged_at uid x) in
    let passes = passes_unstage w d uid next sound (fid, o, at, id, staged, refl) in
    record {
      passes = passes;
      stands = subst (λ y. MachineStands w.all y d new) (sym (at_same w.at d (unstaged_at uid x))) (record {
        sound = keeps;
        own = changed.book.own ∙ s.own;
        set = changed.book.set ∙ s.set;
        kind = changed.book.kind ∙ s.kind;
        forms = with_uid s.forms uid None;
        book = unstages_on w.all x.known x.consumed x.phase s.forms m.book new.book uid s.book changed.book;
        staged = staged_with x.staged s.forms uid None None s.staged refl;
        volume = subst (λ v. Stands v x.volume) (sym changed.volume) s.volume;
      });
      beside = beside_same w next d refl passes;
      ours = λ h. h;
      counted = let still = changed.book.consumed in let kept = recorded_kept m new changed.volume (omega (arith, still)) in omega (arith, kept);
    })

-- what is staged then was staged
without_form : (forms : Uid → Option (List ℕ)) (file uid : Uid) (form : List ℕ) → with_uid forms file None uid ≡ Some form → forms uid ≡ Some form
without_form forms file uid form = by (same_uid uid file)
  where
    by : (b : Bool) → cond b None (forms uid) ≡ Some form → forms uid ≡ Some form
    by true e = absurd (cc)
    by false e = e

unstaged_keeps : (w : World) (d : ℕ) (uid : Uid) (m new : Machine) → MachineStands w.all (w.at d) d m → Changed (book.Unstage uid) m new → (contents : Uid → List ℕ) → HoldsContents contents m → HoldsContents contents new
unstaged_keeps w d uid m new s changed contents h file form e =
    let x = w.at d in
    let on = unstages_on w.all x.known x.consumed x.phase s.forms m.book new.book uid s.book changed.book in
    h file form (s.book.staged file ∙ without_form s.forms uid file form (sym (on.staged file) ∙ e))

-- ---- the answer

-- a step at a machine is one at its member
pub record Steps (s : Scene) (d : ℕ) (m : Machine) (reply : Reply) (new : Machine) : Type 0 where
  pub outcome : Result (Option InstallStep) Refusal
  pub reads : installed_of reply ≡ Some outcome
  pub after : World
  pub installs : Installs s d outcome after
  pub goes : Goes s.world d m new after
  pub keeps : (contents : Uid → List ℕ) → HoldsContents contents m → HoldsContents contents new
  pub local : local_in new ≡ local_in m

-- nothing is done
stays : (s : Scene) (d : ℕ) (m : Machine) (reply : Reply) (new : Machine) (outcome : Result (Option InstallStep) Refusal) → IsSoundWorld s.world → MachineStands s.world.all (s.world.at d) d m → installed_of reply ≡ Some outcome → new ≡ m
    → Installs s d outcome s.world → Steps s d m reply new
stays s d m reply new outcome sound stands reads same installs = record {
  outcome = outcome;
  reads = reads;
  after = s.world;
  installs = installs;
  goes = subst (λ x. Goes s.world d m x s.world) (sym same) (goes_nowhere s.world d m sound stands);
  keeps = λ contents h. subst (HoldsContents contents) (sym same) h;
  local = ap local_in same;
}

-- its operation is done
operation_steps : (s : Scene) (d : ℕ) (step : InstallStep) (m : Machine) (reply : Reply) (new : Machine) → IsKept s → MachineStands s.world.all (s.world.at d) d m → HoldsContents (s.contents d) m → IsSoundMachine new
    → IsAnswerAt s.world d (next.Do step) → ((w : World) → OperatesStep s d step w → DoesStep s d step w) → InstallsAt step m reply new → Steps s d m reply new
operation_steps s d step m reply new h stands holds keeps answer does (op, is_op, said, is) =
    let turn = turn_at s.world d step h.world.invariant answer in
    let gives = gives_at s d m step op stands holds is_op.of_step is_op.contents in
    let of_step = operation_at s.world d m step op stands is_op.of_step in
    let (due, may) = step_fits (λ u. In u s.world.all) (IsRecordOf s.world d) d (s.world.at d) (member_at s.world h.world.invariant d) answer.0 step op turn answer.1.candidate of_step (gives_contents s d op (h.staged d) gives) in
    let after = with_member s.world d (operated d op (s.world.at d)) in
    let event : Step s.world d (Install op) after = (answer.0, due, may, refl) in
    record {
      outcome = Ok (Some step);
      reads = ap installed_of said;
      after = after;
      installs = (answer, does after (op, of_step, gives, event));
      goes = installed_goes s.world d op m new after h.world stands keeps event is;
      keeps = λ contents held uid form e. held uid form (sym (ap (λ (y : Machine). form_of y.book uid) is) ∙ e);
      local = local_kept op d m new (s.world.at d).volume may is;
    }

-- a journal record is passed, or the vector would be too wide
skip_steps : (s : Scene) (d usn : ℕ) (m : Machine) (reply : Reply) (new : Machine) → IsKept s → AreOurs s.world.all → MachineStands s.world.all (s.world.at d) d m → IsSoundMachine new → IsAnswerAt s.world d (next.Do (Skip usn))
    → Takes (book.RecordLocal usn None) (Did (Skip usn)) m reply new → Steps s d m reply new
skip_steps s d usn m reply new h ours stands keeps answer takes =
    by (subst (λ n. Takes (book.RecordLocal n None) (Did (Skip usn)) m reply new) (answer.1.candidate.1 ∙ sym stands.book.consumed) takes)
  where
    w : World
    w = s.world

    records : Records w d 0 None
    records = skip_records w d usn answer

    by : Takes (book.RecordLocal m.book.consumed None) (Did (Skip usn)) m reply new → Steps s d m reply new
    by (inl (said, changed)) = record {
      outcome = Ok (Some (Skip usn));
      reads = ap installed_of said;
      after = consumes w d None;
      installs = (answer, (answer.1.candidate.1, fits_by _ (widened w d) new.book.vector (widths w d m stands) changed.book.vector changed.within, records, refl));
      goes = goes_by w d 0 m new None (omega arith) h.world ours stands keeps records changed;
      keeps = consumed_keeps w d 0 m new None h.world ours stands records changed;
      local = local_same m new changed.volume;
    }
    by (inr (count, (full, (said, same)))) = stays s d m reply new (Err (VectorFull count)) h.world stands (ap installed_of said) same
        ((usn, answer, exceeds_by _ (widened w d) count (widths w d m stands) (vector_plus (w.at d).known _ (h.world.vectors d)) full), refl)

-- what a member's machine answers, the member answers
pub steps_at : (s : Scene) (d : ℕ) (m : Machine) (reply : Reply) (new : Machine) → IsKept s → AreOurs s.world.all → MachineStands s.world.all (s.world.at d) d m → HoldsContents (s.contents d) m → IsSoundMachine new
    → AnswersInstall m reply new → Steps s d m reply new
steps_at s d m reply new h ours stands holds keeps (answer, is, answers) = by answer (answer_at s.world d m answer stands is) answers
  where
    done : (step : InstallStep) → IsAnswerAt s.world d (next.Do step) → MachineDoes step m reply new → Steps s d m reply new
    done (Park uid) at does = operation_steps s d (Park uid) m reply new h stands holds keeps at (λ w o. o) does
    done (Erase uid) at does = operation_steps s d (Erase uid) m reply new h stands holds keeps at (λ w o. o) does
    done (Make uid) at does = operation_steps s d (Make uid) m reply new h stands holds keeps at (λ w o. o) does
    done (Rewrite uid) at does = operation_steps s d (Rewrite uid) m reply new h stands holds keeps at (λ w o. o) does
    done (Place uid) at does = operation_steps s d (Place uid) m reply new h stands holds keeps at (λ w o. o) does
    done (Unstage uid) at (said, changed) =
        let (fid, o, there, id, staged) = at.1.candidate in
        let event : Step s.world d (UnstageEvent uid) (with_member s.world d (unstaged_at uid (s.world.at d))) = (fid, o, there, id, staged, refl) in
        record {
          outcome = Ok (Some (Unstage uid));
          reads = ap installed_of said;
          after = with_member s.world d (unstaged_at uid (s.world.at d));
          installs = (at, event);
          goes = unstaged_goes s.world d uid m new _ h.world stands keeps event changed;
          keeps = unstaged_keeps s.world d uid m new stands changed;
          local = local_same m new changed.volume;
        }
    done (Skip usn) at does = skip_steps s d usn m reply new h ours stands keeps at does

    by : (answer : Next) → IsAnswerAt s.world d answer → AnswersNext answer m reply new → Steps s d m reply new
    by (next.Do step) at does = done step at does
    by next.Drained at (said, same) = stays s d m reply new (Ok None) h.world stands (ap installed_of said) same (at, refl)
    by (next.NotYet usn) at (said, same) = stays s d m reply new (Err (NotYet usn)) h.world stands (ap installed_of said) same (at, refl)
