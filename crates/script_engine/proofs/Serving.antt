-- What a member's machine sends, the member sends.
use Rattle.std.proofs.Common.{◌≡◌, ◌<◌, ◌^◌, ◌⊎◌, ℕ, Bool, true, false, List, [], ◌∷◌, length, refl, sym, ap, ◌∙◌, subst, inl, inr, MatchOption, Option, Some, None}
use Rattle.std.specs.Prelude.{MatchBool, if◌then◌else◌, option_map}
use Rattle.frs_base.specs.declared.sum.Sum.{Sum}
use Rattle.frs_base.specs.declared.version.Uid.{Uid}
use Rattle.marshal_form.specs.Local.{IsLocalForm, local}
use Rattle.marshal_form.specs.Spelling.{spelling}
use Rattle.win_order.specs.declared.update.Update.{Update}
use Rattle.vol_state.specs.declared.object.Object.{Object}
use Rattle.vol_state.specs.Journal.{pending_local}
use Rattle.vol_state.specs.State.{object_of, uid_of}
use Rattle.vol_state.specs.Tables.{IsAt}
use Rattle.vol_state.specs.Pending.{IsLastPending as IsLastIn}
use Rattle.vol_state.proofs.Recent.{pending_is_last}
use Rattle.record_db.specs.Records.{Covered, IsHeld}
use Rattle.record_db.proofs.Lists.{found_held}
use Rattle.name_rules.specs.Next.{IsPending}
use Rattle.name_rules.specs.Recorded.{held_of}
use Rattle.name_rules.specs.Tree.{is_file}
use Rattle.pinned_pages.specs.declared.answer.FileAnswer.TheVariants.{Found, NotYet}
use Rattle.world_model.specs.World.{Member, World}
use Rattle.world_model.specs.Events.{IsOfFile, Step, SendUpdate, sends_update, sends_vector}
use Rattle.folder_core.specs.declared.reply.Reply.{Reply}
use Rattle.folder_core.specs.declared.reply.Reply.TheVariants.{File}
use Rattle.folder_core.specs.Machine.{Machine, first_of}
use Rattle.folder_core.proofs.Fitting.{object_found}
use Rattle.folder_core.specs.Laws.{FilesHaveForms}
use Rattle.folder_core.specs.Notes.{form_sum}
use Rattle.folder_core.specs.Serve.{AnswersFile, answer_by, form_at}
use Rattle.script_engine.specs.Scene.{Scene, in_world}
use Rattle.script_engine.specs.Standing.{HoldsContents, MachineStands, MachinesStand}
use Rattle.script_engine.specs.Pulling.{ContentsAt, Gives, IsLastPending}
use Rattle.script_engine.specs.Pulls.{IsFormOfGiven}
use Rattle.script_engine.proofs.Gives.{IsKept, gives_some}
use Rattle.script_engine.proofs.Advancing.{scene_on}
use Rattle.script_engine.proofs.Leading.{leads_by}
use Rattle.script_engine.proofs.Passing.{passes_update, passes_vector}

-- ---- what is sent changes no machine

pub sent_vector_stands : (machines : List Machine) (s : Scene) (k : ℕ) (server : ℕ) → MachinesStand machines s → k < length s.names → MachinesStand machines (in_world s (sends_vector s.world server))
sent_vector_stands machines s k server h within = record {
  many = h.many;
  each = λ j m at. h.each j m at;
  contents = h.contents;
  ours = h.ours;
  usns = λ j m at. h.usns j m at;
  counted = h.counted;
  scene = scene_on s (in_world s (sends_vector s.world server)) k h.scene within (leads_by _ s (sends_vector s.world server) (passes_vector s.world _ server (sends_vector s.world server) h.scene.world refl) (λ uid sum e. e));
}

pub sent_update_stands : (machines : List Machine) (s : Scene) (k : ℕ) (server : ℕ) (u : Update) → MachinesStand machines s → k < length s.names → Step s.world server (SendUpdate u) (sends_update s.world server u)
    → MachinesStand machines (in_world s (sends_update s.world server u))
sent_update_stands machines s k server u h within step = record {
  many = h.many;
  each = λ j m at. h.each j m at;
  contents = h.contents;
  ours = h.ours;
  usns = λ j m at. h.usns j m at;
  counted = h.counted;
  scene = scene_on s (in_world s (sends_update s.world server u)) k h.scene within (leads_by _ s (sends_update s.world server u) (passes_update s.world _ server u (sends_update s.world server u) h.scene.world step) (λ uid sum e. e));
}

-- ---- a file

-- a local record of the file isn't consumed, the last with this USN
pub record Waits (w : World) (d : ℕ) (uid : Uid) (reply : Reply) : Type 0 where
  pub usn : ℕ
  pub last : IsLastPending w d uid usn
  pub reply_is : reply ≡ File (NotYet usn)

-- a present file's form is sent with it
abbrev pub IsBodyOf : Update → Option (List ℕ) → Type 0
IsBodyOf u body = is_file u ≡ true → (form : List ℕ) × (body ≡ Some form) × (form_sum form ≡ u.hash) × (length form < 2 ^ 64 → (contents : List ℕ) × IsLocalForm form contents)

-- its record is sent
pub record Sends (w : World) (d : ℕ) (m : Machine) (uid : Uid) (at : ℕ) (reply : Reply) : Type 0 where
  pub update : Update
  pub body : Option (List ℕ)
  pub file : update.uid ≡ uid
  pub of_file : IsOfFile w d update
  pub form : IsBodyOf update body
  pub body_is : body ≡ (if is_file update then form_at m uid else None)
  pub reply_is : reply ≡ File (Found at update body)

-- nothing of the file is pending, or the last that is has this USN
pending_cases : (w : World) (d : ℕ) (m : Machine) (uid : Uid) → MachineStands w.all (w.at d) d m → IsLastIn (w.at d).volume uid (w.at d).consumed (pending_local m.volume.journal uid m.book.consumed)
pending_cases w d m uid s =
    subst (λ n. IsLastIn (w.at d).volume uid n (pending_local m.volume.journal uid m.book.consumed)) s.book.consumed
    (pending_is_last m.volume (w.at d).volume uid m.book.consumed s.sound.order.numbered s.volume)

none_pending : (w : World) (d : ℕ) (uid : Uid) → IsLastIn (w.at d).volume uid (w.at d).consumed None → IsPending (w.at d).consumed (w.at d).volume uid → ⊥
none_pending w d uid none (n, r, past, at, local, same) = none n (r, at, past, local, same)

last_pending : (w : World) (d : ℕ) (uid : Uid) (usn : ℕ) → IsLastIn (w.at d).volume uid (w.at d).consumed (Some usn) → IsLastPending w d uid usn
last_pending w d uid usn ((r, at, past, local, same), most) = record {
  pending = (r, past, at, local, same);
  last = λ n q low here is_local file. most n (q, here, low, is_local, file);
}

-- a member that covers an update of the file has a record of it, and sends the form of a present file
pub files_at : FilesHaveForms → (w : World) (d : ℕ) (u : Update) (at : ℕ) (m : Machine) (reply : Reply) (new : Machine) → MachineStands w.all (w.at d) d m → Covered w.all (w.at d).known u
    → AnswersFile u.uid at m reply new → (Waits w d u.uid reply ⊎ Sends w d m u.uid at reply) × (new ≡ m)
files_at forms w d u at m reply new s covered (said, same) =
    (by (held_of m.book.records u.uid) refl (found_held w.all (w.at d).known m.book.records u.uid s.book.records) (pending_local m.volume.journal u.uid m.book.consumed) refl (pending_cases w d m u.uid s) said, same)
  where
    by : (held : Option Update) → held_of m.book.records u.uid ≡ held → IsHeld (Covered w.all (w.at d).known) u.uid held
        → (waiting : Option ℕ) → pending_local m.volume.journal u.uid m.book.consumed ≡ waiting → IsLastIn (w.at d).volume u.uid (w.at d).consumed waiting
        → reply ≡ File (answer_by at held waiting (form_at m u.uid)) → Waits w d u.uid reply ⊎ Sends w d m u.uid at reply
    by None p none waiting q last e = absurd (none u covered refl)
    by (Some v) p is (Some usn) q last e = inl (record { usn = usn; last = last_pending w d u.uid usn last; reply_is = e })
    by (Some v) p is None q last e = inr (record {
      update = v;
      body = if is_file v then form_at m u.uid else None;
      file = is.1;
      of_file = (is.0, λ x. none_pending w d u.uid last (subst (IsPending (w.at d).consumed (w.at d).volume) is.1 x));
      form = λ file. forms at at m u.uid v (if is_file v then form_at m u.uid else None) s.sound (λ i. answer_by at (p i) (q i) (form_at m u.uid)) file;
      body_is = refl;
      reply_is = e;
    })

-- ---- what is given

-- the form that a machine has of a file is that of the file's contents at its member
form_is : (s : Scene) (d : ℕ) (m : Machine) (uid : Uid) (bytes : List ℕ) → MachineStands s.world.all (s.world.at d) d m → HoldsContents (s.contents d) m → ContentsAt s d uid bytes → form_at m uid ≡ Some (spelling local bytes)
form_is s d m uid bytes stands holds = by (stands.forms uid) refl
  where
    x : Member
    x = s.world.at d

    At : Option Sum → Type 0
    At staged = MatchOption staged ((fid : ℕ) × (o : Object) × IsAt x.volume fid o × (uid_of d o ≡ uid) × (bytes ≡ o.bytes)) (λ sum. bytes ≡ s.contents d uid)

    by : (form : Option (List ℕ)) → stands.forms uid ≡ form → At (x.staged uid) → form_at m uid ≡ Some (spelling local bytes)
    by (Some form) e at =
        let is : bytes ≡ s.contents d uid = subst At (stands.staged uid ∙ ap (option_map form_sum) e) at in
        let found = stands.book.staged uid ∙ e in
        ap (λ f. first_of (f ∷ option_map (λ (o : Object). spelling local o.bytes) (object_of m.volume uid) ∷ [])) found
        ∙ ap (λ f. Some f) (holds uid form found ∙ ap (spelling local) (sym is))
    by None e at =
        let (fid, o, there, of, is) = subst At (stands.staged uid ∙ ap (option_map form_sum) e) at in
        let found = object_found m.volume stands.sound.order.volume fid o uid (sym (stands.volume.objects fid) ∙ there) (ap (λ own. uid_of own o) (stands.sound.order.own ∙ stands.own) ∙ of) in
        ap (λ f. first_of (f ∷ option_map (λ (q : Object). spelling local q.bytes) (object_of m.volume uid) ∷ [])) (stands.book.staged uid ∙ e)
        ∙ (ap (λ f. first_of (None ∷ option_map (λ (q : Object). spelling local q.bytes) f ∷ [])) found ∙ ap (λ b. Some (spelling local b)) (sym is))

-- what a machine sends with its record of a file is the form of what its member gives
pub body_given : (s : Scene) (d : ℕ) (m : Machine) (u : Update) (body : Option (List ℕ)) → IsKept s → MachineStands s.world.all (s.world.at d) d m → HoldsContents (s.contents d) m → IsOfFile s.world d u
    → body ≡ (if is_file u then form_at m u.uid else None) → (given : Option (List ℕ)) × Gives s d u given × IsFormOfGiven given body
body_given s d m u body h stands holds of is =
    let (given, gives, sum) = gives_some s d u h of in (given, gives, by (is_file u) given gives is)
  where
    by : (t : Bool) (given : Option (List ℕ)) → MatchBool t ((bytes : List ℕ) × ContentsAt s d u.uid bytes × (given ≡ Some bytes)) (given ≡ None) → body ≡ (if t then form_at m u.uid else None) → body ≡ option_map (spelling local) given
    by true given (bytes, at, same) is = is ∙ (form_is s d m u.uid bytes stands holds at ∙ ap (option_map (spelling local)) (sym same))
    by false given none is = is ∙ ap (option_map (spelling local)) (sym none)
