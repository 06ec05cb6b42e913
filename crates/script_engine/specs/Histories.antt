-- What the events of a line enter in the members' histories.
use Rattle.std.specs.Prelude.{◌≡◌, ℕ, ◌+◌, zero, suc, List, Option, Some, None, Result, Ok, Err, slice_get, slice_set}
use Rattle.frs_base.specs.declared.version.Uid.{Uid}
use Rattle.win_order.specs.declared.update.Update.{Update}
use Rattle.pinned_pages.specs.Pages.{IsPage}
use Rattle.pinned_pages.specs.declared.pinned.Pinned.{Pinned}
use Rattle.pinned_pages.specs.declared.answer.FileAnswer.{FileAnswer}
use Rattle.pinned_pages.specs.declared.answer.FileAnswer.TheVariants.{Found, NotYet}
use Rattle.folder_core.specs.declared.event.Event.{Event}
use Rattle.folder_core.specs.declared.event.Event.TheVariants.{Adopt, File, Finish, Vector}
use Rattle.folder_core.specs.declared.reply.Reply.{Reply}
use Rattle.folder_core.specs.Replay.{Does, Seen}
use Rattle.script_engine.specs.declared.engine.Engine.{Engine}
use Rattle.script_engine.specs.declared.engine.pulling.Fetched.{Fetched}
use Rattle.script_engine.specs.Pulls.{unknown}
use Rattle.script_engine.specs.Replies.{file_of, pinned_of, taken_of}

-- the member at this place answered the event so: its history has that one entry more, behind all others; no other folder changes
pub record Entered (at : ℕ) (event : Event) (reply : Reply) (old new : Engine) : Type 0 where
  pub before : Seen
  pub after : Seen
  pub found : slice_get old.folders.items at ≡ Some before
  pub does : Does 0 event reply before after
  pub folders : new.folders.items ≡ slice_set old.folders.items at after

-- the event was entered with a reply that reads so
abbrev pub Came : {T : Type 0} → ℕ → Event → (Reply → Option T) → T → Engine → Engine → Type 0
Came at event read outcome old new = (reply : Reply) × Entered at event reply old new × (read reply ≡ Some outcome)

-- what was answered about a file
abbrev pub answer_of : Result Fetched ℕ → FileAnswer
answer_of (Ok f) = Found f.at f.update f.form
answer_of (Err usn) = NotYet usn

-- ---- pulls

-- one after the other, so many updates were adopted as the server sent them in this entry of its history
abbrev pub Adopted : ℕ → ℕ → ℕ → ℕ → Engine → Engine → Type 0
Adopted at server entry zero old new = new ≡ old
Adopted at server entry (suc n) old new =
    (mid : Engine) × (u : Update) × Adopted at server entry n old mid × Came at (Adopt server entry u None) taken_of (Ok tt) mid new

-- one after the other, so many files were asked for and adopted as the server answered, in the entry that the answer names
abbrev pub Fetches : ℕ → ℕ → ℕ → ℕ → Engine → Engine → Type 0
Fetches at from server zero old new = new ≡ old
Fetches at from server (suc n) old new =
    (mid : Engine) × (there : Engine) × (uid : Uid) × (f : Fetched) × Fetches at from server n old mid
    × Came from (File uid) file_of (Found f.at f.update f.form) mid there × Came at (Adopt server f.at f.update f.form) taken_of (Ok tt) there new

-- the updates of a pinned state that the member at this place doesn't cover, in order of their versions
abbrev pub IsSeen : ℕ → Pinned → Engine → List Update → Type 0
IsSeen at pinned e seen = (f : Seen) × (slice_get e.folders.items at ≡ Some f) × IsPage (unknown pinned.vector f.machine.book.vector) pinned.records seen

-- the server's vector was sent once, and so many updates adopted, each from the entry that sent it; the round was finished over that vector, from its entry
abbrev pub Pulled : ℕ → ℕ → ℕ → ℕ → Engine → Engine → Type 0
Pulled at from server taken old new =
    (asked : Engine) × (paged : Engine) × (filed : Engine) × (pinned : Pinned) × (seen : List Update) × (once : ℕ) × (fetched : ℕ)
    × Came from Vector pinned_of pinned old asked × Adopted at server pinned.at once asked paged × Fetches at from server fetched paged filed
    × Came at (Finish server pinned.at pinned.vector seen) taken_of (Ok tt) filed new × IsSeen at pinned asked seen × (taken ≡ once + fetched)
