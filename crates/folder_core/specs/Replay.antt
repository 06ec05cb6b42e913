-- The history of a member, and what it leads to.
use Rattle.std.specs.Prelude.{⊤, ◌≡◌, ◌≢◌, ◌<◌, ◌≤◌, ◌+◌, ◌^◌, ℕ, List, [], ◌∷◌, ◌++◌, length}
use Rattle.std.specs.List.{AllByRecursion}
use Rattle.frs_base.specs.declared.kind.MemberKind.{MemberKind}
use Rattle.folder_core.specs.declared.entry.Entry.{Entry}
use Rattle.folder_core.specs.declared.event.Event.{Event}
use Rattle.folder_core.specs.declared.note.Note.{Note}
use Rattle.folder_core.specs.declared.note.Note.TheVariants.{Adopt, Consume, File, Finish, Install, Local, Vector}
use Rattle.folder_core.specs.declared.reply.Reply.{Reply}
use Rattle.folder_core.specs.Machine.{Machine, fresh_machine}
use Rattle.folder_core.specs.Notes.{mark_of, note_of}
use Rattle.folder_core.specs.Answers.{Answers}

-- a machine, and the place of the last entry that changed its vector, 0 where none did
pub record Stand : Type 0 where
  pub machine : Machine
  pub generation : ℕ

-- the generation after the entry at this place
pub record IsGeneration (at : ℕ) (old new : Stand) : Type 0 where
  pub stays : new.machine.book.vector ≡ old.machine.book.vector → new.generation ≡ old.generation
  pub moves : new.machine.book.vector ≢ old.machine.book.vector → new.generation ≡ at

-- the machine answers an event of this caller so, and the entry at this place says so
pub record Enters (at caller : ℕ) (event : Event) (reply : Reply) (entry : Entry) (old new : Stand) : Type 0 where
  pub answers : Answers at old.machine event reply new.machine
  pub is : entry ≡ record { caller = caller; note = note_of event; reply = mark_of reply }
  pub generation : IsGeneration at old new

-- some event with the entry's note, and some reply with its mark, lead from one to the other
abbrev pub Leads : ℕ → Entry → Stand → Stand → Type 0
Leads at entry old new = (event : Event) × (reply : Reply) × Enters at entry.caller event reply entry old new

-- so do the entries, from this place on, one after the other
abbrev pub Replays : ℕ → Stand → List Entry → Stand → Type 0
Replays at old [] new = new ≡ old
Replays at old (entry ∷ rest) new = (mid : Stand) × Leads at entry old mid × Replays (at + 1) mid rest new

-- ---- folders

-- what a contract sees of a folder: its machine, its history, and its generation
pub record Seen : Type 0 where
  pub machine : Machine
  pub history : List Entry
  pub generation : ℕ

-- its machine and generation alone
abbrev pub stand_of : Seen → Stand
stand_of f = record { machine = f.machine; generation = f.generation }

-- a folder in which nothing has come
abbrev pub fresh_folder : MemberKind → ℕ → ℕ → Seen
fresh_folder kind own set = record { machine = fresh_machine kind own set; history = []; generation = 0 }

-- it is the replay of its history from the fresh machine of its kind, database and content set
abbrev pub IsReplay : Seen → Type 0
IsReplay f =
    Replays 1 (record { machine = fresh_machine f.machine.book.kind f.machine.book.own f.machine.book.set; generation = 0 }) f.history (stand_of f)

-- the moment of a consume is below 2^61
abbrev pub IsEarly : Note → Type 0
IsEarly (Local operation) = ⊤
IsEarly (Consume moment) = moment < 2 ^ 61
IsEarly Vector = ⊤
IsEarly (File uid) = ⊤
IsEarly (Adopt from at update form) = ⊤
IsEarly (Finish from at sent seen) = ⊤
IsEarly Install = ⊤

-- so is that of an event
abbrev pub IsEarlyEvent : Event → Type 0
IsEarlyEvent event = IsEarly (note_of event)

-- so is each of a history
abbrev pub AreEarly : List Entry → Type 0
AreEarly history = AllByRecursion (λ entry. IsEarly entry.note) history

-- what is true of every folder besides what its machine is
pub record IsFolder (f : Seen) : Type 0 where
  pub replay : IsReplay f
  pub early : AreEarly f.history
  pub usns : f.machine.volume.next_usn ≤ 9 + length f.history

-- an event of this caller is answered so: one entry more, and what it leads to
abbrev pub Does : ℕ → Event → Reply → Seen → Seen → Type 0
Does caller event reply old new =
    (entry : Entry) × (new.history ≡ old.history ++ entry ∷ []) × Enters (length old.history + 1) caller event reply entry (stand_of old) (stand_of new)
