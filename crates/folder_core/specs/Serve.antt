-- What a partner asks for.
use Rattle.std.specs.Prelude.{◌≡◌, ℕ, if◌then◌else◌, List, [], ◌∷◌, Option, Some, None, option_map}
use Rattle.frs_base.specs.declared.version.Uid.{Uid}
use Rattle.win_order.specs.declared.update.Update.{Update}
use Rattle.marshal_form.specs.Local.{local}
use Rattle.marshal_form.specs.Spelling.{spelling}
use Rattle.vol_state.specs.Journal.{pending_local}
use Rattle.vol_state.specs.State.{object_of}
use Rattle.record_db.specs.State.{form_of}
use Rattle.name_rules.specs.Recorded.{held_of}
use Rattle.name_rules.specs.Tree.{is_file}
use Rattle.pinned_pages.specs.declared.answer.FileAnswer.{FileAnswer}
use Rattle.pinned_pages.specs.declared.answer.FileAnswer.TheVariants.{Found, NotYet, NoRecord}
use Rattle.folder_core.specs.declared.reply.Reply.{Reply}
use Rattle.folder_core.specs.declared.reply.Reply.TheVariants.{File, Sent}
use Rattle.folder_core.specs.Machine.{Machine, first_of}

-- the vector and the records, as of the entry at this place
abbrev pub AnswersVector : ℕ → Machine → Reply → Machine → Type 0
AnswersVector at old reply new = (reply ≡ Sent (record { vector = old.book.vector; records = old.book.records; at = at })) × (new ≡ old)

-- the form of a file: the one that is staged under its UID, else that of its object's contents
abbrev pub form_at : Machine → Uid → Option (List ℕ)
form_at m uid = first_of (form_of m.book uid ∷ option_map (λ o. spelling local o.bytes) (object_of m.volume uid) ∷ [])

-- the record of a file, unless a local journal record of it is still to be consumed; a present file's with its form
abbrev pub answer_by : ℕ → Option Update → Option ℕ → Option (List ℕ) → FileAnswer
answer_by at None waiting form = NoRecord
answer_by at (Some u) (Some usn) form = NotYet usn
answer_by at (Some u) None form = Found at u (if is_file u then form else None)

-- what the member has of a file, as of the entry at this place
abbrev pub file_answer : ℕ → Machine → Uid → FileAnswer
file_answer at m uid = answer_by at (held_of m.book.records uid) (pending_local m.volume.journal uid m.book.consumed) (form_at m uid)

-- it is answered, and nothing changes
abbrev pub AnswersFile : Uid → ℕ → Machine → Reply → Machine → Type 0
AnswersFile uid at old reply new = (reply ≡ File (file_answer at old uid)) × (new ≡ old)
