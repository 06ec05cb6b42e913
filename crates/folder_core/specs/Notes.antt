-- Events and replies as a history keeps them: contents are known by their sum alone, and what was pinned by its vector.
use Rattle.std.specs.Prelude.{ℕ, List, None, Option, Some, option_map}
use Rattle.frs_base.specs.declared.kind.Kind.TheVariants as kind
use Rattle.frs_base.specs.declared.sum.Sum.{Sum}
use Rattle.sha1.specs.Sha1.{sha1}
use Rattle.vol_state.specs.declared.operation.LocalOp.{LocalOp}
use Rattle.vol_state.specs.declared.operation.LocalOp.TheVariants as op
use Rattle.vol_state.specs.Sums.{content_sum}
use Rattle.pinned_pages.specs.declared.answer.FileAnswer.{FileAnswer}
use Rattle.pinned_pages.specs.declared.answer.FileAnswer.TheVariants as answer
use Rattle.folder_core.specs.declared.event.Event.{Event}
use Rattle.folder_core.specs.declared.event.Event.TheVariants as event
use Rattle.folder_core.specs.declared.reply.Reply.{Reply}
use Rattle.folder_core.specs.declared.reply.Reply.TheVariants as reply
use Rattle.folder_core.specs.declared.note.LocalNote.{LocalNote}
use Rattle.folder_core.specs.declared.note.LocalNote.TheVariants as local
use Rattle.folder_core.specs.declared.note.Note.{Note}
use Rattle.folder_core.specs.declared.note.Note.TheVariants as note
use Rattle.folder_core.specs.declared.mark.FileMark.{FileMark}
use Rattle.folder_core.specs.declared.mark.FileMark.TheVariants as file
use Rattle.folder_core.specs.declared.mark.Mark.{Mark}
use Rattle.folder_core.specs.declared.mark.Mark.TheVariants as mark

-- the sum of a form
abbrev pub form_sum : List ℕ → Sum
form_sum form = record { 0 = sha1 form }

-- a local operation
abbrev pub local_note_of : LocalOp → LocalNote
local_note_of (op.Put path bytes) = local.Put path (content_sum kind.File bytes)
local_note_of (op.Mkdir path) = local.Mkdir path
local_note_of (op.Move from to) = local.Move from to
local_note_of (op.Remove path) = local.Remove path

-- an event
abbrev pub note_of : Event → Note
note_of (event.Local operation) = note.Local (local_note_of operation)
note_of (event.Consume moment) = note.Consume moment
note_of event.Vector = note.Vector
note_of (event.File uid) = note.File uid
note_of (event.Adopt from at update form) = note.Adopt from at update (option_map form_sum form)
note_of (event.Finish from at sent seen) = note.Finish from at sent seen
note_of event.Install = note.Install

-- the sum of the contents that a local operation brings
abbrev pub local_noted_sum : LocalNote → Option Sum
local_noted_sum (local.Put path sum) = Some sum
local_noted_sum (local.Mkdir path) = None
local_noted_sum (local.Move from to) = None
local_noted_sum (local.Remove path) = None

-- the same of an event
abbrev pub noted_sum : Note → Option Sum
noted_sum (note.Local operation) = local_noted_sum operation
noted_sum (note.Consume moment) = None
noted_sum note.Vector = None
noted_sum (note.File uid) = None
noted_sum (note.Adopt from at update form) = None
noted_sum (note.Finish from at sent seen) = None
noted_sum note.Install = None

-- an answer about a file
abbrev pub file_mark_of : FileAnswer → FileMark
file_mark_of (answer.Found at update body) = file.Found at update
file_mark_of (answer.NotYet usn) = file.NotYet usn
file_mark_of answer.NoRecord = file.NoRecord

-- a reply
abbrev pub mark_of : Reply → Mark
mark_of (reply.Usn usn) = mark.Usn usn
mark_of (reply.Made gvsn) = mark.Made gvsn
mark_of (reply.Skipped usn) = mark.Skipped usn
mark_of reply.Nothing = mark.Nothing
mark_of (reply.Sent pinned) = mark.Sent pinned.vector pinned.at
mark_of (reply.File found) = mark.File (file_mark_of found)
mark_of reply.Adopted = mark.Adopted
mark_of reply.Finished = mark.Finished
mark_of (reply.Did step) = mark.Did step
mark_of reply.Drained = mark.Drained
mark_of (reply.Refused why) = mark.Refused why
