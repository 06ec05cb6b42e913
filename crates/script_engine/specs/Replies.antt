-- What the replies to the events of lines say.
use Rattle.std.specs.Prelude.{ℕ, Option, Some, None, Result, Ok, Err}
use Rattle.vol_state.specs.declared.operation.Refused.{Refused as LocalRefused}
use Rattle.name_rules.specs.declared.step.Step.{Step}
use Rattle.pinned_pages.specs.declared.answer.FileAnswer.{FileAnswer}
use Rattle.pinned_pages.specs.declared.pinned.Pinned.{Pinned}
use Rattle.folder_core.specs.declared.refusal.Refusal.{Refusal as FolderRefusal}
use Rattle.folder_core.specs.declared.refusal.Refusal.TheVariants as why
use Rattle.folder_core.specs.declared.reply.Reply.{Reply}
use Rattle.folder_core.specs.declared.reply.Reply.TheVariants.{Adopted, Did, Drained, File, Finished, Made, Nothing, Refused, Sent, Skipped, Usn}
use Rattle.script_engine.specs.declared.consumed.Consumed.{Consumed}
use Rattle.script_engine.specs.declared.consumed.Consumed.TheVariants as consumed
use Rattle.script_engine.specs.declared.refusal.Refusal.{Refusal}
use Rattle.script_engine.specs.declared.refusal.Refusal.TheVariants.{NotYet, VectorFull}

-- the table of local operations refused it
abbrev pub local_refusal : FolderRefusal → Option (Result ℕ LocalRefused)
local_refusal (why.Local r) = Some (Err r)
local_refusal other = None

-- the vector would have so many intervals
abbrev pub full_refusal : {T : Type 0} → FolderRefusal → Option (Result T Refusal)
full_refusal (why.VectorFull count) = Some (Err (VectorFull count))
full_refusal other = None

-- a local operation got a USN, or was refused
abbrev pub usn_of : Reply → Option (Result ℕ LocalRefused)
usn_of (Usn usn) = Some (Ok usn)
usn_of (Refused r) = local_refusal r
usn_of other = None

-- a journal record was consumed, or none was left, or it was refused
abbrev pub consumed_of : Reply → Option (Result (Option Consumed) Refusal)
consumed_of (Made gvsn) = Some (Ok (Some (consumed.Made gvsn.version)))
consumed_of (Skipped usn) = Some (Ok (Some (consumed.Skipped usn)))
consumed_of Nothing = Some (Ok None)
consumed_of (Refused r) = full_refusal r
consumed_of other = None

-- a vector was sent
abbrev pub pinned_of : Reply → Option Pinned
pinned_of (Sent pinned) = Some pinned
pinned_of other = None

-- a file was answered
abbrev pub file_of : Reply → Option FileAnswer
file_of (File answer) = Some answer
file_of other = None

-- an update was adopted or a round finished, or the vector would be too wide
abbrev pub taken_of : Reply → Option (Result (Unit {0}) Refusal)
taken_of Adopted = Some (Ok tt)
taken_of Finished = Some (Ok tt)
taken_of (Refused r) = full_refusal r
taken_of other = None

-- a local record is pending, or the vector would be too wide
abbrev pub stop_of : FolderRefusal → Option (Result (Option Step) Refusal)
stop_of (why.NotYet usn) = Some (Err (NotYet usn))
stop_of other = full_refusal other

-- the installer did a step, or had none to do, or was refused
abbrev pub installed_of : Reply → Option (Result (Option Step) Refusal)
installed_of (Did step) = Some (Ok (Some step))
installed_of Drained = Some (Ok None)
installed_of (Refused r) = stop_of r
installed_of other = None
