-- A step of the installer.
use Rattle.std.specs.Prelude.{◌≡◌, ◌⊎◌, ℕ, List, [], Option, None, drop, unwrap_or}
use Rattle.frs_base.specs.Options.{In}
use Rattle.frs_base.specs.declared.version.Uid.{Uid}
use Rattle.win_order.specs.declared.update.Update.{Update}
use Rattle.vol_state.specs.declared.command.VolCmd.{VolCmd}
use Rattle.vol_state.specs.declared.command.VolCmd.TheVariants as vol
use Rattle.vol_state.specs.Effects.{effect, uid_at}
use Rattle.vol_state.specs.Maps.{maps_of}
use Rattle.vol_state.specs.Tables.{IsLocal, IsReplica}
use Rattle.record_db.specs.declared.command.BookCmd.TheVariants as book
use Rattle.record_db.specs.State.{form_of}
use Rattle.name_rules.specs.Next.{IsAnswer, IsDue, IsQuiet, IsStepOf}
use Rattle.name_rules.specs.declared.step.Next.{Next}
use Rattle.name_rules.specs.declared.step.Next.TheVariants as next
use Rattle.name_rules.specs.declared.step.Step.{Step}
use Rattle.name_rules.specs.declared.step.Step.TheVariants.{Skip, Unstage}
use Rattle.install_plan.specs.Agenda.{Agenda}
use Rattle.install_plan.specs.Agenda as plan
use Rattle.folder_core.specs.declared.refusal.Refusal.TheVariants as why
use Rattle.folder_core.specs.declared.reply.Reply.{Reply}
use Rattle.folder_core.specs.declared.reply.Reply.TheVariants.{Did, Drained}
use Rattle.folder_core.specs.Machine.{Machine, Refuses}
use Rattle.folder_core.specs.Books.{Changed, Takes}
use Rattle.folder_core.specs.Sound.{staged_sums}

-- what the installer does next
abbrev pub IsNextOf : Machine → Next → Type 0
IsNextOf m answer = IsAnswer (λ u. In u m.book.records) m.book.own (maps_of m.volume) (staged_sums m.book) m.book.consumed answer

-- the contents in a form: what stands behind its 44 bytes; none where there is no form
abbrev pub contents_in : Option (List ℕ) → List ℕ
contents_in form = drop 44 (unwrap_or form [])

-- an operation that gives a file contents gives those in the form that is staged of it
abbrev pub GivesContents : Machine → VolCmd → Type 0
GivesContents m (vol.Make uid kind bytes) = bytes ≡ contents_in (form_of m.book uid)
GivesContents m (vol.Rewrite fid bytes) = bytes ≡ contents_in (form_of m.book (uid_at m.volume fid))
GivesContents m op = Unit {0}

-- the record of a file or directory
abbrev pub IsRecordOf : Machine → Uid → Update → Type 0
IsRecordOf m uid u = In u m.book.records × (u.uid ≡ uid)

-- it has one
abbrev pub HasRecord : Machine → Uid → Type 0
HasRecord m uid = (u : Update) × IsRecordOf m uid u

-- the operation of a step
pub record IsOperation (m : Machine) (step : Step) (op : VolCmd) : Type 0 where
  pub of_step : IsStepOf (λ u. In u m.book.records) m.book.own (maps_of m.volume) step op
  pub contents : GivesContents m op

-- it has its effect on the volume
abbrev pub Installs : Step → Machine → Reply → Machine → Type 0
Installs step old reply new = (op : VolCmd) × IsOperation old step op × (reply ≡ Did step) × (new ≡ record old { volume = effect op old.volume })

-- a step is done: by its operation, but a staged form goes from the book, and a journal record is passed in it
abbrev pub DoesStep : Step → Machine → Reply → Machine → Type 0
DoesStep (Unstage uid) old reply new = (reply ≡ Did (Unstage uid)) × Changed (book.Unstage uid) old new
DoesStep (Skip usn) old reply new = Takes (book.RecordLocal usn None) (Did (Skip usn)) old reply new
DoesStep step old reply new = Installs step old reply new

-- the next step is done, where there is one and no local record is pending
abbrev pub AnswersNext : Next → Machine → Reply → Machine → Type 0
AnswersNext (next.Do step) old reply new = DoesStep step old reply new
AnswersNext next.Drained old reply new = (reply ≡ Drained) × (new ≡ old)
AnswersNext (next.NotYet usn) old reply new = Refuses (why.NotYet usn) old reply new

-- so is what the installer does next
abbrev pub AnswersInstall : Machine → Reply → Machine → Type 0
AnswersInstall old reply new = (answer : Next) × IsNextOf old answer × AnswersNext answer old reply new

-- ---- what is kept from one step to the next

-- an agenda, if there is one, is of the machine
abbrev pub IsPlanned : Machine → Option Agenda → Type 0
IsPlanned m agenda = plan.IsPlanned m.volume m.book agenda

-- ---- what may be done to the volume

-- an operation of the installer that is due, where no local record is pending
pub record MayInstall (m : Machine) (op : VolCmd) : Type 0 where
  pub quiet : IsQuiet m.book.consumed (maps_of m.volume)
  pub due : IsDue (λ u. In u m.book.records) m.book.own (maps_of m.volume) (staged_sums m.book) op
  pub replica : IsReplica m.book.own (maps_of m.volume) op

-- a local operation, or one of the installer
abbrev pub MayOperate : Machine → VolCmd → Type 0
MayOperate m op = IsLocal (maps_of m.volume) op ⊎ MayInstall m op
