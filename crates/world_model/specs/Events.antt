-- What an event at one member changes, and when it may come.
use Rattle.std.specs.Prelude.{◌≡◌, ◌⊎◌, ◌<◌, ◌+◌, ◌^◌, ℕ, ◌∷◌, ◌++◌, Option, Some, None, if◌then◌else◌, option_to_list}
use Rattle.frs_base.specs.Options.{In}
use Rattle.frs_base.specs.declared.kind.Phase.TheVariants.{Normal}
use Rattle.frs_base.specs.declared.sum.Sum.{Sum}
use Rattle.frs_base.specs.declared.version.Uid.{Uid}
use Rattle.win_order.specs.declared.update.Update.{Update}
use Rattle.vol_state.specs.declared.object.Object.{Object}
use Rattle.vol_state.specs.declared.record.VolRecord.{VolRecord}
use Rattle.vol_state.specs.declared.command.VolCmd.{VolCmd}
use Rattle.vol_state.specs.State.{uid_of}
use Rattle.vol_state.specs.Maps.{with_at, write}
use Rattle.vol_state.specs.Tables.{IsAt, IsLocal, IsReplica}
use Rattle.record_db.specs.Records.{Versions, plus, both, Covered, IsRecord, IsHeld, IsBetter, IsHeldOrBeaten}
use Rattle.record_db.specs.Staged.{with_uid}
use Rattle.name_rules.specs.Recorded.{base_fence, recorded_of}
use Rattle.name_rules.specs.Tree.{is_file}
use Rattle.name_rules.specs.Next.{IsDue, IsPending, IsQuiet}
use Rattle.world_model.specs.World.{Member, World, IsRecordOf, with_member}

-- ---- what becomes of a member

-- its volume after a command
abbrev pub operated : ℕ → VolCmd → Member → Member
operated own op x = record x { volume = write own op x.volume }

-- where an update was made, a staged content of its file goes
abbrev pub unstaged_by : Option Update → (Uid → Option Sum) → Uid → Option Sum
unstaged_by None staged = staged
unstaged_by (Some u) staged = with_uid staged u.uid None

-- a journal record consumed: its version is covered, whether or not it made an update
abbrev pub consumed_by : ℕ → Option Update → Member → Member
consumed_by own made x = record x {
  known = plus x.known (record { db = own; version = x.consumed });
  consumed = x.consumed + 1;
  staged = unstaged_by made x.staged;
}

-- an update adopted: its version is covered, and the hash of a present file is staged
abbrev pub adopted_by : Update → Member → Member
adopted_by u x = record x {
  known = plus x.known u.gvsn;
  staged = with_uid x.staged u.uid (if is_file u then Some u.hash else None);
}

-- a round finished: all of its vector is covered
abbrev pub finished_by : Versions → Member → Member
finished_by s x = record x { known = both x.known s; phase = Normal }

-- a staged content gone
abbrev pub unstaged_at : Uid → Member → Member
unstaged_at uid x = record x { staged = with_uid x.staged uid None }

-- ---- what becomes of the world

-- the member of this database consumed a record
abbrev pub consumes : World → ℕ → Option Update → World
consumes w d made = record w { all = w.all ++ option_to_list made; at = with_at w.at d (consumed_by d made (w.at d)) }

-- it sent what it covers
abbrev pub sends_vector : World → ℕ → World
sends_vector w d = record w { vectors = record { from = d; versions = (w.at d).known } ∷ w.vectors }

-- it sent an update
abbrev pub sends_update : World → ℕ → Update → World
sends_update w d u = record w { updates = record { from = d; update = u } ∷ w.updates }

-- ---- when an event may come

-- the update, or none, of the journal record that the member consumes next, at a moment
abbrev pub Records : World → ℕ → ℕ → Option Update → Type 0
Records w d moment made = (r : VolRecord) × (held : Option Update) × ((w.at d).volume.entry (w.at d).consumed ≡ Some r)
    × IsHeld (Covered w.all (w.at d).known) r.uid held
    × (made ≡ recorded_of d (w.at d).volume (base_fence (w.at d).phase (w.at d).kind) (w.at d).consumed moment r held)

-- an update of a page: a winner of what a vector that the member sent covers
abbrev pub IsOfPage : World → ℕ → Update → Type 0
IsOfPage w d u = (s : Versions) × In (record { from = d; versions = s }) w.vectors × IsRecord w.all s u

-- a file answer: the record, with no pending local record of its file
abbrev pub IsOfFile : World → ℕ → Update → Type 0
IsOfFile w d u = IsRecordOf w d u × (IsPending (w.at d).consumed (w.at d).volume u.uid → ⊥)

-- some member sent the update, in a page or as a file
abbrev pub WasSent : World → Update → Type 0
WasSent w u = (from : ℕ) × In (record { from = from; update = u }) w.updates

-- some member sent the vector
abbrev pub WasSentVector : World → Versions → Type 0
WasSentVector w s = (from : ℕ) × In (record { from = from; versions = s }) w.vectors

-- each winner of what the vector covers is held or beaten
abbrev pub IsAllHeld : World → ℕ → Versions → Type 0
IsAllHeld w d s = (u : Update) → IsRecord w.all s u → IsHeldOrBeaten (IsRecordOf w d) u

-- ---- events

-- what happens at one member
pub data Event : Type 0 where
  -- a local operation on its volume
  Local : VolCmd → Event
  -- the next journal record is consumed, at a moment
  Consume : ℕ → Event
  -- its vector is sent
  SendVector : Event
  -- an update is sent, in a page or as a file
  SendUpdate : Update → Event
  -- an update that was sent is taken among its records
  Adopt : Update → Event
  -- a round over a vector that was sent is finished
  Finish : Versions → Event
  -- the installer does an operation on the volume
  Install : VolCmd → Event
  -- a staged content goes, since the object has it
  Unstage : Uid → Event

-- the event may come at the member of this database, and leads from one world to the other
abbrev pub Step : World → ℕ → Event → World → Type 0
Step w d (Local op) new = IsLocal (w.at d).volume op × (new ≡ with_member w d (operated d op (w.at d)))
Step w d (Consume moment) new = (moment < 2 ^ 61) × (made : Option Update) × Records w d moment made × (new ≡ consumes w d made)
Step w d SendVector new = new ≡ sends_vector w d
Step w d (SendUpdate u) new = (IsOfPage w d u ⊎ IsOfFile w d u) × (new ≡ sends_update w d u)
Step w d (Adopt u) new = WasSent w u × IsBetter (Covered w.all (w.at d).known) u × (new ≡ with_member w d (adopted_by u (w.at d)))
Step w d (Finish s) new = WasSentVector w s × IsAllHeld w d s × (new ≡ with_member w d (finished_by s (w.at d)))
Step w d (Install op) new =
    IsQuiet (w.at d).consumed (w.at d).volume × IsDue (IsRecordOf w d) d (w.at d).volume (w.at d).staged op × IsReplica d (w.at d).volume op
    × (new ≡ with_member w d (operated d op (w.at d)))
Step w d (Unstage uid) new =
    (fid : ℕ) × (o : Object) × IsAt (w.at d).volume fid o × (uid_of d o ≡ uid) × ((w.at d).staged uid ≡ Some o.sum)
    × (new ≡ with_member w d (unstaged_at uid (w.at d)))
