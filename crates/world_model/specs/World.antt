-- The members of a folder, all that they ever recorded, and all that they ever sent.
use Rattle.std.specs.Prelude.{◌<◌, ◌≤◌, ℕ, false, List, [], Option, None}
use Rattle.frs_base.specs.declared.kind.MemberKind.{MemberKind}
use Rattle.frs_base.specs.declared.kind.Phase.{Phase}
use Rattle.frs_base.specs.declared.kind.Phase.TheVariants.{Initial}
use Rattle.frs_base.specs.declared.sum.Sum.{Sum}
use Rattle.frs_base.specs.declared.version.Gvsn.{Gvsn}
use Rattle.frs_base.specs.declared.version.Uid.{Uid}
use Rattle.win_order.specs.declared.update.Update.{Update}
use Rattle.vol_state.specs.Maps.{Maps, fresh_maps, with_at}
use Rattle.record_db.specs.Records.{Versions, IsRecord}

-- one member; it has no table of records: its records are the winners of what it covers of all that was recorded
pub record Member : Type 0 where
  -- K: the versions that it covers
  pub known : Versions
  -- its volume, with the journal
  pub volume : Maps
  -- the USN of the journal record that it consumes next
  pub consumed : ℕ
  -- primary or plain, which no event changes
  pub kind : MemberKind
  -- whether it has finished a round
  pub phase : Phase
  -- the sums of the contents that are staged, by file
  pub staged : Uid → Option Sum

-- a vector that a member sent
pub record SentVector : Type 0 where
  pub from : ℕ
  pub versions : Versions

-- an update that a member sent, in a page or as a file
pub record SentUpdate : Type 0 where
  pub from : ℕ
  pub update : Update

-- all updates that were ever recorded, the members by their databases, and all that was ever sent
pub record World : Type 0 where
  pub all : List Update
  pub at : ℕ → Member
  pub vectors : List SentVector
  pub updates : List SentUpdate

-- the records of the member with this database
abbrev pub IsRecordOf : World → ℕ → Update → Type 0
IsRecordOf w d = IsRecord w.all (w.at d).known

-- made by the member of its database, which has consumed it
abbrev pub IsConsumed : World → Gvsn → Type 0
IsConsumed w g = (9 ≤ g.version) × (g.version < (w.at g.db).consumed)

-- ---- changes

-- the world with another member of this database
abbrev pub with_member : World → ℕ → Member → World
with_member w d x = record w { at = with_at w.at d x }

-- ---- the beginning

-- a member that has done nothing
abbrev pub fresh_member : MemberKind → Member
fresh_member kind = record { known = λ g. false; volume = fresh_maps; consumed = 9; kind = kind; phase = Initial; staged = λ uid. None }

-- members of these kinds that have done nothing; a database that is no member is a fresh member for ever
abbrev pub fresh_world : (ℕ → MemberKind) → World
fresh_world kinds = record { all = []; at = λ d. fresh_member (kinds d); vectors = []; updates = [] }
