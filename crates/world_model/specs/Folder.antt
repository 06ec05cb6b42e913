-- A member alone, whose records are a list; its partners may send anything.
use Rattle.std.specs.Prelude.{◌≡◌, ◌≢◌, ◌<◌, ◌≤◌, ℕ, true, false, List, [], Option, Some, MatchOption}
use Rattle.frs_base.specs.Options.{In}
use Rattle.frs_base.specs.declared.kind.Kind.TheVariants.{File}
use Rattle.frs_base.specs.declared.version.Gvsn.{Gvsn}
use Rattle.frs_base.specs.declared.version.Uid.{Uid}
use Rattle.win_order.specs.declared.update.Update.{Update}
use Rattle.vol_state.specs.declared.object.Object.{Object}
use Rattle.vol_state.specs.declared.record.VolRecord.{VolRecord}
use Rattle.vol_state.specs.declared.command.VolCmd.{VolCmd}
use Rattle.vol_state.specs.declared.command.VolCmd.TheVariants.{Make, Rewrite}
use Rattle.vol_state.specs.State.{uid_of}
use Rattle.vol_state.specs.Conditions.{root_uid}
use Rattle.vol_state.specs.Sums.{content_sum}
use Rattle.vol_state.specs.Tables.{IsAt, IsLocal, IsReplica}
use Rattle.record_db.specs.Records.{Versions}
use Rattle.record_db.specs.Lists.{IsRising, put_any, put_record}
use Rattle.name_rules.specs.Recorded.{base_fence, recorded_of}
use Rattle.name_rules.specs.Tree.{kind_of}
use Rattle.name_rules.specs.Next.{IsAnswer, IsDue, IsNext, IsQuiet, IsStepOf}
use Rattle.name_rules.specs.declared.step.Next.{Next}
use Rattle.name_rules.specs.declared.step.Step.{Step}
use Rattle.world_model.specs.World.{Member}
use Rattle.world_model.specs.Events.{adopted_by, consumed_by, finished_by, operated, unstaged_at}
use Rattle.world_model.specs.Invariant.{MemberIsSound}

-- ---- what it keeps

-- what a member alone keeps of versions: it covers just those of its own that it consumed, and each record's, which no two records share
pub record VersionsAreKept (own : ℕ) (x : Member) (records : List Update) : Type 0 where
  pub own_consumed : (g : Gvsn) → x.known g ≡ true → g.db ≡ own → g.version < x.consumed
  pub own_covered : (n : ℕ) → 9 ≤ n → n < x.consumed → x.known (record { db = own; version = n }) ≡ true
  pub recorded : (u : Update) → In u records → x.known u.gvsn ≡ true
  pub one_each : (u v : Update) → In u records → In v records → u.gvsn ≡ v.gvsn → u ≡ v

-- what a member alone keeps: the same of its volume and its records, whatever was sent to it
pub record FolderIsSound (own : ℕ) (x : Member) (records : List Update) : Type 0 where
  pub begun : 9 ≤ x.consumed
  pub rising : IsRising records
  pub versions : VersionsAreKept own x records
  pub made : (u : Update) → In u records → u.uid.db ≡ own → u.uid.version < x.consumed
  pub no_root : (u : Update) → In u records → u.uid ≢ root_uid
  pub member : MemberIsSound (λ u. In u records) (λ u. In u records) own x

-- ---- what may come

-- an update that isn't covered, is of no version or file of the member's own that isn't made, nor of the root, and is of the kind of its file's record, or where there is none of its object
pub record IsFit (own : ℕ) (x : Member) (records : List Update) (u : Update) : Type 0 where
  pub new : x.known u.gvsn ≡ false
  pub version_ahead : u.gvsn.db ≡ own → u.gvsn.version < x.consumed
  pub file_ahead : u.uid.db ≡ own → u.uid.version < x.consumed
  pub root : u.uid ≢ root_uid
  pub kinds : (v : Update) → In v records → v.uid ≡ u.uid → kind_of v ≡ kind_of u
  pub object_kind : ((v : Update) → In v records → v.uid ≢ u.uid) → (fid : ℕ) (o : Object) → IsAt x.volume fid o → uid_of own o ≡ u.uid → o.kind ≡ kind_of u

-- a vector of which no version of the member's own is one that it hasn't made
abbrev pub IsFitVector : ℕ → Member → Versions → Type 0
IsFitVector own x s = (g : Gvsn) → s g ≡ true → g.db ≡ own → g.version < x.consumed

-- the record of a file in the list, or that there is none
abbrev pub IsFound : List Update → Uid → Option Update → Type 0
IsFound records uid held = MatchOption held ((v : Update) → In v records → v.uid ≢ uid) (λ r. In r records × (r.uid ≡ uid))

-- local operations, steps of the installer, every adoption and every vector that is fit, and consuming keep a member sound
pub record FoldersStaySound (own : ℕ) (x : Member) (records : List Update) : Type 0 where
  pub local : (op : VolCmd) → IsLocal x.volume op → FolderIsSound own (operated own op x) records
  pub install : (op : VolCmd) → IsQuiet x.consumed x.volume → IsDue (λ u. In u records) own x.volume x.staged op → IsReplica own x.volume op
      → FolderIsSound own (operated own op x) records
  pub unstage : (uid : Uid) (fid : ℕ) (o : Object) → IsAt x.volume fid o → uid_of own o ≡ uid → x.staged uid ≡ Some o.sum → FolderIsSound own (unstaged_at uid x) records
  pub adopt : (u : Update) → IsFit own x records u → FolderIsSound own (adopted_by u x) (put_record u records)
  pub finish : (s : Versions) → IsFitVector own x s → FolderIsSound own (finished_by s x) records
  pub consume : (moment : ℕ) (r : VolRecord) (held made : Option Update) → x.volume.entry x.consumed ≡ Some r → IsFound records r.uid held
      → made ≡ recorded_of own x.volume (base_fence x.phase x.kind) x.consumed moment r held → FolderIsSound own (consumed_by own made x) (put_any made records)

-- ---- the installer

-- the contents that are staged of the file; no bytes where none are
abbrev pub AreStaged : Member → Uid → List ℕ → Type 0
AreStaged x uid bytes = MatchOption (x.staged uid) (bytes ≡ []) (λ sum. content_sum File bytes ≡ sum)

-- an operation that gives a file contents gives those that are staged
abbrev pub GivesStaged : ℕ → Member → VolCmd → Type 0
GivesStaged own x (Make uid kind bytes) = AreStaged x uid bytes
GivesStaged own x (Rewrite fid bytes) = (o : Object) → IsAt x.volume fid o → AreStaged x (uid_of own o) bytes
GivesStaged own x op = Unit {0}

-- the operation of the next step, with the contents that are staged, is due and may be done
abbrev pub StepsOfMembersFit : Type 0
StepsOfMembersFit = (own : ℕ) (x : Member) (records : List Update) → FolderIsSound own x records → IsQuiet x.consumed x.volume → (step : Step) (op : VolCmd)
    → IsNext (λ u. In u records) own x.volume x.staged x.consumed step → IsStepOf (λ u. In u records) own x.volume step op → GivesStaged own x op
    → IsDue (λ u. In u records) own x.volume x.staged op × IsReplica own x.volume op

-- a member alone has one answer at most when it is asked for its next step
abbrev pub MembersAnswerOnce : Type 0
MembersAnswerOnce = (own : ℕ) (x : Member) (records : List Update) → FolderIsSound own x records → (a b : Next)
    → IsAnswer (λ u. In u records) own x.volume x.staged x.consumed a → IsAnswer (λ u. In u records) own x.volume x.staged x.consumed b → a ≡ b

-- and it has one
abbrev pub AnswersOfMembersAreThere : Type 0
AnswersOfMembersAreThere = (own : ℕ) (x : Member) (records : List Update) → FolderIsSound own x records
    → (next : Next) × IsAnswer (λ u. In u records) own x.volume x.staged x.consumed next
