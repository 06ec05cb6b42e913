-- What the installer does next, by the records of a member.
use Rattle.std.specs.Prelude.{◌≡◌, ◌≢◌, ◌⊎◌, ◌≤◌, ◌==◌, ◌&&◌, ◌||◌, nat_lt, ℕ, Bool, true, false, List, Option, Some, None}
use Rattle.frs_base.specs.Versions.{uid_lt}
use Rattle.frs_base.specs.declared.sum.Sum.{Sum}
use Rattle.frs_base.specs.declared.version.Uid.{Uid}
use Rattle.win_order.specs.declared.update.Update.{Update}
use Rattle.vol_state.specs.declared.object.Object.{Object}
use Rattle.vol_state.specs.declared.record.VolRecord.{VolRecord}
use Rattle.vol_state.specs.declared.command.VolCmd.{VolCmd}
use Rattle.vol_state.specs.declared.command.VolCmd.TheVariants as cmd
use Rattle.vol_state.specs.State.{uid_of}
use Rattle.vol_state.specs.Sums.{content_sum}
use Rattle.vol_state.specs.Maps.{Maps}
use Rattle.vol_state.specs.Tables.{IsAt, IsNew}
pub use Rattle.name_rules.specs.declared.step.Step.{Step}
pub use Rattle.name_rules.specs.declared.step.Step.TheVariants.{Park, Erase, Make, Rewrite, Place, Unstage, Skip}
pub use Rattle.name_rules.specs.declared.step.Next.{Next}
pub use Rattle.name_rules.specs.declared.step.Next.TheVariants.{Do, Drained, NotYet}
use Rattle.name_rules.specs.Recorded.{parent_uid}
use Rattle.name_rules.specs.Tree.{IsShown, is_file, kind_of}

-- ---- pending local records

-- a local journal record of the file is at or past the next one to consume
abbrev pub IsPending : ℕ → Maps → Uid → Type 0
IsPending consumed m uid = (n : ℕ) × (r : VolRecord) × (consumed ≤ n) × (m.entry n ≡ Some r) × (r.local ≡ true) × (r.uid ≡ uid)

-- none is
abbrev pub IsQuiet : ℕ → Maps → Type 0
IsQuiet consumed m = (n : ℕ) (r : VolRecord) → consumed ≤ n → m.entry n ≡ Some r → r.local ≡ false

-- the journal record with this USN is a local one that isn't consumed
abbrev pub IsPendingAt : ℕ → Maps → ℕ → Type 0
IsPendingAt consumed m usn = (r : VolRecord) × (consumed ≤ usn) × (m.entry usn ≡ Some r) × (r.local ≡ true)

-- and the first of these
pub record IsFirstPending (consumed : ℕ) (m : Maps) (usn : ℕ) : Type 0 where
  pub pending : IsPendingAt consumed m usn
  pub least : (other : ℕ) → IsPendingAt consumed m other → usn ≤ other

-- ---- steps

-- the object's record is shown at exactly this place
abbrev pub IsInPlace : (Update → Type 0) → ℕ → Maps → Object → ℕ × List ℕ → Type 0
IsInPlace Records own m o p = (u : Update) × IsShown Records u × (u.uid ≡ uid_of own o) × (u.parent ≡ parent_uid own m p.0) × (u.name ≡ p.1)

-- ---- where a kind of step has no candidate

-- each placed object is in place
abbrev pub NothingToPark : (Update → Type 0) → ℕ → Maps → Type 0
NothingToPark Records own m = (fid : ℕ) (o : Object) (p : ℕ × List ℕ) → IsAt m fid o → o.place ≡ Some p → IsInPlace Records own m o p

-- no object's record is a tombstone
abbrev pub NothingToErase : (Update → Type 0) → ℕ → Maps → Type 0
NothingToErase Records own m = (fid : ℕ) (o : Object) (u : Update) → IsAt m fid o → Records u → u.uid ≡ uid_of own o → u.present ≡ true

-- each shown record has an object
abbrev pub NothingToMake : (Update → Type 0) → ℕ → Maps → Type 0
NothingToMake Records own m = (u : Update) → IsShown Records u → (fid : ℕ) × (o : Object) × IsAt m fid o × (uid_of own o ≡ u.uid)

-- each object of a present file record has its sum
abbrev pub NothingToRewrite : (Update → Type 0) → ℕ → Maps → Type 0
NothingToRewrite Records own m = (fid : ℕ) (o : Object) (u : Update) → IsAt m fid o → Records u → u.uid ≡ uid_of own o → is_file u ≡ true → o.sum ≡ u.hash

-- no object in limbo has a shown record
abbrev pub NothingToPlace : (Update → Type 0) → ℕ → Maps → Type 0
NothingToPlace Records own m = (fid : ℕ) (o : Object) (u : Update) → IsAt m fid o → o.place ≡ None → IsShown Records u → u.uid ≡ uid_of own o → ⊥

-- no staged content is that of its object
abbrev pub NothingToUnstage : ℕ → Maps → (Uid → Option Sum) → Type 0
NothingToUnstage own m staged = (uid : Uid) (sum : Sum) (fid : ℕ) (o : Object) → staged uid ≡ Some sum → IsAt m fid o → uid_of own o ≡ uid → o.sum ≢ sum

-- no local record is pending, and no kind of step has a candidate
pub record IsDrained (Records : Update → Type 0) (own : ℕ) (m : Maps) (staged : Uid → Option Sum) (consumed : ℕ) : Type 0 where
  pub quiet : IsQuiet consumed m
  pub park : NothingToPark Records own m
  pub erase : NothingToErase Records own m
  pub make : NothingToMake Records own m
  pub rewrite : NothingToRewrite Records own m
  pub place : NothingToPlace Records own m
  pub unstage : NothingToUnstage own m staged
  pub skip : consumed ≡ m.next_usn

-- ---- candidates

-- what each kind of step is needed for
abbrev pub IsCandidate : (Update → Type 0) → ℕ → Maps → (Uid → Option Sum) → ℕ → Step → Type 0
IsCandidate Records own m staged consumed (Park uid) =
    (fid : ℕ) × (o : Object) × (p : ℕ × List ℕ) × IsAt m fid o × (uid_of own o ≡ uid) × (o.place ≡ Some p) × (IsInPlace Records own m o p → ⊥)
IsCandidate Records own m staged consumed (Erase uid) =
    (fid : ℕ) × (o : Object) × (u : Update) × IsAt m fid o × (uid_of own o ≡ uid) × Records u × (u.uid ≡ uid) × (u.present ≡ false)
IsCandidate Records own m staged consumed (Make uid) = (u : Update) × IsShown Records u × (u.uid ≡ uid) × IsNew own m uid
IsCandidate Records own m staged consumed (Rewrite uid) =
    (fid : ℕ) × (o : Object) × (u : Update) × IsAt m fid o × (uid_of own o ≡ uid) × Records u × (u.uid ≡ uid) × (is_file u ≡ true) × (o.sum ≢ u.hash)
IsCandidate Records own m staged consumed (Place uid) =
    (fid : ℕ) × (o : Object) × (u : Update) × IsAt m fid o × (uid_of own o ≡ uid) × (o.place ≡ None) × IsShown Records u × (u.uid ≡ uid)
IsCandidate Records own m staged consumed (Unstage uid) =
    (fid : ℕ) × (o : Object) × IsAt m fid o × (uid_of own o ≡ uid) × (staged uid ≡ Some o.sum)
IsCandidate Records own m staged consumed (Skip usn) = (r : VolRecord) × (usn ≡ consumed) × (m.entry usn ≡ Some r)

-- where a step stands in their order: its kind, then its file
abbrev pub place_of : Step → ℕ × Uid
place_of (Park uid) = (0, uid)
place_of (Erase uid) = (1, uid)
place_of (Make uid) = (2, uid)
place_of (Rewrite uid) = (3, uid)
place_of (Place uid) = (4, uid)
place_of (Unstage uid) = (5, uid)
place_of (Skip usn) = (6, record { db = 0; version = usn })

-- of two places the first is lower
abbrev pub place_lt : ℕ × Uid → ℕ × Uid → Bool
place_lt a b = nat_lt a.0 b.0 || (a.0 == b.0 && uid_lt a.1 b.1)

-- the next step: a candidate before which no other comes, so it is of the first kind that has one, and for the least file
pub record IsNext (Records : Update → Type 0) (own : ℕ) (m : Maps) (staged : Uid → Option Sum) (consumed : ℕ) (step : Step) : Type 0 where
  pub candidate : IsCandidate Records own m staged consumed step
  pub first : (other : Step) → IsCandidate Records own m staged consumed other → place_lt (place_of other) (place_of step) ≡ false

-- what it answers when it is asked
abbrev pub IsAnswer : (Update → Type 0) → ℕ → Maps → (Uid → Option Sum) → ℕ → Next → Type 0
IsAnswer Records own m staged consumed (Do step) = IsQuiet consumed m × IsNext Records own m staged consumed step
IsAnswer Records own m staged consumed Drained = IsDrained Records own m staged consumed
IsAnswer Records own m staged consumed (NotYet usn) = IsFirstPending consumed m usn

-- no earlier kind has a candidate
abbrev pub IsTurn : (Update → Type 0) → ℕ → Maps → (Uid → Option Sum) → Step → Type 0
IsTurn Records own m staged (Park uid) = Unit {0}
IsTurn Records own m staged (Erase uid) = NothingToPark Records own m
IsTurn Records own m staged (Make uid) = NothingToPark Records own m × NothingToErase Records own m
IsTurn Records own m staged (Rewrite uid) = NothingToPark Records own m × NothingToErase Records own m × NothingToMake Records own m
IsTurn Records own m staged (Place uid) = NothingToPark Records own m × NothingToErase Records own m × NothingToMake Records own m × NothingToRewrite Records own m
IsTurn Records own m staged (Unstage uid) =
    NothingToPark Records own m × NothingToErase Records own m × NothingToMake Records own m × NothingToRewrite Records own m × NothingToPlace Records own m
IsTurn Records own m staged (Skip usn) =
    NothingToPark Records own m × NothingToErase Records own m × NothingToMake Records own m × NothingToRewrite Records own m × NothingToPlace Records own m
    × NothingToUnstage own m staged

-- ---- operations

-- the root, or an object, has this number
abbrev pub IsThere : Maps → ℕ → Type 0
IsThere m fid = (fid ≡ 0) ⊎ ((o : Object) × IsAt m fid o)

-- the operation of a step on the volume; the last two kinds have none
abbrev pub IsStepOf : (Update → Type 0) → ℕ → Maps → Step → VolCmd → Type 0
IsStepOf Records own m (Park uid) op = (fid : ℕ) × (o : Object) × IsAt m fid o × (uid_of own o ≡ uid) × (op ≡ cmd.Park fid)
IsStepOf Records own m (Erase uid) op = (fid : ℕ) × (o : Object) × IsAt m fid o × (uid_of own o ≡ uid) × (op ≡ cmd.Erase fid)
IsStepOf Records own m (Make uid) op =
    (u : Update) × (bytes : List ℕ) × Records u × (u.uid ≡ uid) × (op ≡ cmd.Make uid (kind_of u) bytes)
IsStepOf Records own m (Rewrite uid) op =
    (fid : ℕ) × (o : Object) × (bytes : List ℕ) × IsAt m fid o × (uid_of own o ≡ uid) × (op ≡ cmd.Rewrite fid bytes)
IsStepOf Records own m (Place uid) op =
    (fid : ℕ) × (o : Object) × (u : Update) × (parent : ℕ) × IsAt m fid o × (uid_of own o ≡ uid) × Records u × (u.uid ≡ uid)
    × IsThere m parent × (u.parent ≡ parent_uid own m parent) × (op ≡ cmd.Place fid parent u.name)
IsStepOf Records own m (Unstage uid) op = ⊥
IsStepOf Records own m (Skip usn) op = ⊥

-- what an operation of the installer takes from the records and the staged contents
abbrev pub IsDue : (Update → Type 0) → ℕ → Maps → (Uid → Option Sum) → VolCmd → Type 0
IsDue Records own m staged (cmd.Park fid) =
    (o : Object) × (p : ℕ × List ℕ) × IsAt m fid o × (o.place ≡ Some p) × (IsInPlace Records own m o p → ⊥)
IsDue Records own m staged (cmd.Erase fid) = (o : Object) × (u : Update) × IsAt m fid o × Records u × (u.uid ≡ uid_of own o) × (u.present ≡ false)
IsDue Records own m staged (cmd.Make uid kind bytes) =
    (u : Update) × IsShown Records u × (u.uid ≡ uid) × (kind ≡ kind_of u)
    × (is_file u ≡ true → (staged uid ≡ Some (content_sum kind bytes)) × (content_sum kind bytes ≡ u.hash))
IsDue Records own m staged (cmd.Rewrite fid bytes) =
    (o : Object) × (u : Update) × IsAt m fid o × Records u × (u.uid ≡ uid_of own o) × (is_file u ≡ true) × (o.sum ≢ u.hash)
    × (staged u.uid ≡ Some (content_sum o.kind bytes)) × (content_sum o.kind bytes ≡ u.hash)
IsDue Records own m staged (cmd.Place fid parent name) =
    (o : Object) × (u : Update) × IsAt m fid o × IsShown Records u × (u.uid ≡ uid_of own o) × (u.parent ≡ parent_uid own m parent) × (u.name ≡ name)
IsDue Records own m staged (cmd.PutNew parent name bytes) = ⊥
IsDue Records own m staged (cmd.PutOver fid bytes) = ⊥
IsDue Records own m staged (cmd.Mkdir parent name) = ⊥
IsDue Records own m staged (cmd.Move fid parent name) = ⊥
IsDue Records own m staged (cmd.Remove fid) = ⊥
