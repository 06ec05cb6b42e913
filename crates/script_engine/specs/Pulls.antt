-- What the parts of a pull do.
use Rattle.std.specs.Prelude.{◌≡◌, ◌⊎◌, ◌&&◌, not, ℕ, Bool, true, false, List, Option, Some, None, Result, Ok, Err, option_map}
use Rattle.frs_base.specs.Options.{In}
use Rattle.frs_base.specs.declared.version.Uid.{Uid}
use Rattle.marshal_form.specs.Local.{IsLocalForm, local}
use Rattle.marshal_form.specs.Spelling.{spelling}
use Rattle.version_vector.specs.Versions.{covers}
use Rattle.version_vector.specs.declared.interval.Interval.{Interval}
use Rattle.win_order.specs.declared.update.Update.{Update}
use Rattle.record_db.specs.Lists.{Lists}
use Rattle.record_db.specs.Records.{Covered, IsHeldOrBeaten, Versions}
use Rattle.name_rules.specs.Tree.{is_file}
use Rattle.pinned_pages.specs.declared.pinned.Pinned.{Pinned}
use Rattle.world_model.specs.World.{World, IsRecordOf}
use Rattle.world_model.specs.Events.{IsAllHeld, IsOfFile, IsOfPage, WasSentVector}
use Rattle.world_model.specs.Rounds.{IsWanted}
use Rattle.world_model.specs.Runs.{Grows}
use Rattle.folder_core.specs.Notes.{form_sum}
use Rattle.script_engine.specs.declared.engine.pulling.Fetched.{Fetched}
use Rattle.script_engine.specs.declared.engine.pulling.Paged.{Paged}
use Rattle.script_engine.specs.declared.engine.Engine.{Engine}
use Rattle.script_engine.specs.declared.refusal.Refusal.{Refusal}
use Rattle.script_engine.specs.declared.refusal.Refusal.TheVariants.{VectorFull}
use Rattle.script_engine.specs.Engines.{Stands}
use Rattle.script_engine.specs.Pulling.{Ends, Gives, IsLastPending, IsTooMuch, Pulls, Takes, TakesFiles, TakesPages, with_given}
use Rattle.script_engine.specs.Scene.{Scene, in_world}
use Rattle.script_engine.specs.Widening.{IsVectorOf}

-- the versions that one vector covers and the other doesn't
abbrev pub unknown : List Interval → List Interval → Versions
unknown sent own g = covers sent g && not (covers own g)

-- the vector and the records of the member
pub record IsPinned (w : World) (d : ℕ) (pinned : Pinned) : Type 0 where
  pub vector : IsVectorOf (w.at d).known pinned.vector
  pub records : Lists (IsRecordOf w d) pinned.records

-- the answer to whether the puller takes an update
abbrev pub Says : Bool → Type 0 → Type 0
Says answer Holds = ((answer ≡ true) × Holds) ⊎ ((answer ≡ false) × (Holds → ⊥))

-- ---- one update

-- the server may send it, and the puller wants it
pub record CanTake (w : World) (puller server : ℕ) (u : Update) : Type 0 where
  pub wanted : IsWanted w puller u
  pub sent : IsOfPage w server u ⊎ IsOfFile w server u

-- it is taken, or the vector would have too many intervals
abbrev pub Took : World → ℕ → ℕ → Update → Result (Unit {0}) Refusal → World → Type 0
Took w puller server u (Ok done) new = Takes w puller server u new
Took w puller server u (Err why) new = (count : ℕ) × IsTooMuch w puller u count × (why ≡ VectorFull count) × (new ≡ w)

-- the form that comes with a present file has its hash, and is one of a local file
abbrev pub HasForm : Update → Option (List ℕ) → Type 0
HasForm u given = is_file u ≡ true → (form : List ℕ) × (contents : List ℕ) × (given ≡ Some form) × (form_sum form ≡ u.hash) × IsLocalForm form contents

-- the scene with what was given, where the update is taken; else as it was
abbrev pub after_taking : Scene → ℕ → Update → Option (List ℕ) → Result (Unit {0}) Refusal → World → Scene
after_taking s puller u given (Ok done) new = with_given s puller u given new
after_taking s puller u given (Err why) new = in_world s new

-- an engine that stands for a scene in which it can be taken
abbrev pub MayTake : Engine → ℕ → ℕ → Update → Type 0
MayTake e puller server u = (s : Scene) × Stands e s × CanTake s.world puller server u

-- ---- pages

-- pages of the vector that the server sent
pub record ArePages (w : World) (server : ℕ) (page : List Update) : Type 0 where
  pub sent : In (record { from = server; versions = (w.at server).known }) w.vectors
  pub each : (u : Update) → In u page → IsRecordOf w server u

-- each update of the pages is listed, or held or beaten, and no other is listed
pub record AreTreated (w : World) (puller : ℕ) (page listed : List Update) : Type 0 where
  pub each : (u : Update) → In u page → In u listed ⊎ IsHeldOrBeaten (IsRecordOf w puller) u
  pub from : (u : Update) → In u listed → In u page

-- the pages are taken, as far as they aren't listed, or one update is refused
abbrev pub PagesTaken : World → ℕ → ℕ → List Update → Result Paged Refusal → World → Type 0
PagesTaken w puller server page (Ok paged) new = TakesPages w puller server page paged.listed.items paged.taken None new × AreTreated new puller page paged.listed.items × Grows w new
PagesTaken w puller server page (Err why) new = (listed : List Update) × (taken : ℕ) × TakesPages w puller server page listed taken (Some why) new

abbrev pub MayPage : Engine → ℕ → List Update → Type 0
MayPage e server page = (s : Scene) × Stands e s × ArePages s.world server page

-- ---- files

-- the server covers them
abbrev pub AreCovered : World → ℕ → List Update → Type 0
AreCovered w server files = (u : Update) → In u files → Covered w.all (w.at server).known u

abbrev pub MayFetch : Engine → ℕ → List Update → Type 0
MayFetch e server files = (s : Scene) × Stands e s × AreCovered s.world server files

-- the form that comes is that of a local file with what was given
abbrev pub IsFormOfGiven : Option (List ℕ) → Option (List ℕ) → Type 0
IsFormOfGiven given form = form ≡ option_map (spelling local) given

-- the server's record of a file with the form of its contents, or the USN of what it has to consume first
abbrev pub FetchedFrom : Scene → ℕ → Uid → Result Fetched ℕ → Type 0
FetchedFrom s server uid (Ok found) = (found.update.uid ≡ uid) × IsOfFile s.world server found.update × HasForm found.update found.form
    × ((given : Option (List ℕ)) × Gives s server found.update given × IsFormOfGiven given found.form)
FetchedFrom s server uid (Err usn) = IsLastPending s.world server uid usn

-- the listed files are taken, or one is refused
abbrev pub FilesTaken : Scene → ℕ → ℕ → List Update → Result ℕ Refusal → Scene → Type 0
FilesTaken s puller server files (Ok taken) new =
    TakesFiles s puller server files taken None new × ((u : Update) → In u files → IsHeldOrBeaten (IsRecordOf new.world puller) u) × Grows s.world new.world
FilesTaken s puller server files (Err why) new = (taken : ℕ) × TakesFiles s puller server files taken (Some why) new

-- ---- the end

-- a vector that was sent, all of whose winners are held or beaten, and so are those of the pages
pub record MayFinish (w : World) (puller : ℕ) (s : Versions) (sent : List Interval) (seen : List Update) : Type 0 where
  pub vector : IsVectorOf s sent
  pub was_sent : WasSentVector w s
  pub held : IsAllHeld w puller s
  pub pages : (u : Update) → In u seen → IsHeldOrBeaten (IsRecordOf w puller) u

abbrev pub MayEnd : Engine → ℕ → List Interval → List Update → Type 0
MayEnd e puller sent seen = (s : Scene) × (versions : Versions) × Stands e s × MayFinish s.world puller versions sent seen

-- the round is finished, or refused
abbrev pub Ended : World → ℕ → Versions → Result (Unit {0}) Refusal → World → Type 0
Ended w puller s (Ok done) new = Ends w puller s None new
Ended w puller s (Err why) new = Ends w puller s (Some why) new

-- ---- the whole

-- so many updates are taken, or it is refused on the way
abbrev pub PullEnds : Scene → ℕ → ℕ → Result ℕ Refusal → Scene → Type 0
PullEnds s puller server (Ok taken) new = Pulls s puller server taken None new
PullEnds s puller server (Err why) new = (taken : ℕ) × Pulls s puller server taken (Some why) new
