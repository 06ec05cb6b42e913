-- What comes of a pull.
use Rattle.std.specs.Prelude.{◌≡◌, ◌⊎◌, ◌≤◌, ℕ, true, false, List, [], ◌∷◌, ◌+◌, MatchBool, MatchOption, Option, Some, None}
use Rattle.frs_base.specs.Options.{In}
use Rattle.frs_base.specs.declared.version.Uid.{Uid}
use Rattle.win_order.specs.declared.update.Update.{Update}
use Rattle.vol_state.specs.declared.object.Object.{Object}
use Rattle.vol_state.specs.declared.record.VolRecord.{VolRecord}
use Rattle.vol_state.specs.State.{uid_of}
use Rattle.vol_state.specs.Tables.{IsAt}
use Rattle.record_db.specs.Records.{Versions, both, plus}
use Rattle.pinned_pages.specs.Pages.{IsByVersion}
use Rattle.name_rules.specs.Tree.{is_file}
use Rattle.world_model.specs.World.{World, IsRecordOf}
use Rattle.world_model.specs.Events.{Step, SendVector, SendUpdate, Adopt, Finish, IsOfFile}
use Rattle.world_model.specs.Rounds.{IsWanted}
use Rattle.script_engine.specs.declared.refusal.Refusal.{Refusal}
use Rattle.script_engine.specs.declared.refusal.Refusal.TheVariants.{NotYet, VectorFull}
use Rattle.script_engine.specs.Scene.{Scene, in_world, with_contents}
use Rattle.script_engine.specs.Widening.{Exceeds, Fits}

-- ---- pages

-- the server's records whose versions the puller doesn't cover, in order of their versions
pub record IsAsked (w : World) (puller server : ℕ) (page : List Update) : Type 0 where
  pub ordered : IsByVersion page
  pub each : (u : Update) → In u page → IsRecordOf w server u × ((w.at puller).known u.gvsn ≡ false)
  pub whole : (u : Update) → IsRecordOf w server u → (w.at puller).known u.gvsn ≡ false → In u page

-- ---- adoptions

-- the server sends an update, and the puller adopts it
abbrev pub Takes : World → ℕ → ℕ → Update → World → Type 0
Takes w puller server u new = Fits (plus (w.at puller).known u.gvsn) × (mid : World) × Step w server (SendUpdate u) mid × Step mid puller (Adopt u) new

-- the puller can't adopt it, since its vector would have so many intervals
abbrev pub IsTooMuch : World → ℕ → Update → ℕ → Type 0
IsTooMuch w puller u count = IsWanted w puller u × Exceeds (plus (w.at puller).known u.gvsn) count

-- the last local record of a file that the member hasn't consumed
pub record IsLastPending (w : World) (d : ℕ) (uid : Uid) (usn : ℕ) : Type 0 where
  pub pending : (r : VolRecord) × ((w.at d).consumed ≤ usn) × ((w.at d).volume.entry usn ≡ Some r) × (r.local ≡ true) × (r.uid ≡ uid)
  pub last : (n : ℕ) (r : VolRecord) → (w.at d).consumed ≤ n → (w.at d).volume.entry n ≡ Some r → r.local ≡ true → r.uid ≡ uid → n ≤ usn

-- ---- one after the other

-- the pages: what doesn't beat the puller's record is passed, present files are listed, directories and tombstones are taken; so many are taken
abbrev pub TakesPages : World → ℕ → ℕ → List Update → List Update → ℕ → Option Refusal → World → Type 0
TakesPages w puller server [] listed taken why new = (listed ≡ []) × (taken ≡ 0) × (why ≡ None) × (new ≡ w)
TakesPages w puller server (u ∷ us) listed taken why new =
    ((IsWanted w puller u → ⊥) × TakesPages w puller server us listed taken why new)
    ⊎ ((IsWanted w puller u × (is_file u ≡ true) × (more : List Update) × (listed ≡ u ∷ more) × TakesPages w puller server us more taken why new)
    ⊎ (((is_file u ≡ false) × (mid : World) × (others : ℕ) × Takes w puller server u mid × TakesPages mid puller server us listed others why new × (taken ≡ others + 1))
    ⊎ ((is_file u ≡ false) × (count : ℕ) × IsTooMuch w puller u count × (new ≡ w) × (listed ≡ []) × (taken ≡ 0) × (why ≡ Some (VectorFull count)))))

-- the contents of a file at a member: what is staged, else those of its object
abbrev pub ContentsAt : Scene → ℕ → Uid → List ℕ → Type 0
ContentsAt s d uid bytes = MatchOption ((s.world.at d).staged uid)
    ((fid : ℕ) × (o : Object) × IsAt (s.world.at d).volume fid o × (uid_of d o ≡ uid) × (bytes ≡ o.bytes))
    (λ sum. bytes ≡ s.contents d uid)

-- what a member gives with its record of a file: the contents of a present file, nothing with all else
abbrev pub Gives : Scene → ℕ → Update → Option (List ℕ) → Type 0
Gives s d u given = MatchBool (is_file u) ((bytes : List ℕ) × ContentsAt s d u.uid bytes × (given ≡ Some bytes)) (given ≡ None)

-- the scene in which a member adopted an update with what was given
abbrev pub with_given : Scene → ℕ → Update → Option (List ℕ) → World → Scene
with_given s d u given w = record s { world = w; contents = with_contents s.contents d u.uid given }

-- the listed files: what doesn't beat the puller's record any more is passed, the others are fetched with their contents, unless a local record of the file isn't consumed at the server
abbrev pub TakesFiles : Scene → ℕ → ℕ → List Update → ℕ → Option Refusal → Scene → Type 0
TakesFiles s puller server [] taken why new = (taken ≡ 0) × (why ≡ None) × (new ≡ s)
TakesFiles s puller server (u ∷ us) taken why new =
    ((IsWanted s.world puller u → ⊥) × TakesFiles s puller server us taken why new)
    ⊎ ((IsWanted s.world puller u × (usn : ℕ) × IsLastPending s.world server u.uid usn × (taken ≡ 0) × (why ≡ Some (NotYet usn)) × (new ≡ s))
    ⊎ (((v : Update) × (given : Option (List ℕ)) × (mid : World) × (others : ℕ) × IsWanted s.world puller u × (v.uid ≡ u.uid) × IsOfFile s.world server v
    × Gives s server v given × Takes s.world puller server v mid × TakesFiles (with_given s puller v given mid) puller server us others why new × (taken ≡ others + 1))
    ⊎ ((v : Update) × (count : ℕ) × IsWanted s.world puller u × (v.uid ≡ u.uid) × IsOfFile s.world server v × IsTooMuch s.world puller v count × (new ≡ s)
    × (taken ≡ 0) × (why ≡ Some (VectorFull count)))))

-- the end of the round: all of the vector that was sent is covered, unless that has too many intervals
abbrev pub Ends : World → ℕ → Versions → Option Refusal → World → Type 0
Ends w puller s why new =
    (Fits (both (w.at puller).known s) × Step w puller (Finish s) new × (why ≡ None))
    ⊎ ((count : ℕ) × Exceeds (both (w.at puller).known s) count × (why ≡ Some (VectorFull count)) × (new ≡ w))

-- what comes next where nothing was refused
abbrev pub GoesOn : {X : Type 0} → Option Refusal → X → (X → Option Refusal → X → Type 0) → Option Refusal → X → Type 0
GoesOn None mid next why new = next mid why new
GoesOn (Some refused) mid next why new = (why ≡ Some refused) × (new ≡ mid)

-- behind the pages come all files, then the end
abbrev pub Rest : ℕ → ℕ → Versions → List Update → ℕ → Scene → Option Refusal → Scene → Type 0
Rest puller server s listed fetched paged why new = (second : Option Refusal) × (last : Scene) × TakesFiles paged puller server listed fetched second last
    × GoesOn second last (λ filed why new. (w : World) × Ends filed.world puller s why w × (new ≡ in_world filed w)) why new

-- a pull: the server's vector is sent, then come all pages, all files and the end; so many updates are taken, or it is refused on the way
abbrev pub Pulls : Scene → ℕ → ℕ → ℕ → Option Refusal → Scene → Type 0
Pulls s puller server taken why new =
    (sent : World) × (page : List Update) × (listed : List Update) × (at_once : ℕ) × (fetched : ℕ) × (first : Option Refusal) × (mid : World)
    × Step s.world server SendVector sent × IsAsked s.world puller server page × TakesPages sent puller server page listed at_once first mid
    × GoesOn first (in_world s mid) (Rest puller server (s.world.at server).known listed fetched) why new
    × (taken ≡ at_once + fetched)
