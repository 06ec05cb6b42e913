-- What holds of every run.
use Rattle.std.specs.Prelude.{◌≡◌, ◌⊎◌, ◌↔◌, ◌<◌, ◌≤◌, ◌+◌, ◌*◌, ◌-◌, ℕ, true, false, All, List, [], Option, length, sum_by, Bool, ◌∷◌, count_by, map}
use Rattle.frs_base.specs.Options.{In}
use Rattle.frs_base.specs.Versions.{same_uid}
use Rattle.frs_base.specs.declared.kind.Kind.{Kind}
use Rattle.frs_base.specs.declared.kind.MemberKind.{MemberKind}
use Rattle.frs_base.specs.declared.sum.Sum.{Sum}
use Rattle.frs_base.specs.declared.version.Gvsn.{Gvsn}
use Rattle.frs_base.specs.declared.version.Uid.{Uid}
use Rattle.win_order.specs.declared.update.Update.{Update}
use Rattle.vol_state.specs.declared.object.Object.{Object}
use Rattle.vol_state.specs.declared.command.VolCmd.{VolCmd}
use Rattle.vol_state.specs.State.{uid_of}
use Rattle.vol_state.specs.Tables.{IsAt}
use Rattle.record_db.specs.Records.{Versions, Covered, IsHeldOrBeaten}
use Rattle.name_rules.specs.Tree.{IsRow, IsVolumeRow, kind_of}
use Rattle.name_rules.specs.Next.{IsAnswer, IsCandidate, IsDrained, IsNext, IsPending, IsQuiet, IsStepOf, IsTurn}
use Rattle.name_rules.specs.declared.step.Next.{Next as InstallNext}
use Rattle.name_rules.specs.declared.step.Step.{Step as InstallStep}
use Rattle.name_rules.specs.declared.step.Step.TheVariants as install_step
use Rattle.world_model.specs.World.{Member, World, SentVector, IsRecordOf, fresh_member, fresh_world}
use Rattle.world_model.specs.Events.{Event, Step, Adopt, Install, Unstage, IsAllHeld, Consume}
use Rattle.world_model.specs.Runs.{CoversAlike, Grows, Happening, Run}
use Rattle.world_model.specs.Invariant.{Invariant, SentIsKnown, VersionsAreMade}
use Rattle.world_model.specs.Folder.{FolderIsSound, FoldersStaySound}
use Rattle.world_model.specs.Rounds.{GoesOn, MayFinish, Polls, Round, RoundIsTrue}
use Rattle.world_model.specs.Due.{Lowers, Sees, View, due}
use Rattle.world_model.specs.Lives.{Act, Deed, Does, FlightsAreKept, IsInFlight, Life, LifeRun, Lives, Restarts, Stops, first_life}

-- ---- the invariant

-- members that have done nothing keep it
abbrev pub FreshWorldsAreSound : Type 0
FreshWorldsAreSound = (kinds : ℕ → MemberKind) → Invariant (fresh_world kinds)

-- every event keeps it
abbrev pub EventsKeepTheInvariant : Type 0
EventsKeepTheInvariant = (w : World) (d : ℕ) (e : Event) (new : World) → Invariant w → Step w d e new → Invariant new

-- so does every run, in which All, what is consumed, covered and sent only grow
abbrev pub RunsKeepTheInvariant : Type 0
RunsKeepTheInvariant = (w : World) (hs : List Happening) (new : World) → Invariant w → Run w hs new → Invariant new × Grows w new

-- All has at most an update for each version that one of the members has consumed
abbrev pub AllIsCounted : Type 0
AllIsCounted = (kinds : ℕ → MemberKind) (members : List ℕ) (hs : List Happening) (new : World) → All (λ h. In h.at members) hs
    → Run (fresh_world kinds) hs new → length new.all ≤ sum_by (λ d. (new.at d).consumed - 9) members

-- ---- records; of a world and a later one, as runs with stops and without give them

-- the same versions
abbrev pub Same : Versions → Versions → Type 0
Same a b = (g : Gvsn) → a g ≡ b g

-- what a vector covers of All doesn't change while All grows
abbrev pub CoverIsStable : Type 0
CoverIsStable = (w new : World) → VersionsAreMade w → Grows w new
    → ((d : ℕ) → CoversAlike w new (w.at d).known) × ((s : SentVector) → In s w.vectors → CoversAlike w new s.versions)

-- each covered update is held, or beaten by a record; a file has one record at most
abbrev pub CoveredIsHeld : Type 0
CoveredIsHeld = (w : World) → VersionsAreMade w → (d : ℕ)
    → ((u : Update) → Covered w.all (w.at d).known u → IsHeldOrBeaten (IsRecordOf w d) u)
    × ((u v : Update) → IsRecordOf w d u → IsRecordOf w d v → u.uid ≡ v.uid → u ≡ v)

-- what a sent vector covers and what is recorded stays covered, and is held or beaten from then on
abbrev pub StaysCovered : Type 0
StaysCovered = (w new : World) → VersionsAreMade w → VersionsAreMade new → SentIsKnown w → Grows w new
    → ((s : SentVector) (g : Gvsn) → In s w.vectors → s.versions g ≡ true → (new.at s.from).known g ≡ true)
    × ((s : SentVector) (u : Update) → In s w.vectors → Covered w.all s.versions u → IsHeldOrBeaten (IsRecordOf new s.from) u)
    × ((u : Update) → In u w.all → ((new.at u.gvsn.db).known u.gvsn ≡ true) × IsHeldOrBeaten (IsRecordOf new u.gvsn.db) u)

-- members that cover the same versions, at one moment or at two, have the same records
abbrev pub EqualVectorsHaveEqualRecords : Type 0
EqualVectorsHaveEqualRecords = (w new : World) → VersionsAreMade w → Grows w new → (i j : ℕ)
    → Same (w.at i).known (new.at j).known → (u : Update) → IsRecordOf w i u ↔ IsRecordOf new j u

-- ---- trees

-- a member is drained
abbrev pub IsDrainedAt : World → ℕ → Type 0
IsDrainedAt w d = IsDrained (IsRecordOf w d) d (w.at d).volume (w.at d).staged (w.at d).consumed

-- the tree of a drained member's volume is the tree of its records
abbrev pub DrainedVolumesAreTrees : Type 0
DrainedVolumesAreTrees = (w : World) → Invariant w → (d : ℕ) → IsDrainedAt w d
    → (path : List (List ℕ)) (kind : Kind) (sum : Sum) → IsVolumeRow (w.at d).volume path kind sum ↔ IsRow (IsRecordOf w d) path kind sum

-- drained members that cover the same versions, at one moment or at two, have the same trees
abbrev pub EqualVectorsHaveEqualTrees : Type 0
EqualVectorsHaveEqualTrees = (w new : World) → Invariant w → Invariant new → Grows w new → (i j : ℕ) → Same (w.at i).known (new.at j).known
    → IsDrainedAt w i → IsDrainedAt new j
    → (path : List (List ℕ)) (kind : Kind) (sum : Sum) → IsVolumeRow (w.at i).volume path kind sum ↔ IsVolumeRow (new.at j).volume path kind sum

-- ---- the installer

-- the operation of a step is done
abbrev pub IsOperated : World → ℕ → InstallStep → World → Type 0
IsOperated w d step new = (op : VolCmd) × IsStepOf (IsRecordOf w d) d (w.at d).volume step op × Step w d (Install op) new

-- a step is done; the last two kinds leave the volume alone, and the last passes over a record of the installer's own
abbrev pub IsDone : World → ℕ → InstallStep → World → Type 0
IsDone w d (install_step.Park file) new = IsOperated w d (install_step.Park file) new
IsDone w d (install_step.Erase file) new = IsOperated w d (install_step.Erase file) new
IsDone w d (install_step.Make file) new = IsOperated w d (install_step.Make file) new
IsDone w d (install_step.Rewrite file) new = IsOperated w d (install_step.Rewrite file) new
IsDone w d (install_step.Place file) new = IsOperated w d (install_step.Place file) new
IsDone w d (install_step.Unstage file) new = Step w d (Unstage file) new
IsDone w d (install_step.Skip usn) new = (moment : ℕ) × (usn ≡ (w.at d).consumed) × IsQuiet (w.at d).consumed (w.at d).volume × Step w d (Consume moment) new

-- each next step can be done
abbrev pub NextStepsCanBeDone : Type 0
NextStepsCanBeDone = (w : World) → Invariant w → (d : ℕ) → IsQuiet (w.at d).consumed (w.at d).volume → (step : InstallStep)
    → IsTurn (IsRecordOf w d) d (w.at d).volume (w.at d).staged step → IsCandidate (IsRecordOf w d) d (w.at d).volume (w.at d).staged (w.at d).consumed step
    → (new : World) × IsDone w d step new

-- no operation of the installer changes an object with a pending local record
abbrev pub PendingObjectsStay : Type 0
PendingObjectsStay = (w : World) (d : ℕ) (op : VolCmd) (new : World) → Step w d (Install op) new
    → (fid : ℕ) (o : Object) → IsAt (w.at d).volume fid o → IsPending (w.at d).consumed (w.at d).volume (uid_of d o) → IsAt (new.at d).volume fid o

-- ---- rounds

-- a round begins true, each of its acts keeps it true, and so does what happens at other members or here meanwhile
pub record RoundsAreTrue (w : World) (puller server : ℕ) : Type 0 where
  pub begins : (new : World) (r : Round) → Polls w puller server new r → RoundIsTrue new puller server r
  pub goes_on : (r : Round) (new : World) (after : Round) → RoundIsTrue w puller server r → GoesOn w puller server r new after → RoundIsTrue new puller server after
  pub stays : (r : Round) (d : ℕ) (e : Event) (new : World) → RoundIsTrue w puller server r → Step w d e new → RoundIsTrue new puller server r

-- so it is in every world that keeps the invariant
abbrev pub RoundsStayTrue : Type 0
RoundsStayTrue = (w : World) → Invariant w → (puller server : ℕ) → RoundsAreTrue w puller server

-- a round in which nothing is asked for or listed holds or beats all of its vector, so it may be finished
abbrev pub FinishedRoundsAreHeld : Type 0
FinishedRoundsAreHeld = (w : World) (puller server : ℕ) (r : Round) → RoundIsTrue w puller server r → MayFinish w r → IsAllHeld w puller r.versions

-- ---- adoptions

-- an update that is adopted isn't covered, isn't ahead of its own member, and is of its file's kind
pub record IsFitToAdopt (w : World) (d : ℕ) (u : Update) : Type 0 where
  pub new : (w.at d).known u.gvsn ≡ false
  pub version_ahead : u.gvsn.db ≡ d → u.gvsn.version < (w.at d).consumed
  pub file_ahead : u.uid.db ≡ d → u.uid.version < (w.at d).consumed
  pub kinds : (v : Update) → IsRecordOf w d v → v.uid ≡ u.uid → kind_of v ≡ kind_of u
  pub object_kind : (fid : ℕ) (o : Object) → IsAt (w.at d).volume fid o → uid_of d o ≡ u.uid → o.kind ≡ kind_of u

-- so is each in a run
abbrev pub AdoptionsAreFit : Type 0
AdoptionsAreFit = (w : World) (d : ℕ) (u : Update) (new : World) → Invariant w → Step w d (Adopt u) new → IsFitToAdopt w d u

-- a member alone that has done nothing is sound
abbrev pub FoldersBeginSound : Type 0
FoldersBeginSound = (own : ℕ) (kind : MemberKind) → FolderIsSound own (fresh_member kind) []

-- a member alone stays sound, whatever its partners send
abbrev pub AllFoldersStaySound : Type 0
AllFoldersStaySound = (own : ℕ) (x : Member) (records : List Update) → FolderIsSound own x records → FoldersStaySound own x records

-- ---- stops and restarts

-- where every member is up, no event is in flight
abbrev pub FirstLivesAreKept : Type 0
FirstLivesAreKept = (w : World) → FlightsAreKept (first_life w)

-- every life keeps the invariant, All and what is covered only grow, and each event in flight can land as it would have then
abbrev pub LivesAreSound : Type 0
LivesAreSound = (l : Life) (ds : List Deed) (new : Life) → Invariant l.world → FlightsAreKept l → LifeRun l ds new
    → Invariant new.world × Grows l.world new.world × FlightsAreKept new

-- a member that is down with an event in flight may start with it, and it has the change of its member that it would have had
abbrev pub FlightsCanLand : Type 0
FlightsCanLand = (l : Life) (d : ℕ) (e : Event) (after : Member) → l.down d ≡ Option.Some (Option.Some e) → IsInFlight l d e after
    → (landed : Life) × Lives l d (Restarts true) landed × (landed.world.at d ≡ after)

-- a member stops and starts at any time
pub record StopsAndStarts (l : Life) (d : ℕ) : Type 0 where
  -- one that is up may stop with no event in flight
  pub stops : l.down d ≡ Option.None → (new : Life) × Lives l d (Stops Option.None) new
  -- or with each that may come
  pub in_flight : (e : Event) (w : World) → l.down d ≡ Option.None → Step l.world d e w → (new : Life) × Lives l d (Stops (Option.Some e)) new
  -- one that is down may start without what was in flight
  pub starts : (flight : Option Event) → l.down d ≡ Option.Some flight → (new : Life) × Lives l d (Restarts false) new

-- so does every member
abbrev pub MembersStopAndStart : Type 0
MembersStopAndStart = (l : Life) (d : ℕ) → StopsAndStarts l d

-- each event is at the member of one of these acts
abbrev pub AreAtMembersOf : List Happening → List Deed → Type 0
AreAtMembersOf hs ds = (h : Happening) → In h hs → (a : Deed) × In a ds × (a.at ≡ h.at)

-- what a run with stops leads to, a run without them leads to
abbrev pub LivesAreRuns : Type 0
LivesAreRuns = (l : Life) (ds : List Deed) (new : Life) → LifeRun l ds new → (hs : List Happening) × Run l.world hs new.world × AreAtMembersOf hs ds

-- an event as an act
abbrev pub deed_of : Happening → Deed
deed_of h = record { at = h.at; act = Does h.event }

-- and a run without stops is a run with them
abbrev pub RunsAreLives : Type 0
RunsAreLives = (w : World) (hs : List Happening) (new : World) → Run w hs new → LifeRun (first_life w) (map deed_of hs) (first_life new)

-- so All is counted where members stop and start, too
abbrev pub AllIsCountedInLives : Type 0
AllIsCountedInLives = (kinds : ℕ → MemberKind) (members : List ℕ) (ds : List Deed) (new : Life) → All (λ a. In a.at members) ds
    → LifeRun (first_life (fresh_world kinds)) ds new → length new.world.all ≤ sum_by (λ d. (new.world.at d).consumed - 9) members

-- an event leads to one world
abbrev pub EventsAreOne : Type 0
EventsAreOne = (w : World) → VersionsAreMade w → (d : ℕ) (e : Event) (a b : World) → Step w d e a → Step w d e b → a ≡ b

-- and an act to one life: an event in flight lands in one way
abbrev pub ActsAreOne : Type 0
ActsAreOne = (l : Life) → VersionsAreMade l.world → (d : ℕ) (act : Act) (a b : Life) → Lives l d act a → Lives l d act b → a ≡ b

-- ---- how much is due

-- what a file's view sees at a member
abbrev pub SeesAt : World → ℕ → Uid → View → Type 0
SeesAt w d uid v = Sees (IsRecordOf w d) d (w.at d).volume (w.at d).staged uid v

-- each file of every world that keeps the invariant has a view
abbrev pub ViewsAreThere : Type 0
ViewsAreThere = (w : World) → Invariant w → (d : ℕ) (uid : Uid) → (v : View) × SeesAt w d uid v

-- at most four things are due for a file
abbrev pub AtMostFourAreDue : Type 0
AtMostFourAreDue = (w : World) → Invariant w → (d : ℕ) (uid : Uid) (v : View) → SeesAt w d uid v → due v ≤ 4

-- the step is for this file; the last kind is for none
abbrev pub is_for : InstallStep → Uid → Bool
is_for (install_step.Park file) uid = same_uid file uid
is_for (install_step.Erase file) uid = same_uid file uid
is_for (install_step.Make file) uid = same_uid file uid
is_for (install_step.Rewrite file) uid = same_uid file uid
is_for (install_step.Place file) uid = same_uid file uid
is_for (install_step.Unstage file) uid = same_uid file uid
is_for (install_step.Skip usn) uid = false

-- each step that is done lowers what is due for its file, and raises it for none
abbrev pub StepsLowerWhatIsDue : Type 0
StepsLowerWhatIsDue = (w : World) → Invariant w → (d : ℕ) (step : InstallStep) (new : World) → IsDone w d step new → Lowers (SeesAt w d) (SeesAt new d) (is_for step)

-- steps are done at a member, one after the other
abbrev pub AreDone : World → ℕ → List InstallStep → World → Type 0
AreDone w d [] new = new ≡ w
AreDone w d (step ∷ steps) new = (mid : World) × IsDone w d step mid × AreDone mid d steps new

-- so at most four are done for a file, where nothing else happens between them
abbrev pub AtMostFourAreDone : Type 0
AtMostFourAreDone = (w : World) → Invariant w → (d : ℕ) (steps : List InstallStep) (new : World) → AreDone w d steps new → (uid : Uid) → count_by (λ step. is_for step uid) steps ≤ 4

-- the files of a list are all that a member has a record or an object of
pub record HasAll (w : World) (d : ℕ) (uids : List Uid) : Type 0 where
  pub records : (u : Update) → IsRecordOf w d u → In u.uid uids
  pub objects : (fid : ℕ) (o : Object) → IsAt (w.at d).volume fid o → In (uid_of d o) uids

-- each member has such a list
abbrev pub FilesAreListed : Type 0
FilesAreListed = (w : World) → Invariant w → (d : ℕ) → (uids : List Uid) × HasAll w d uids

-- so many steps end a drain: eight for each file, and one for each journal record that is left
abbrev pub DrainsEnd : Type 0
DrainsEnd = (w : World) → Invariant w → (d : ℕ) (uids : List Uid) → HasAll w d uids → (steps : List InstallStep) (new : World) → AreDone w d steps new
    → length steps ≤ 8 * length uids + ((w.at d).volume.next_usn - (w.at d).consumed)

-- ---- drained members

-- where no local record is pending, all is consumed and nothing is due for any file, a member is drained
abbrev pub DrainedWhereNothingIsDue : Type 0
DrainedWhereNothingIsDue = (w : World) → Invariant w → (d : ℕ) → IsQuiet (w.at d).consumed (w.at d).volume → (w.at d).consumed ≡ (w.at d).volume.next_usn
    → ((uid : Uid) (v : View) → SeesAt w d uid v → due v ≡ 0) → IsDrainedAt w d

-- so is one that has done nothing
abbrev pub FreshMembersAreDrained : Type 0
FreshMembersAreDrained = (kinds : ℕ → MemberKind) (d : ℕ) → IsDrainedAt (fresh_world kinds) d

-- ---- the next step

-- the next step of a member
abbrev pub IsNextAt : World → ℕ → InstallStep → Type 0
IsNextAt w d step = IsNext (IsRecordOf w d) d (w.at d).volume (w.at d).staged (w.at d).consumed step

-- a member with no pending local record is drained, or has a next step, whose turn it is
abbrev pub QuietMembersGoOn : Type 0
QuietMembersGoOn = (w : World) → Invariant w → (d : ℕ) → IsQuiet (w.at d).consumed (w.at d).volume
    → IsDrainedAt w d ⊎ ((step : InstallStep) × IsNextAt w d step × IsTurn (IsRecordOf w d) d (w.at d).volume (w.at d).staged step)

-- it has one at most
abbrev pub NextStepsAreOne : Type 0
NextStepsAreOne = (w : World) (d : ℕ) (a b : InstallStep) → IsNextAt w d a → IsNextAt w d b → a ≡ b

-- a drained member has none
abbrev pub DrainedMembersHaveNone : Type 0
DrainedMembersHaveNone = (w : World) → Invariant w → (d : ℕ) → IsDrainedAt w d → (step : InstallStep) → IsNextAt w d step → ⊥

-- what a member answers when it is asked for its next step
abbrev pub IsAnswerAt : World → ℕ → InstallNext → Type 0
IsAnswerAt w d next = IsAnswer (IsRecordOf w d) d (w.at d).volume (w.at d).staged (w.at d).consumed next

-- each member has one answer, and no other
abbrev pub MembersHaveOneAnswer : Type 0
MembersHaveOneAnswer = (w : World) → Invariant w → (d : ℕ) → (next : InstallNext) × IsAnswerAt w d next × ((other : InstallNext) → IsAnswerAt w d other → other ≡ next)
