-- What the installer has still to look at, while the records stay the same.
use Rattle.std.specs.Prelude.{◌≡◌, ◌⊎◌, Bool, true, false, List, [], ◌∷◌, Option, Some, None, MatchOption}
use Rattle.frs_base.specs.Options.{In}
use Rattle.frs_base.specs.Versions.{uid_lt}
use Rattle.frs_base.specs.declared.version.Uid.{Uid}
use Rattle.vol_state.specs.Maps.{maps_of}
use Rattle.vol_state.specs.State.{State}
use Rattle.name_rules.specs.Next.{IsQuiet, place_lt, place_of}
use Rattle.name_rules.specs.Shown.{AreShown}
use Rattle.name_rules.specs.Steps.{subject_of}
use Rattle.name_rules.specs.declared.step.Step.{Step}
use Rattle.name_rules.specs.declared.step.Subject.{Subject}
use Rattle.record_db.specs.State.{BookState}
use Rattle.install_plan.specs.Done.{Done}

-- the files whose records are shown, the files to look at, and the step that was answered last
pub record Agenda : Type 0 where
  pub shown : List Uid
  pub uids : List Uid
  pub last : Option Step

-- none is lower than one before it
abbrev pub AreInOrder : List Uid → Type 0
AreInOrder [] = Unit {0}
AreInOrder (uid ∷ uids) = ((other : Uid) → In other uids → uid_lt other uid ≡ false) × AreInOrder uids

-- a step comes before the one that was answered last, if there was one
abbrev pub comes_before : Step → Option Step → Bool
comes_before step None = false
comes_before step (Some last) = place_lt (place_of step) (place_of last)

-- no local journal record is pending; each step for a file that isn't to be looked at is done, and each that comes before the last one
pub record IsAgenda (v : State) (book : BookState) (a : Agenda) : Type 0 where
  pub shown : AreShown book.records a.shown
  pub ordered : AreInOrder a.uids
  pub quiet : IsQuiet book.consumed (maps_of v)
  pub others : (step : Step) (uid : Uid) → subject_of step ≡ Subject.Uid uid → In uid a.uids ⊎ Done v book step
  pub passed : (step : Step) (uid : Uid) → subject_of step ≡ Subject.Uid uid → comes_before step a.last ≡ true → Done v book step

-- an agenda, if there is one, is of this volume and this book
abbrev pub IsPlanned : State → BookState → Option Agenda → Type 0
IsPlanned v book agenda = MatchOption agenda (Unit {0}) (λ a. IsAgenda v book a)

-- the agenda says that this step was answered last
abbrev pub IsLast : Step → Option Agenda → Type 0
IsLast step agenda = MatchOption agenda ⊥ (λ a. a.last ≡ Some step)
