-- What is done for a file, so that a kind of step isn't needed for it.
use Rattle.std.specs.Prelude.{◌≡◌, ◌≢◌, ℕ, true, List, Option, Some, None}
use Rattle.frs_base.specs.Versions.{uid_lt}
use Rattle.frs_base.specs.declared.sum.Sum.{Sum}
use Rattle.frs_base.specs.declared.version.Uid.{Uid}
use Rattle.win_order.specs.declared.update.Update.{Update}
use Rattle.vol_state.specs.declared.object.Object.{Object}
use Rattle.vol_state.specs.Maps.{Maps, maps_of}
use Rattle.vol_state.specs.State.{State, uid_of}
use Rattle.vol_state.specs.Tables.{IsAt}
use Rattle.name_rules.specs.Next.{IsCandidate, IsInPlace, IsNext, place_lt, place_of}
use Rattle.name_rules.specs.Shown.{Among}
use Rattle.name_rules.specs.Steps.{subject_of}
use Rattle.name_rules.specs.Tree.{IsShown, is_file}
use Rattle.name_rules.specs.declared.step.Step.{Step}
use Rattle.name_rules.specs.declared.step.Step.TheVariants.{Park, Erase, Make, Rewrite, Place, Unstage, Skip}
use Rattle.name_rules.specs.declared.step.Subject.{Subject}
use Rattle.record_db.specs.State.{BookState}
use Rattle.install_plan.specs.Staged.{staged_hashes}

-- an object of a file has this number
abbrev pub IsObjectOf : ℕ → Maps → Uid → ℕ → Object → Type 0
IsObjectOf own m uid fid o = IsAt m fid o × (uid_of own o ≡ uid)

-- what a kind of step leaves behind is there already
abbrev pub IsDone : (Update → Type 0) → ℕ → Maps → (Uid → Option Sum) → ℕ → Step → Type 0
IsDone Records own m staged consumed (Park uid) =
    (fid : ℕ) (o : Object) (p : ℕ × List ℕ) → IsObjectOf own m uid fid o → o.place ≡ Some p → IsInPlace Records own m o p
IsDone Records own m staged consumed (Erase uid) =
    (fid : ℕ) (o : Object) (u : Update) → IsObjectOf own m uid fid o → Records u → u.uid ≡ uid → u.present ≡ true
IsDone Records own m staged consumed (Make uid) = (u : Update) → IsShown Records u → u.uid ≡ uid → (fid : ℕ) × (o : Object) × IsAt m fid o × (uid_of own o ≡ uid)
IsDone Records own m staged consumed (Rewrite uid) =
    (fid : ℕ) (o : Object) (u : Update) → IsObjectOf own m uid fid o → Records u → u.uid ≡ uid → is_file u ≡ true → o.sum ≡ u.hash
IsDone Records own m staged consumed (Place uid) =
    (fid : ℕ) (o : Object) (u : Update) → IsObjectOf own m uid fid o → o.place ≡ None → IsShown Records u → u.uid ≡ uid → ⊥
IsDone Records own m staged consumed (Unstage uid) = (fid : ℕ) (o : Object) → IsObjectOf own m uid fid o → staged uid ≢ Some o.sum
IsDone Records own m staged consumed (Skip usn) = usn ≡ consumed → m.entry usn ≡ None

-- the step is needed, in a member with this volume and this book
abbrev pub Needs : State → BookState → Step → Type 0
Needs v book step = IsCandidate (Among book.records) v.own (maps_of v) (staged_hashes book) book.consumed step

-- and isn't, since all is done for it
abbrev pub Done : State → BookState → Step → Type 0
Done v book step = IsDone (Among book.records) v.own (maps_of v) (staged_hashes book) book.consumed step

-- the least file for which a kind of step is needed, done for each lower one; where there is none, it is done for all
abbrev pub IsFirst : State → BookState → (Uid → Step) → Option Uid → Type 0
IsFirst v book kind None = (uid : Uid) → Done v book (kind uid)
IsFirst v book kind (Some uid) = Needs v book (kind uid) × ((other : Uid) → uid_lt other uid ≡ true → Done v book (kind other))

-- needed, while each step for a file that comes before it is done
pub record IsDue (v : State) (book : BookState) (step : Step) : Type 0 where
  pub needed : Needs v book step
  pub before : (other : Step) (uid : Uid) → subject_of other ≡ Subject.Uid uid → place_lt (place_of other) (place_of step) ≡ true → Done v book other

-- each step for a file is done, and no journal record is left
pub record IsIdle (v : State) (book : BookState) : Type 0 where
  pub done : (step : Step) (uid : Uid) → subject_of step ≡ Subject.Uid uid → Done v book step
  pub consumed : book.consumed ≡ v.next_usn

-- the next step
abbrev pub IsNextOf : State → BookState → Step → Type 0
IsNextOf v book step = IsNext (Among book.records) v.own (maps_of v) (staged_hashes book) book.consumed step
