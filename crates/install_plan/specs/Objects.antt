-- What an object is to be changed for, and what it needs no change for.
use Rattle.std.specs.Prelude.{◌≡◌, ◌≢◌, ℕ, true, false, List, Some, None}
use Rattle.frs_base.specs.Options.{In}
use Rattle.frs_base.specs.declared.version.Uid.{Uid}
use Rattle.win_order.specs.declared.update.Update.{Update}
use Rattle.vol_state.specs.declared.object.Object.{Object}
use Rattle.vol_state.specs.Maps.{maps_of}
use Rattle.vol_state.specs.State.{State, uid_of}
use Rattle.vol_state.specs.Tables.{IsAt}
use Rattle.name_rules.specs.Next.{IsInPlace}
use Rattle.name_rules.specs.Shown.{Among}
use Rattle.name_rules.specs.Tree.{IsShown, is_file}
use Rattle.record_db.specs.State.{BookState}
use Rattle.install_plan.specs.Staged.{staged_hashes}

-- the record of a file
abbrev pub IsOf : List Update → Uid → Update → Type 0
IsOf records uid u = In u records × (u.uid ≡ uid)

-- the record of a file, which is shown
abbrev pub IsShownOf : List Update → Uid → Update → Type 0
IsShownOf records uid u = IsShown (Among records) u × (u.uid ≡ uid)

-- the object is placed elsewhere than its record is shown
abbrev pub IsAstray : State → List Update → Object → Type 0
IsAstray v records o = (p : ℕ × List ℕ) × (o.place ≡ Some p) × (IsInPlace (Among records) v.own (maps_of v) o p → ⊥)

-- where it is placed, its record is shown
abbrev pub IsHome : State → List Update → Object → Type 0
IsHome v records o = (p : ℕ × List ℕ) → o.place ≡ Some p → IsInPlace (Among records) v.own (maps_of v) o p

-- its record is a tombstone
abbrev pub IsRemoved : State → List Update → Object → Type 0
IsRemoved v records o = (u : Update) × IsOf records (uid_of v.own o) u × (u.present ≡ false)

-- its record, if any, is present
abbrev pub IsPresent : State → List Update → Object → Type 0
IsPresent v records o = (u : Update) → IsOf records (uid_of v.own o) u → u.present ≡ true

-- its record is of a present file with another sum
abbrev pub IsOutdated : State → List Update → Object → Type 0
IsOutdated v records o = (u : Update) × IsOf records (uid_of v.own o) u × (is_file u ≡ true) × (o.sum ≢ u.hash)

-- it has the sum of its record, if that is of a present file
abbrev pub IsUpToDate : State → List Update → Object → Type 0
IsUpToDate v records o = (u : Update) → IsOf records (uid_of v.own o) u → is_file u ≡ true → o.sum ≡ u.hash

-- it is in limbo, and its record is shown
abbrev pub IsAwaited : State → List Update → Object → Type 0
IsAwaited v records o = (o.place ≡ None) × ((u : Update) × IsShownOf records (uid_of v.own o) u)

-- what is staged of its file has its sum
abbrev pub IsInstalled : State → BookState → Object → Type 0
IsInstalled v book o = staged_hashes book (uid_of v.own o) ≡ Some o.sum

-- no kind of step is needed for it
pub record IsSettled (v : State) (book : BookState) (o : Object) : Type 0 where
  pub home : IsHome v book.records o
  pub present : IsPresent v book.records o
  pub current : IsUpToDate v book.records o
  pub placed : IsAwaited v book.records o → ⊥
  pub cleared : IsInstalled v book o → ⊥

-- a file has an object
abbrev pub HasObject : State → Uid → Type 0
HasObject v uid = (fid : ℕ) × (o : Object) × IsAt (maps_of v) fid o × (uid_of v.own o ≡ uid)
