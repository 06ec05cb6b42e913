-- What a book keeps.
use Rattle.std.specs.Prelude.{◌≡◌, ◌<◌, ◌≤◌, ℕ, true, List, [], Option, find, length, option_map}
use Rattle.std.specs.List.{AllByRecursion}
use Rattle.frs_base.specs.Versions.{same_uid}
use Rattle.frs_base.specs.declared.kind.MemberKind.{MemberKind}
use Rattle.frs_base.specs.declared.kind.Phase.{Phase}
use Rattle.frs_base.specs.declared.kind.Phase.TheVariants.{Initial}
use Rattle.frs_base.specs.declared.version.Gvsn.{Gvsn}
use Rattle.frs_base.specs.declared.version.Uid.{Uid}
use Rattle.version_vector.specs.Versions.{IsCanonical, covers}
use Rattle.version_vector.specs.declared.interval.Interval.{Interval}
use Rattle.win_order.specs.declared.update.Update.{Update}
use Rattle.record_db.specs.declared.staged.Staged.{Staged}
use Rattle.record_db.specs.Lists.{AreDistinct, IsRising, IsRisingBy}
use Rattle.record_db.specs.Records.{Versions}

-- the member's kind, own database and content set, its records in order of their files, its vector, the USN that it consumes next, how far it has come, and the forms that are staged, in order of their files
pub record BookState : Type 0 where
  pub kind : MemberKind
  pub own : ℕ
  pub set : ℕ
  pub records : List Update
  pub vector : List Interval
  pub consumed : ℕ
  pub phase : Phase
  pub staged : List Staged

-- its state, and how many more records, forms and intervals of the vector need no memory
pub record Seen : Type 0 where
  pub state : BookState
  pub room : ℕ
  pub staged_room : ℕ
  pub vector_room : ℕ

-- a book of a member that has done nothing
abbrev pub fresh_book : MemberKind → ℕ → ℕ → BookState
fresh_book kind own set = record { kind = kind; own = own; set = set; records = []; vector = []; consumed = 9; phase = Initial; staged = [] }

-- the form that is staged of a file
abbrev pub form_of : BookState → Uid → Option (List ℕ)
form_of book uid = option_map (λ s. s.form) (find (λ s. same_uid s.uid uid) book.staged)

-- the one list of intervals that covers just these versions
pub record IsVector (known : Versions) (vector : List Interval) : Type 0 where
  pub canonical : IsCanonical vector
  pub covering : (g : Gvsn) → covers vector g ≡ known g

-- no version of this database is covered from this one on
abbrev pub CoversBelow : ℕ → ℕ → List Interval → Type 0
CoversBelow db next vector = (g : Gvsn) → covers vector g ≡ true → g.db ≡ db → g.version < next

-- what is true of every book: each file has one record at most, of its content set, and of a version that it covers and that no other record has; own versions are covered where they are consumed; each file has one staged form at most
pub record IsBook (book : BookState) : Type 0 where
  pub rising : IsRising book.records
  pub set : AllByRecursion (λ u. u.set ≡ book.set) book.records
  pub covered : AllByRecursion (λ u. covers book.vector u.gvsn ≡ true) book.records
  pub distinct : AreDistinct book.records
  pub made : CoversBelow book.own book.consumed book.vector
  pub canonical : IsCanonical book.vector
  pub within : length book.vector ≤ 65536
  pub staged : IsRisingBy (λ s. s.uid) book.staged
