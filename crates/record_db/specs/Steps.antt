-- What each command makes of a book.
use Rattle.std.specs.Prelude.{◌≡◌, ◌<◌, ◌≤◌, ◌+◌, ◌-◌, ◌^◌, ◌&&◌, ◌==◌, not, nat_le, nat_lt, ℕ, Bool, true, false, List, length, find, is_none, MatchOption, Option, Some, None, option_map}
use Rattle.std.specs.Bool.{beq}
use Rattle.frs_base.specs.Options.{none_or}
use Rattle.frs_base.specs.Versions.{same_gvsn, same_uid}
use Rattle.frs_base.specs.declared.kind.Phase.{Phase}
use Rattle.frs_base.specs.declared.kind.Phase.TheVariants.{Normal}
use Rattle.frs_base.specs.declared.version.Gvsn.{Gvsn}
use Rattle.version_vector.specs.Limits.{IsTooLong}
use Rattle.version_vector.specs.Places.{one_version}
use Rattle.version_vector.specs.Unions.{inserted}
use Rattle.version_vector.specs.Versions.{IsCanonical, covers}
use Rattle.version_vector.specs.declared.errors.VectorError.{VectorError}
use Rattle.version_vector.specs.declared.errors.VectorError.TheVariants.{VectorFull, Memory}
use Rattle.version_vector.specs.declared.interval.Interval.{Interval}
use Rattle.win_order.specs.Order.{is_directory, key_lt, key_of}
use Rattle.win_order.specs.declared.update.Update.{Update}
use Rattle.record_db.specs.declared.command.BookCmd.{BookCmd}
use Rattle.record_db.specs.declared.command.BookCmd.TheVariants.{RecordLocal, Adopt, Finish, Unstage}
use Rattle.record_db.specs.declared.command.Ready.{Ready}
use Rattle.record_db.specs.Lists.{put_any}
use Rattle.record_db.specs.Records.{Versions, both, plus}
use Rattle.record_db.specs.Staged.{form_brought, staged_after, staged_by}
use Rattle.record_db.specs.State.{BookState, CoversBelow, IsVector, Seen}

-- a version of the book's own database
abbrev pub own_version : BookState → ℕ → Gvsn
own_version book usn = record { db = book.own; version = usn }

-- a version that has one after it
abbrev pub has_next : ℕ → Bool
has_next version = nat_lt version (2 ^ 64 - 1)

-- a version of the own database that isn't consumed
abbrev pub is_ahead : BookState → ℕ → ℕ → Bool
is_ahead book db version = db == book.own && nat_le book.consumed version

-- an interval of the database reaches past the version
abbrev pub is_past : ℕ → ℕ → Interval → Bool
is_past db version i = i.db == db && nat_lt version i.high

-- an update takes the place of a record of its kind that has a smaller key
abbrev pub gives_way : Update → Update → Bool
gives_way u held = beq (is_directory held) (is_directory u) && key_lt (key_of held) (key_of u)

-- a local update is of the own version with the USN that is consumed next
abbrev pub may_record : ℕ → Option Update → BookState → Bool
may_record usn update book = usn == book.consumed && (has_next usn && none_or (λ u. same_gvsn u.gvsn (own_version book usn)) update)

-- a partner's update: neither its version nor its file is an own one that isn't consumed, its version is new, and the record of its file gives way
abbrev pub may_adopt : Update → BookState → Bool
may_adopt u book =
    has_next u.gvsn.version
    && (not (is_ahead book u.gvsn.db u.gvsn.version)
    && (not (is_ahead book u.uid.db u.uid.version)
    && (not (covers book.vector u.gvsn)
    && none_or (gives_way u) (find (λ r. same_uid r.uid u.uid) book.records))))

-- a round: its vector covers no own version that isn't consumed
abbrev pub may_finish : List Interval → BookState → Bool
may_finish sent book = is_none (find (is_past book.own book.consumed) sent)

-- the condition of each command
abbrev pub is_allowed : BookCmd → BookState → Bool
is_allowed (RecordLocal usn update) book = may_record usn update book
is_allowed (Adopt update form) book = may_adopt update book
is_allowed (Finish sent) book = may_finish sent book
is_allowed (Unstage uid) book = true

-- the update that a command puts among the records
abbrev pub update_of : BookCmd → Option Update
update_of (RecordLocal usn update) = update
update_of (Adopt update form) = Some update
update_of (Finish sent) = None
update_of (Unstage uid) = None

-- the update as one of this content set
abbrev pub in_set : ℕ → Update → Update
in_set set u = record u { set = set }

-- the versions that are covered afterwards
abbrev pub covered_after : BookCmd → BookState → Versions
covered_after (RecordLocal usn update) book = plus (covers book.vector) (own_version book usn)
covered_after (Adopt update form) book = plus (covers book.vector) update.gvsn
covered_after (Finish sent) book = both (covers book.vector) (covers sent)
covered_after (Unstage uid) book = covers book.vector

-- the USN that is consumed next afterwards
abbrev pub consumed_after : BookCmd → ℕ → ℕ
consumed_after (RecordLocal usn update) consumed = usn + 1
consumed_after (Adopt update form) consumed = consumed
consumed_after (Finish sent) consumed = consumed
consumed_after (Unstage uid) consumed = consumed

-- the first finished round ends the initial phase
abbrev pub phase_after : BookCmd → Phase → Phase
phase_after (RecordLocal usn update) phase = phase
phase_after (Adopt update form) phase = phase
phase_after (Finish sent) phase = Normal
phase_after (Unstage uid) phase = phase

-- what a command makes of a book
pub record Changes (cmd : BookCmd) (old new : BookState) : Type 0 where
  pub kind : new.kind ≡ old.kind
  pub own : new.own ≡ old.own
  pub set : new.set ≡ old.set
  pub records : new.records ≡ put_any (option_map (in_set old.set) (update_of cmd)) old.records
  pub vector : IsVector (covered_after cmd old) new.vector
  pub consumed : new.consumed ≡ consumed_after cmd old.consumed
  pub phase : new.phase ≡ phase_after cmd old.phase
  pub staged : new.staged ≡ staged_after cmd old.staged

-- a command whose condition doesn't hold changes nothing
pub record IsStep (cmd : BookCmd) (old new : BookState) : Type 0 where
  pub done : is_allowed cmd old ≡ true → Changes cmd old new
  pub passed : is_allowed cmd old ≡ false → new ≡ old

-- all that the first list covers the second covers
abbrev pub CoversMore : List Interval → List Interval → Type 0
CoversMore less more = (g : Gvsn) → covers less g ≡ true → covers more g ≡ true

-- the version of the update, if there is one, is covered now and wasn't before
abbrev pub CoversNew : List Interval → List Interval → Option Update → Type 0
CoversNew less more update = MatchOption update (Unit {0}) (λ u. (covers more u.gvsn ≡ true) × (covers less u.gvsn ≡ false))

-- the book with a version covered, the journal consumed so far, and the update put of whose file this form is staged
abbrev pub covered_with : BookState → Gvsn → ℕ → Option Update → Option (List ℕ) → BookState
covered_with book g next put form = record book {
  records = put_any put book.records;
  vector = inserted (one_version g) book.vector;
  consumed = next;
  staged = staged_by put form book.staged;
}

-- the update, if there is one, is of the book's content set
abbrev pub IsOfSet : BookState → Option Update → Type 0
IsOfSet book put = MatchOption put (Unit {0}) (λ u. u.set ≡ book.set)

-- a book may have this wider vector and this update, once it has consumed so far
pub record Widens (book : BookState) (vector : List Interval) (next : ℕ) (update : Option Update) : Type 0 where
  pub set : IsOfSet book update
  pub canonical : IsCanonical vector
  pub within : length vector ≤ 65536
  pub wider : CoversMore book.vector vector
  pub new : CoversNew book.vector vector update
  pub made : CoversBelow book.own next vector

-- one version more is covered without memory, and the vector isn't too long then
pub record HasRoomFor (g : Gvsn) (book : Seen) : Type 0 where
  pub room : 0 < book.vector_room
  pub within : length (inserted (one_version g) book.state.vector) ≤ 65536

-- a set that a round makes of the vector
pub record IsMerged (sent : List Interval) (book : BookState) (merged : List Interval) : Type 0 where
  pub vector : IsVector (both (covers book.vector) (covers sent)) merged
  pub within : length merged ≤ 65536

-- the vector has room for the version that the command covers, or is made for a round
abbrev pub CanCover : BookCmd → List Interval → Seen → Type 0
CanCover (RecordLocal usn update) merged book = HasRoomFor (own_version book.state usn) book
CanCover (Adopt update form) merged book = HasRoomFor update.gvsn book
CanCover (Finish sent) merged book = IsMerged sent book.state merged
CanCover (Unstage uid) merged book = Unit {0}

-- the command may be taken without memory: the update has some as one of the book's set, and the form has some, and there is room for a record and for a form, and for what is covered
pub record Fits (ready : Ready) (book : Seen) : Type 0 where
  pub put : ready.put ≡ option_map (in_set book.state.set) (update_of ready.cmd)
  pub form : ready.form ≡ form_brought ready.cmd
  pub room : 0 < book.room
  pub staged_room : 0 < book.staged_room
  pub vector : is_allowed ready.cmd book.state ≡ true → CanCover ready.cmd ready.merged.items book

-- the command may widen the vector
abbrev pub IsWidening : BookCmd → Type 0
IsWidening (RecordLocal usn update) = Unit {0}
IsWidening (Adopt update form) = Unit {0}
IsWidening (Finish sent) = Unit {0}
IsWidening (Unstage uid) = ⊥

-- the command would be done, and the vector would then have too many intervals
abbrev pub IsFull : VectorError → BookCmd → BookState → Type 0
IsFull (VectorFull count) cmd book = (is_allowed cmd book ≡ true) × IsTooLong (VectorFull count) (covered_after cmd book) × IsWidening cmd
IsFull Memory cmd book = Unit {0}
