-- What a book stands for, and how each command carries that on.
use Rattle.std.specs.Prelude.{◌≡◌, ◌+◌, ◌++◌, ℕ, true, false, List, Option, None, Some, MatchOption, find, option_to_list}
use Rattle.frs_base.specs.Options.{In}
use Rattle.frs_base.specs.Versions.{same_uid}
use Rattle.frs_base.specs.declared.kind.MemberKind.{MemberKind}
use Rattle.frs_base.specs.declared.kind.Phase.{Phase}
use Rattle.frs_base.specs.declared.kind.Phase.TheVariants.{Initial, Normal}
use Rattle.frs_base.specs.declared.version.Gvsn.{Gvsn}
use Rattle.frs_base.specs.declared.version.Uid.{Uid}
use Rattle.version_vector.specs.Versions.{covers}
use Rattle.version_vector.specs.declared.interval.Interval.{Interval}
use Rattle.win_order.specs.declared.update.Update.{Update}
use Rattle.record_db.specs.declared.command.BookCmd.TheVariants.{RecordLocal, Adopt, Finish, Unstage}
use Rattle.record_db.specs.Lists.{Lists}
use Rattle.record_db.specs.Records.{Covered, IsBetter, IsHeld, IsHeldOrBeaten, IsRecord, Versions, both, plus}
use Rattle.record_db.specs.Staged.{with_uid}
use Rattle.record_db.specs.State.{BookState, IsVector, form_of, fresh_book}
use Rattle.record_db.specs.Steps.{Changes, own_version}

-- the records are the winners of what is covered among all updates recorded, the vector covers just those versions, the next USN and the phase are these, and what is staged is this
pub record StandsFor (all : List Update) (known : Versions) (next : ℕ) (now : Phase) (forms : Uid → Option (List ℕ)) (book : BookState) : Type 0 where
  pub records : Lists (IsRecord all known) book.records
  pub vector : IsVector known book.vector
  pub consumed : book.consumed ≡ next
  pub phase : book.phase ≡ now
  pub staged : (uid : Uid) → form_of book uid ≡ forms uid

-- ---- the laws

-- a fresh book stands for nothing covered, the first USN, and nothing staged
abbrev pub BeginsStanding : Type 0
BeginsStanding = (kind : MemberKind) (own set : ℕ) (all : List Update) → StandsFor all (λ g. false) 9 Initial (λ uid. None) (fresh_book kind own set)

-- an update of the book's content set that beats the one held, or whose file isn't held
pub record IsFit (all : List Update) (known : Versions) (book : BookState) (u : Update) : Type 0 where
  pub set : u.set ≡ book.set
  pub better : IsBetter (Covered all known) u

-- no update has the version
abbrev pub IsUnused : List Update → Gvsn → Type 0
IsUnused all g = (u : Update) → In u all → u.gvsn ≡ g → ⊥

-- each version is of one update
abbrev pub AreOneEach : List Update → Type 0
AreOneEach all = (u v : Update) → In u all → In v all → u.gvsn ≡ v.gvsn → u ≡ v

-- where an update was made, what is staged of its file goes
abbrev pub dropped_by : Option Update → (Uid → Option (List ℕ)) → Uid → Option (List ℕ)
dropped_by None forms = forms
dropped_by (Some u) forms = with_uid forms u.uid None

-- a member records what the journal record with the USN made, if anything: of the own version with the USN, which is new
abbrev pub RecordsOn : Type 0
RecordsOn = (all : List Update) (known : Versions) (usn : ℕ) (phase : Phase) (forms : Uid → Option (List ℕ)) (old new : BookState) (made : Option Update)
    → StandsFor all known usn phase forms old
    → IsUnused all (own_version old usn)
    → MatchOption made (Unit {0}) (λ u. (u.gvsn ≡ own_version old usn) × IsFit all known old u)
    → Changes (RecordLocal usn made) old new
    → StandsFor (all ++ option_to_list made) (plus known (own_version old usn)) (usn + 1) phase (dropped_by made forms) new

-- a member adopts an update that was recorded and is better than what it holds, and stages a form of its file, or nothing
abbrev pub AdoptsOn : Type 0
AdoptsOn = (all : List Update) (known : Versions) (consumed : ℕ) (phase : Phase) (forms : Uid → Option (List ℕ)) (old new : BookState) (u : Update) (form : Option (List ℕ))
    → StandsFor all known consumed phase forms old
    → AreOneEach all
    → In u all
    → IsFit all known old u
    → Changes (Adopt u form) old new
    → StandsFor all (plus known u.gvsn) consumed phase (with_uid forms u.uid form) new

-- a member finishes a round over a set of which each winner is held or beaten
abbrev pub FinishesOn : Type 0
FinishesOn = (all : List Update) (known other : Versions) (consumed : ℕ) (phase : Phase) (forms : Uid → Option (List ℕ)) (old new : BookState) (sent : List Interval)
    → StandsFor all known consumed phase forms old
    → AreOneEach all
    → ((g : Gvsn) → covers sent g ≡ other g)
    → ((u : Update) → IsRecord all other u → IsHeldOrBeaten (IsRecord all known) u)
    → Changes (Finish sent) old new
    → StandsFor all (both known other) consumed Normal forms new

-- a member lets go of what is staged of a file
abbrev pub UnstagesOn : Type 0
UnstagesOn = (all : List Update) (known : Versions) (consumed : ℕ) (phase : Phase) (forms : Uid → Option (List ℕ)) (old new : BookState) (uid : Uid)
    → StandsFor all known consumed phase forms old
    → Changes (Unstage uid) old new
    → StandsFor all known consumed phase (with_uid forms uid None) new

-- a book stays standing while others record updates that it doesn't cover
abbrev pub StaysStanding : Type 0
StaysStanding = (all more : List Update) (known : Versions) (consumed : ℕ) (phase : Phase) (forms : Uid → Option (List ℕ)) (book : BookState)
    → StandsFor all known consumed phase forms book
    → ((u : Update) → In u more → known u.gvsn ≡ false)
    → StandsFor (all ++ more) known consumed phase forms book

-- what is found by a UID is the winner of that file, or there is none
abbrev pub FindsRecords : Type 0
FindsRecords = (all : List Update) (known : Versions) (consumed : ℕ) (phase : Phase) (forms : Uid → Option (List ℕ)) (book : BookState) (uid : Uid)
    → StandsFor all known consumed phase forms book
    → IsHeld (Covered all known) uid (find (λ r. same_uid r.uid uid) book.records)

-- books that cover the same versions have the same records and the same vector
abbrev pub AreAlike : Type 0
AreAlike = (all : List Update) (known : Versions) (consumed consumed' : ℕ) (phase phase' : Phase) (forms forms' : Uid → Option (List ℕ)) (a b : BookState)
    → StandsFor all known consumed phase forms a
    → StandsFor all known consumed' phase' forms' b
    → (a.records ≡ b.records) × (a.vector ≡ b.vector)
