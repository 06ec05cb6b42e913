-- What is true of every member's machine, whatever its partners send.
use Rattle.std.specs.Prelude.{◌≡◌, ◌<◌, ◌≤◌, ◌^◌, ℕ, List, Option, Some, option_map}
use Rattle.std.specs.List.{AllByRecursion}
use Rattle.frs_base.specs.Identifiers.{content_set}
use Rattle.frs_base.specs.declared.sum.Sum.{Sum}
use Rattle.frs_base.specs.declared.version.Uid.{Uid}
use Rattle.marshal_form.specs.Local.{IsLocalForm, local}
use Rattle.marshal_form.specs.Spelling.{spelling}
use Rattle.version_vector.specs.Versions.{covers}
use Rattle.vol_state.specs.Journal.{IsNumbered}
use Rattle.vol_state.specs.Laws.{AreFree}
use Rattle.vol_state.specs.Maps.{maps_of}
use Rattle.vol_state.specs.Valid.{IsVolume}
use Rattle.record_db.specs.State.{BookState, IsBook, form_of}
use Rattle.world_model.specs.Folder.{FolderIsSound}
use Rattle.world_model.specs.World.{Member}
use Rattle.folder_core.specs.Machine.{Machine}
use Rattle.folder_core.specs.Notes.{form_sum}

-- the sums of the forms that are staged
abbrev pub staged_sums : BookState → Uid → Option Sum
staged_sums book uid = option_map form_sum (form_of book uid)

-- the machine as a member of the world
abbrev pub member_of : Machine → Member
member_of m = record {
  known = covers m.book.vector;
  volume = maps_of m.volume;
  consumed = m.book.consumed;
  kind = m.book.kind;
  phase = m.book.phase;
  staged = staged_sums m.book;
}

-- the volume, the records and what is staged agree
abbrev pub Agrees : Machine → Type 0
Agrees m = FolderIsSound m.book.own (member_of m) m.book.records

-- versions begin at 9, and clocks stay below 2^62
pub record IsInBounds (book : BookState) : Type 0 where
  pub begun : 9 ≤ book.consumed
  pub clocks : AllByRecursion (λ u. u.clock < 2 ^ 62) book.records

-- the form of a local file, and spelled as that is
pub record IsStageable (form : List ℕ) : Type 0 where
  pub contents : List ℕ
  pub is : IsLocalForm form contents
  pub spelled : form ≡ spelling local contents

-- so is what is staged, if anything is
abbrev pub MayBeStaged : Option (List ℕ) → Type 0
MayBeStaged staged = (form : List ℕ) → staged ≡ Some form → IsStageable form

-- so is each form that a book has staged
abbrev pub HasForms : BookState → Type 0
HasForms book = (uid : Uid) → MayBeStaged (form_of book uid)

-- the journal's USNs run from 9 without a gap up to the next, all numbers in use are below the next ones
pub record IsInOrder (m : Machine) : Type 0 where
  pub own : m.volume.own ≡ m.book.own
  pub volume : IsVolume m.volume
  pub numbered : IsNumbered m.volume
  pub free : AreFree m.volume
  pub fids : m.volume.next_fid ≤ m.volume.next_usn
  pub book : IsBook m.book
  pub consumed : m.book.consumed ≤ m.volume.next_usn

-- all of that, of the one content set whose root the volume knows
pub record IsSound (m : Machine) : Type 0 where
  pub order : IsInOrder m
  pub bounds : IsInBounds m.book
  pub forms : HasForms m.book
  pub set : m.book.set ≡ content_set
  pub agrees : Agrees m
