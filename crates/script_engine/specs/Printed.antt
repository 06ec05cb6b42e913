-- How versions, vectors and records are printed.
use Rattle.std.specs.Prelude.{ℕ, ◌==◌, ◌&&◌, List, [], ◌∷◌, ◌++◌, bit_and, codes, decimal, encode_utf8_all, if◌then◌else◌, map}
use Rattle.std.specs.Char.Utf16.{utf16_lossy_chars}
use Rattle.std.specs.List.{join_with_byte}
use Rattle.frs_base.specs.Identifiers.{content_set}
use Rattle.frs_base.specs.declared.version.Uid.{Uid}
use Rattle.version_vector.specs.declared.interval.Interval.{Interval}
use Rattle.win_order.specs.declared.update.Update.{Update}
use Rattle.name_rules.specs.Steps.{step_word, subject_of}
use Rattle.name_rules.specs.declared.step.Step.{Step}
use Rattle.name_rules.specs.declared.step.Subject.{Subject}
use Rattle.name_rules.specs.declared.step.Subject.TheVariants as subject
use Rattle.script_engine.specs.declared.names.MemberName.{MemberName}

-- a printed line: its words, parted by one space, and a line feed
abbrev pub printed : List (List ℕ) → List ℕ
printed words = join_with_byte 32 words ++ 10 ∷ []

-- the name of the member whose database this is
abbrev pub name_of : List MemberName → ℕ → List ℕ
name_of [] db = []
name_of (m ∷ ms) db = if m.db == db then m.name else name_of ms db

-- a version or a file: the member's name, a colon, the version
abbrev pub version_word : List MemberName → ℕ → ℕ → List ℕ
version_word names db version = name_of names db ++ (codes ":" ++ decimal version)

-- a version of a member, by its name
abbrev pub own_word : List ℕ → ℕ → List ℕ
own_word name version = name ++ (codes ":" ++ decimal version)

-- an interval: the first version, two dots, the first one past the last
abbrev pub interval_word : List MemberName → Interval → List ℕ
interval_word names i = version_word names i.db i.low ++ (codes ".." ++ decimal i.high)

-- the words of a vector: its intervals in order, or that it is empty
abbrev pub vector_words : List MemberName → List Interval → List (List ℕ)
vector_words names [] = codes "empty" ∷ []
vector_words names (i ∷ is) = map (interval_word names) (i ∷ is)

-- attribute bit 0x10 makes a directory
abbrev pub kind_word : Update → List ℕ
kind_word u = if bit_and u.attributes 0x10 == 0 then codes "f" else codes "d"

-- a tombstone is gone
abbrev pub state_word : Update → List ℕ
state_word u = if u.present then codes "live" else codes "gone"

-- the parent's UID; the root's is the content set with version 1
abbrev pub parent_word : List MemberName → Uid → List ℕ
parent_word names uid = if uid.db == content_set && uid.version == 1 then codes "root" else version_word names uid.db uid.version

-- a name of UTF-16 units as text
abbrev pub name_word : List ℕ → List ℕ
name_word units = encode_utf8_all (utf16_lossy_chars units)

-- what a record is of: UID GVSN KIND STATE
abbrev pub subject_words : List MemberName → Update → List (List ℕ)
subject_words names u =
    version_word names u.uid.db u.uid.version ∷ version_word names u.gvsn.db u.gvsn.version ∷ kind_word u ∷ state_word u ∷ []

-- where it is, and what it is ordered by: PARENT NAME FENCE CLOCK CREATE
abbrev pub place_words : List MemberName → Update → List (List ℕ)
place_words names u =
    parent_word names u.parent ∷ name_word u.name ∷ decimal u.fence ∷ decimal u.clock ∷ decimal u.created ∷ []

-- UID GVSN KIND STATE PARENT NAME FENCE CLOCK CREATE
abbrev pub record_words : List MemberName → Update → List (List ℕ)
record_words names u = subject_words names u ++ place_words names u

-- what a step is of: the file; of a journal record the version that it covers
abbrev pub step_subject : List MemberName → List ℕ → Step → List ℕ
step_subject names own step = of (subject_of step)
  where
    of : Subject → List ℕ
    of (subject.Uid uid) = version_word names uid.db uid.version
    of (subject.Usn usn) = own_word own usn

-- the word of a step, and what it is of
abbrev pub step_words : List MemberName → List ℕ → Step → List (List ℕ)
step_words names own step = step_word step ∷ step_subject names own step ∷ []
