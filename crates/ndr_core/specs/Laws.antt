-- What holds of an item.
use Rattle.std.specs.Prelude.{◌≡◌, ◌⊎◌, ◌+◌, ◌<◌, ℕ, List, [], ◌++◌, Ok, length, slice_index, slice_set}
use Rattle.ndr_core.specs.Cursor.{Cursor}
use Rattle.ndr_core.specs.Items.{AreBytes, Item}
use Rattle.ndr_core.specs.Calls.{reads_all}

-- between two cursors there is a text that spells the value
pub record Took {A : Type 0} (item : Item A) (old : Cursor) (a : A) (new : Cursor) : Type 0 where
  pub text : List ℕ
  pub parts : old.rest ≡ text ++ new.rest
  pub place : new.at ≡ old.at + length text
  pub bytes : AreBytes new.rest
  pub spells : item.Spells old.at a text

-- behind bytes the value is written as a text that spells it
pub record Wrote {A : Type 0} (item : Item A) (out : List ℕ) (a : A) : Type 0 where
  pub text : List ℕ
  pub parts : item.appends out a ≡ out ++ text
  pub spells : item.Spells (length out) a text

-- behind these bytes and behind those the same were written
abbrev pub GrowAlike : List ℕ → List ℕ → List ℕ → List ℕ → Type 0
GrowAlike x y p q = (text : List ℕ) × (p ≡ x ++ text) × (q ≡ y ++ text)

-- what is read is spelled; what is spelled is read, whatever follows; what is written is spelled; and a value is written as the same bytes behind any as many
pub record IsLawful {A : Type 0} (item : Item A) (Fits : A → Type 0) : Type 0 where
  pub sound : (old new : Cursor) (a : A) → AreBytes old.rest → item.reads old ≡ Ok (a, new) → Took item old a new
  pub whole : (at : ℕ) (a : A) (text rest : List ℕ) → item.Spells at a text → item.reads (record { at = at; rest = text ++ rest }) ≡ Ok (a, record { at = at + length text; rest = rest })
  pub written : (out : List ℕ) (a : A) → Fits a → Wrote item out a
  pub placed : (x y : List ℕ) (a : A) → length x ≡ length y → GrowAlike x y (item.appends x a) (item.appends y a)

-- ---- spellings of one value

-- texts of one length that differ only in bytes of which each may be any but 0
pub record DifferInFree (Spells : List ℕ → Type 0) (x y : List ℕ) : Type 0 where
  pub long : length x ≡ length y
  pub each : (i : ℕ) → (slice_index x i ≡ slice_index y i) ⊎ ((byte : ℕ) → 0 < byte → byte < 256 → Spells (slice_set x i byte))

-- a value has one spelling at a place, but for padding, reserved bytes and what a pointer that isn't null is written as
pub record HasOneSpelling {A : Type 0} (item : Item A) : Type 0 where
  pub alike : (at : ℕ) (a : A) (x y : List ℕ) → item.Spells at a x → item.Spells at a y → DifferInFree (item.Spells at a) x y

-- ---- whole bytes

-- bytes that are read spell the value, and bytes that spell a value are read as it
pub record IsExact {A : Type 0} (item : Item A) (bytes : List ℕ) : Type 0 where
  pub found : (a : A) → reads_all item bytes ≡ Ok a → item.Spells 0 a bytes
  pub only : (a : A) → item.Spells 0 a bytes → reads_all item bytes ≡ Ok a

-- what is written is read again
abbrev pub ReadsBack : {A : Type 0} → Item A → (A → Type 0) → Type 0
ReadsBack {A = A} item Fits = (a : A) → Fits a → reads_all item (item.appends [] a) ≡ Ok a

-- what is written spells the value
abbrev pub WritesSpellings : {A : Type 0} → Item A → (A → Type 0) → Type 0
WritesSpellings {A = A} item Fits = (a : A) → Fits a → item.Spells 0 a (item.appends [] a)

-- bytes are exactly read, so that they spell one value at most, and what is written is one of the spellings
pub record IsCodec {A : Type 0} (item : Item A) (Fits : A → Type 0) : Type 0 where
  pub exact : (bytes : List ℕ) → AreBytes bytes → IsExact item bytes
  pub written : WritesSpellings item Fits
  pub back : ReadsBack item Fits
