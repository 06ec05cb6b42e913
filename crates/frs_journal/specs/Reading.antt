-- How the records of a slot are read.
use Rattle.std.specs.Prelude.{ℕ, ◌≡◌, ◌≢◌, ◌≤◌, ◌<◌, ◌+◌, ◌-◌, List, ◌∷◌, ◌++◌, length, take, drop, map, get_or, true, ◌&&◌}
use Rattle.std.specs.List.{All}
use Rattle.std.specs.Int.{from_le_bytes, w64}
use Rattle.frs_base.specs.Machines.{Rules}
use Rattle.frs_journal.specs.Loads.{Counts, IsMark}
use Rattle.frs_journal.specs.Slots.{IsShort, framed, has_magic, is_marked, serial_at, slot_front}

-- the generation in a header
unfoldable pub generation_at : List ℕ → ℕ
generation_at c = from_le_bytes w64 (take 8 (drop 9 c))

-- the slot is valid
abbrev pub IsValid : List ℕ → Type 0
IsValid c = (is_marked c && has_magic c) ≡ true

-- behind the first gate there is no whole record of a count with a gate behind it
abbrev pub NoCount : List ℕ → Type 0
NoCount bytes = (payload : List ℕ) (saved gate : ℕ) (more : List ℕ) → Counts payload saved → drop 26 bytes ≡ framed payload ++ gate ∷ more → ⊥

-- behind the opened first gate there is one, of this count
pub record HasCount (bytes : List ℕ) (saved : ℕ) : Type 0 where
  pub payload : List ℕ
  pub open_gate : get_or bytes 25 0 ≡ 1
  pub counts : Counts payload saved
  pub whole : drop 26 bytes ≡ framed payload ++ drop 39 bytes
  pub inside : 39 < length bytes

-- up to this gate the slot has the records of these commands, behind the count of the saved ones if there is one
pub record ReadTo {S C : Type 0} (law : Rules S C) (bytes : List ℕ) (at saved : ℕ) (commands : List C) : Type 0 where
  pub mark : List (List ℕ)
  pub marked : IsMark mark saved
  pub known : All law.is_cmd commands
  pub short : All IsShort (mark ++ map law.code commands)
  pub front : take at bytes ≡ slot_front (generation_at bytes) (serial_at bytes) (mark ++ map law.code commands)
  pub inside : at < length bytes
  pub no_count : at ≡ 25 → get_or bytes 25 0 ≡ 1 → NoCount bytes

-- at this opened gate there is no whole record with a gate behind it, neither of a command nor of a count that may stand there
pub record LacksRecord {S C : Type 0} (law : Rules S C) (bytes : List ℕ) (at : ℕ) : Type 0 where
  pub saved : ℕ
  pub commands : List C
  pub before : ReadTo law bytes at saved commands
  pub open_gate : get_or bytes at 0 ≡ 1
  pub no_command : (x : C) (gate : ℕ) (more : List ℕ) → law.is_cmd x → IsShort (law.code x) → drop (at + 1) bytes ≡ framed (law.code x) ++ gate ∷ more → ⊥

-- the slot has these commands up to a gate that isn't 1, and its count says that more of them were saved
pub record CountsTooMany {S C : Type 0} (law : Rules S C) (bytes : List ℕ) : Type 0 where
  pub at : ℕ
  pub saved : ℕ
  pub commands : List C
  pub before : ReadTo law bytes at saved commands
  pub closed : get_or bytes at 0 ≢ 1
  pub more : length commands < saved

-- the slot has these commands up to a gate that isn't 1, which is its last byte but for what follows
pub record IsWhole {S C : Type 0} (law : Rules S C) (bytes : List ℕ) (end saved : ℕ) (commands : List C) : Type 0 where
  pub before : ReadTo law bytes (end - 1) saved commands
  pub some : 1 ≤ end
  pub closed : get_or bytes (end - 1) 0 ≢ 1
  pub enough : saved ≤ length commands
