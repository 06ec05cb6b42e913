-- The first wrong place of two slots.
use Rattle.std.specs.Prelude.{ℕ, ◌≡◌, ◌≢◌, ◌⊎◌, List, Bool, true, false, Option, None}
use Rattle.frs_base.specs.Machines.{Rules}
use Rattle.frs_journal.specs.Reading.{CountsTooMany, IsWhole, LacksRecord}
use Rattle.frs_disk.specs.Crashes.{Crash, IsImage}
use Rattle.frs_disk.specs.Moments.{Now}
use Rattle.frs_journal.specs.Loads.{Loads}
use Rattle.frs_journal.specs.Slots.{generation_of, is_bad, takes_b}
use Rattle.frs_journal.specs.declared.faults.LoadWhy.{LoadWhy}
use Rattle.frs_journal.specs.declared.faults.LoadWhy.TheVariants as why
use Rattle.frs_journal.specs.declared.faults.Slot.{Slot}
use Rattle.frs_journal.specs.declared.faults.Slot.TheVariants.{A, B}
use Rattle.frs_journal.specs.declared.reading.Parsed.{Parsed}
use Rattle.frs_journal.specs.declared.reading.Parsed.TheVariants.{Whole, Broken}

-- the place from which a valid slot has no list: the gate of a record that is none, else the first gate where the count exceeds the commands behind it
abbrev pub IsBroken : {S C : Type 0} → Rules S C → List ℕ → ℕ → Type 0
IsBroken law bytes offset = LacksRecord law bytes offset ⊎ (CountsTooMany law bytes × (offset ≡ 25))

-- what was read of a valid slot
abbrev pub Parses : {S C : Type 0} → Rules S C → List ℕ → Parsed C → Type 0
Parses law bytes (Whole commands saved end) = IsWhole law bytes end saved commands.items
Parses law bytes (Broken offset) = IsBroken law bytes offset

-- a slot that says that it is valid and has another magic, slot a first; else the slot that is taken has no list from this place on
abbrev pub IsDamaged : {S C : Type 0} → Rules S C → List ℕ → List ℕ → Slot → ℕ → Type 0
IsDamaged law a b A offset =
    ((is_bad a ≡ true) × (offset ≡ 1))
    ⊎ ((is_bad a ≡ false) × (is_bad b ≡ false) × (generation_of a ≢ None) × (takes_b (generation_of a) (generation_of b) ≡ false) × IsBroken law a offset)
IsDamaged law a b B offset =
    ((is_bad a ≡ false) × (is_bad b ≡ true) × (offset ≡ 1))
    ⊎ ((is_bad a ≡ false) × (is_bad b ≡ false) × (takes_b (generation_of a) (generation_of b) ≡ true) × IsBroken law b offset)

-- where the slot that is taken, which has these bytes, is called damaged, it is broken there
abbrev pub TakenDamaged : {S C : Type 0} → Rules S C → Slot → List ℕ → LoadWhy → Type 0
TakenDamaged law slot bytes why.Memory = Unit
TakenDamaged law slot bytes (why.DiskFault count) = Unit
TakenDamaged law slot bytes (why.Damaged s offset) = (s ≡ slot) × IsBroken law bytes offset

-- where two slots with these bytes are called damaged, they are, from there on
abbrev pub DamagedIn : {S C : Type 0} → Rules S C → List ℕ → List ℕ → LoadWhy → Type 0
DamagedIn law a b why.Memory = Unit
DamagedIn law a b (why.DiskFault count) = Unit
DamagedIn law a b (why.Damaged slot offset) = IsDamaged law a b slot offset

-- a read gives these bytes, and a crash may leave them
pub record IsRead (bytes : List ℕ) (s : Crash) : Type 0 where
  pub image : IsImage s bytes
  pub seen : s.seen ≡ bytes

-- the same of the bytes that reads give
abbrev pub ReadDamaged : {S C : Type 0} → Rules S C → LoadWhy → Option (List Crash) → Option (List Crash) → Type 0
ReadDamaged law why.Memory a_told b_told = Unit
ReadDamaged law (why.DiskFault count) a_told b_told = Unit
ReadDamaged law (why.Damaged slot offset) a_told b_told =
    (a : List ℕ) × (b : List ℕ) × Now (IsRead a) a_told × Now (IsRead b) b_told × IsDamaged law a b slot offset

-- the bytes that reads give load to this state
abbrev pub ReadLoads : {S C : Type 0} → Rules S C → S → ℕ → Option (List Crash) → Option (List Crash) → Type 0
ReadLoads law state serial a_told b_told =
    (a : List ℕ) × (b : List ℕ) × Now (IsRead a) a_told × Now (IsRead b) b_told × Loads law state serial a b

-- the current slot is the one that is taken by the bytes that reads give, slot a where neither is valid
abbrev pub ReadTakes : Bool → Option (List Crash) → Option (List Crash) → Type 0
ReadTakes in_b a_told b_told =
    (a : List ℕ) × (b : List ℕ) × Now (IsRead a) a_told × Now (IsRead b) b_told × (in_b ≡ takes_b (generation_of a) (generation_of b))
