-- What two slots stand for.
use Rattle.std.specs.Prelude.{ℕ, ◌≡◌, ◌≤◌, ◌+◌, ◌-◌, ◌∷◌, [], ◌++◌, ◌%◌, ◌⊎◌, ◌^◌, ◌<◌, Bool, true, false, List, length, map, Option}
use Rattle.std.specs.Int.{from_le_bytes, w64}
use Rattle.std.specs.List.{All}
use Rattle.frs_base.specs.Machines.{Rules, Runs}
use Rattle.frs_disk.specs.Alarms.{Alarm, FailsAt}
use Rattle.frs_disk.specs.Crashes.{Crash}
use Rattle.frs_disk.specs.Moments.{MayLeave, MightLeave}
use Rattle.frs_journal.specs.Slots.{IsLog, serial_of, taken}

-- a payload that counts the saved commands behind it: 0xFF and the count in eight bytes
pub record Counts (payload : List ℕ) (saved : ℕ) : Type 0 where
  pub bytes : List ℕ
  pub is : payload ≡ 255 ∷ bytes
  pub size : length bytes ≡ 8
  pub count : saved ≡ from_le_bytes w64 bytes

-- what stands before the commands of a slot: nothing, or a payload that counts the saved ones
abbrev pub IsMark : List (List ℕ) → ℕ → Type 0
IsMark [] saved = saved ≡ 0
IsMark (payload ∷ []) saved = Counts payload saved
IsMark (payload ∷ (other ∷ more)) saved = ⊥

-- a load of slots with these bytes gives this state, which came after so many commands, modulo 2^64
pub record Loads {S C : Type 0} (law : Rules S C) (state : S) (serial : ℕ) (a b : List ℕ) : Type 0 where
  pub commands : List C
  pub mark : List (List ℕ)
  pub saved : ℕ
  pub marked : IsMark mark saved
  pub enough : saved ≤ length commands
  pub known : All law.is_cmd commands
  pub log : IsLog a b (mark ++ map law.code commands)
  pub runs : Runs law.step (law.origin state) commands state
  pub count : serial ≡ (serial_of (taken a b) + (length commands - saved)) % 2 ^ 64

-- a load gives this state, or what a command makes of it
abbrev pub LoadsStep : {S C : Type 0} → Rules S C → S → ℕ → C → List ℕ → List ℕ → Type 0
LoadsStep {S = S} law state serial cmd a b =
    Loads law state serial a b ⊎ ((after : S) × law.step state cmd after × Loads law after ((serial + 1) % 2 ^ 64) a b)

-- a load gives what a command makes of this state, or this state, by whether the command is on the disk
abbrev pub LoadsLanded : {S C : Type 0} → Rules S C → S → ℕ → C → Bool → List ℕ → List ℕ → Type 0
LoadsLanded {S = S} law state serial cmd true a b = (after : S) × law.step state cmd after × Loads law after ((serial + 1) % 2 ^ 64) a b
LoadsLanded law state serial cmd false a b = Loads law state serial a b

-- a load gives one of two states
abbrev pub LoadsEither : {S C : Type 0} → Rules S C → S → ℕ → S → ℕ → List ℕ → List ℕ → Type 0
LoadsEither law m k n l a b = Loads law m k a b ⊎ Loads law n l a b

-- each two images are so that a crash of the two disks might have left at some moment since
abbrev pub AnyMoment : (List ℕ → List ℕ → Type 0) → Option (List Crash) → Option (List Crash) → Option (List Crash) → Option (List Crash) → Type 0
AnyMoment Q a_old a_new b_old b_new = (a b : List ℕ) → MightLeave a_old a_new a → MightLeave b_old b_new b → Q a b

-- each two images are so that a crash of the two disks may leave now
abbrev pub NowLeaves : (List ℕ → List ℕ → Type 0) → Option (List Crash) → Option (List Crash) → Type 0
NowLeaves Q a_told b_told = (a b : List ℕ) → MayLeave a_told a → MayLeave b_told b → Q a b

-- two slots load to one of two states at each moment since, where they did before
abbrev pub KeepsEither : {S C : Type 0} → Rules S C → Option (List Crash) → Option (List Crash) → Option (List Crash) → Option (List Crash) → Type 0
KeepsEither {S = S} law a_old a_new b_old b_new =
    (m n : S) (k l : ℕ) → NowLeaves (LoadsEither law m k n l) a_old b_old → AnyMoment (LoadsEither law m k n l) a_old a_new b_old b_new

-- the device call that failed, of a commit's four, was one of the first two, and at each moment since a load gives the state before; or it was one of the last two
abbrev pub StopsAt : {S C : Type 0} → Rules S C → S → ℕ → Option (List Crash) → Option (List Crash) → Option (List Crash) → Option (List Crash) → Alarm → Alarm → Type 0
StopsAt law state serial a_old a_new b_old b_new old new =
    ((k : ℕ) × (k < 2) × FailsAt k old new × AnyMoment (Loads law state serial) a_old a_new b_old b_new)
    ⊎ ((k : ℕ) × (1 < k) × (k < 4) × FailsAt k old new)
